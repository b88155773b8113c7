use Rattle.std.proofs.Common.{arith}
use Rattle.qh_buffers.proofs.PairedLists.{first_above}
use Rattle.qh_buffers.proofs.PairedRanges.{free_to, free_all}
use Rattle.qh_buffers.proofs.range_set.btree_range_set.had_from.Goals as goal

pub returns-in-Some-clause-above : goal.returns-in-Some-clause-above
returns-in-Some-clause-above c =
    let first = c.in-Some.ensures.first in
    let later = first_above c.args.ranges.now.entries first.0 c.args.number (c.in-Some.range.start, c.in-Some.range.end) first.1 in
    omega (arith, c.min.ensures, c.requires.order, later)

pub returns-in-Some-clause-free : goal.returns-in-Some-clause-free
returns-in-Some-clause-free c = λ k low high.
    let first = c.in-Some.ensures.first in
    free_to c.args.ranges.now.entries c.args.number c.requires.apart c.requires.lacks (c.in-Some.range.start, c.in-Some.range.end) first.0 first.1 k low (omega (arith, c.min.ensures))

pub returns-in-None-clause-free : goal.returns-in-None-clause-free
returns-in-None-clause-free c = λ k low high.
    free_all c.args.ranges.now.entries c.args.number c.requires.apart c.requires.lacks c.in-None.ensures.first k low
