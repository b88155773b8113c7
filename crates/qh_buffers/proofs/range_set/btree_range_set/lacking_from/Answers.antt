use Rattle.std.proofs.Common.{ℕ, ap, ◌∙◌, arith}
use Rattle.qh_buffers.specs.Ranges.{has, paired}
use Rattle.qh_buffers.proofs.PairedRanges.{full_to, end_lacks, none_lacks}
use Rattle.qh_buffers.proofs.range_set.btree_range_set.lacking_from.Goals as goal

pub returns-in-Some-clause-full : goal.returns-in-Some-clause-full
returns-in-Some-clause-full c = λ k low high.
    let last = c.in-Some.ensures.last in
    full_to c.args.ranges.now.entries last.0 (c.in-Some.range.start, c.in-Some.range.end) c.args.number c.requires last.1 k low (omega (arith, c.max.ensures))

pub returns-in-Some-clause-lacks : goal.returns-in-Some-clause-lacks
returns-in-Some-clause-lacks c =
    let last = c.in-Some.ensures.last in
    ap (λ (k : ℕ). has (paired c.args.ranges.now.entries) k) c.max.ensures ∙ end_lacks c.args.ranges.now.entries last.0 (c.in-Some.range.start, c.in-Some.range.end) c.args.number c.requires last.1

pub returns-in-None-clause-lacks : goal.returns-in-None-clause-lacks
returns-in-None-clause-lacks c = none_lacks c.args.ranges.now.entries c.args.number c.requires c.in-None.ensures.last
