use Rattle.qh_buffers.proofs.JoinedRanges.{ends_before}
use Rattle.qh_buffers.proofs.range_set.btree_range_set.reaching.Goals as goal

pub returns-then-earlier-number-clause-none : goal.returns-then-earlier-number-clause-none
returns-then-earlier-number-clause-none c = λ _.
    let last = c.in_ok-earlier.ensures.last in
    ends_before c.args.ranges.now.entries last.0 (c.in_ok-earlier.earlier.start, c.in_ok-earlier.earlier.end) c.args.number last.1 c.if-earlier-number.true
