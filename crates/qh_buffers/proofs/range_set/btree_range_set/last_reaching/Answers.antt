use Rattle.qh_buffers.proofs.PairedRanges.{last_split}
use Rattle.qh_buffers.proofs.range_set.btree_range_set.last_reaching.Goals as goal

pub returns : goal.returns
returns c =
    let split = last_split c.args.ranges.now.entries (c.in_ok-start.start.now, c.in_ok-start.end.now) c.in_ok-start.ensures.last in
    (split.0, split.1, c.if-number-start.false, c.if-end-number.false)
