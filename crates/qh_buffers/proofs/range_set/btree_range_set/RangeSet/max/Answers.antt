use Rattle.qh_buffers.proofs.PairedRanges.{greatest_of}
use Rattle.qh_buffers.proofs.range_set.btree_range_set.RangeSet.max.Goals as goal

pub overflow_sub-result : goal.overflow_sub-result
overflow_sub-result c =
    (greatest_of c.self.inside.ranges.entries (c.in_ok-end.field-0-0.now, c.in_ok-end.end.now) c.self.invariant c.in_ok-end.ensures.last).0

pub returns : goal.returns
returns c =
    rw (← c.self.view_is) (greatest_of c.self.inside.ranges.entries (c.in_ok-end.field-0-0.now, c.in_ok-end.end.now) c.self.invariant c.in_ok-end.ensures.last).1
