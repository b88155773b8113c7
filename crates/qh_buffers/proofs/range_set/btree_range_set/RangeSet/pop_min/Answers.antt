use Rattle.qh_buffers.proofs.PairedRanges.{popped_apart}
use Rattle.qh_buffers.proofs.range_set.btree_range_set.RangeSet.pop_min.Goals as goal

pub invariant_of-self-2 : goal.invariant_of-self-2
invariant_of-self-2 c =
    popped_apart c.self.inside.ranges.entries c.pop_first.new.self.entries (c.in_ok-start.start, c.in_ok-start.end) c.self.invariant c.in_ok-start.ensures.removal
