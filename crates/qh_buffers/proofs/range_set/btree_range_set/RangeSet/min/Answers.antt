use Rattle.std.proofs.Common.{ℕ, drop}
use Rattle.qh_buffers.proofs.StoredPieces.{first_is}
use Rattle.qh_buffers.proofs.PairedRanges.{least_of}
use Rattle.qh_buffers.proofs.range_set.btree_range_set.RangeSet.min.Goals as goal

pub returns : goal.returns
returns c =
    let es = c.self.inside.ranges.entries in
    let f : ℕ × ℕ = (c.in_ok-start.start.now, c.in_ok-start.field-0-1.now) in
    rw (← c.self.view_is) (least_of es (drop 1 es) f c.self.invariant (first_is es f c.in_ok-start.ensures.first))
