use Rattle.std.proofs.Common.{◌∙◌, ℕ, List, ap, slice_get}
use Rattle.std.specs.declared.ops.Range.{Range}
use Rattle.qh_buffers.proofs.RangeGaps.{least_of}
use Rattle.qh_buffers.proofs.range_set.array_range_set.ArrayRangeSet.min.Goals as goal

pub returns : goal.returns
returns c =
    rw (← c.self.view_is) (least_of c.self.inside.ranges.items c.in_ok-first.first.now c.self.invariant (c.in_ok-first.ensures.value ∙ ap (λ (l : List (Range ℕ)). slice_get l 0) c.deref.ensures.value))
