use Rattle.std.proofs.Common.{◌∙◌, ℕ, ◌-◌, List, length, ap, slice_get}
use Rattle.std.specs.declared.ops.Range.{Range}
use Rattle.qh_buffers.proofs.RangeGaps.{greatest_of}
use Rattle.qh_buffers.proofs.range_set.array_range_set.ArrayRangeSet.max.Goals as goal

pub overflow_sub-result : goal.overflow_sub-result
overflow_sub-result c =
    (greatest_of c.self.inside.ranges.items c.in_ok-last.last.now c.self.invariant (c.in_ok-last.ensures.value ∙ ap (λ (l : List (Range ℕ)). slice_get l (length l - 1)) c.deref.ensures.value)).0

pub returns : goal.returns
returns c =
    rw (← c.self.view_is) (greatest_of c.self.inside.ranges.items c.in_ok-last.last.now c.self.invariant (c.in_ok-last.ensures.value ∙ ap (λ (l : List (Range ℕ)). slice_get l (length l - 1)) c.deref.ensures.value)).1
