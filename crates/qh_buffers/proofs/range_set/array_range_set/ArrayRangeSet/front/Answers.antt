use Rattle.std.proofs.Common.{◌∙◌, ℕ, List, ap, slice_get}
use Rattle.std.specs.declared.ops.Range.{Range}
use Rattle.qh_buffers.proofs.RangeGaps.{first_lacks, zero_lacks}
use Rattle.qh_buffers.proofs.range_set.array_range_set.ArrayRangeSet.front.Goals as goal

pub returns-then-first-eq0-clause-lacks : goal.returns-then-first-eq0-clause-lacks
returns-then-first-eq0-clause-lacks c =
    let first = c.in-Some.ensures.value ∙ ap (λ (l : List (Range ℕ)). slice_get l 0) c.deref.ensures.value in
    rw (← c.self.view_is) (first_lacks c.self.inside.ranges.items c.in-Some.first.now c.self.invariant first)

pub returns-clause-lacks : goal.returns-clause-lacks
returns-clause-lacks c =
    let first = c.in-Some.ensures.value ∙ ap (λ (l : List (Range ℕ)). slice_get l 0) c.deref.ensures.value in
    rw (← c.self.view_is) (zero_lacks c.self.inside.ranges.items c.in-Some.first.now c.self.invariant first c.if-first-eq0.false)
