use Rattle.std.proofs.Common.{◌≡◌, ℕ, ◌++◌, List, true, Option, is_some, refl, ap, ◌∙◌, arith}
use Rattle.qh_buffers.specs.Ranges.{before, from_on}
use Rattle.qh_buffers.proofs.ClippedRanges.{before_removed, from_removed, all_outside}
use Rattle.qh_buffers.proofs.range_set.btree_range_set.remove_between.Goals as goal

pub loop-start-smaller : goal.loop-start-smaller
loop-start-smaller c =
    let there : is_some c.remove.result ≡ true = ap (λ (o : Option ℕ). is_some o) c.remove.ensures.value ∙ c.in-Some.ensures.some.2 in
    let less = rw there at c.remove.ensures.len in
    omega (arith, less)

pub loop-start-preserved : goal.loop-start-preserved
loop-start-preserved c =
    let es = c.loop-start.ranges.entries in
    let some = c.in-Some.ensures.some in
    record {
      front = ap (before c.args.from) c.remove.ensures.entries ∙ before_removed es c.args.from c.in-Some.start some.0 ∙ c.loop-start.invariant.front;
      rest = ap (from_on c.args.to) c.remove.ensures.entries ∙ from_removed es c.args.to c.in-Some.start some.1 ∙ c.loop-start.invariant.rest;
    }

pub returns : goal.returns
returns c =
    let es = c.loop-start.ranges.entries in
    all_outside es c.args.from c.args.to c.in_default.ensures.ordered c.requires (c.in_default.ensures.none refl)
    ∙ ap (λ (l : List (ℕ × ℕ)). l ++ from_on c.args.to es) c.loop-start.invariant.front
    ∙ ap (λ (l : List (ℕ × ℕ)). before c.args.from c.args.ranges.now.entries ++ l) c.loop-start.invariant.rest
