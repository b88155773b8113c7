use Rattle.std.proofs.Common.{◌≡◌, ℕ, ◌+◌, ◌-◌, List, ◌∷◌, ap, ◌∙◌, sym, arith, subst}
use Rattle.std.specs.Prelude.{IsSome}
use Rattle.qh_frame.proofs.Acks.{next_fits, next_numbers}
use Rattle.qh_frame.specs.AckAt.{end_of, numbers_of}
use Rattle.qh_frame.specs.FieldsAt.{pairs_at}
use Rattle.qh_frame.proofs.ack.Ack.below.Goals as goal

moved : (greatest g first f k : ℕ) (rest : List ℕ) → greatest ≡ g → first ≡ f → IsSome (end_of g f (pairs_at k rest)) → IsSome (end_of greatest first (pairs_at k rest))
moved greatest g first f k rest a b h =
    subst (λ (z : ℕ). IsSome (end_of z first (pairs_at k rest))) (sym a) (subst (λ (z : ℕ). IsSome (end_of g z (pairs_at k rest))) (sym b) h)

pub overflow_sub-into_inner : goal.overflow_sub-into_inner
overflow_sub-into_inner c =
    let fits = next_fits c.args.self.now.greatest c.args.self.now.first c.args.self.now.pairs (c.args.self.now.pairs - 1) c.in-Some.gap c.in-Some-value_of.first c.args.self.now.bytes.now c.in-Some.rest.now c.in-Some-value_of.rest.now (omega arith) c.in-Some.ensures.exact c.in-Some-value_of.ensures.exact c.args.self.now.whole in
    omega (arith, fits.0, c.into_inner.ensures.value, c.into_inner-2.ensures.value)

pub invariant_of-result : goal.invariant_of-result
invariant_of-result c =
    let fits = next_fits c.args.self.now.greatest c.args.self.now.first c.args.self.now.pairs (c.args.self.now.pairs - 1) c.in-Some.gap c.in-Some-value_of.first c.args.self.now.bytes.now c.in-Some.rest.now c.in-Some-value_of.rest.now (omega arith) c.in-Some.ensures.exact c.in-Some-value_of.ensures.exact c.args.self.now.whole in
    record {
      whole = moved c.number-greatest.result (c.args.self.now.greatest - (2 + c.in-Some.gap + c.args.self.now.first)) c.number.result c.in-Some-value_of.first (c.args.self.now.pairs - 1) c.in-Some-value_of.rest.now
          (omega (arith, c.number-greatest.ensures, c.into_inner.ensures.value, c.into_inner-2.ensures.value)) c.number.ensures fits.1;
    }

pub returns : goal.returns
returns c =
    let fits = next_fits c.args.self.now.greatest c.args.self.now.first c.args.self.now.pairs (c.args.self.now.pairs - 1) c.in-Some.gap c.in-Some-value_of.first c.args.self.now.bytes.now c.in-Some.rest.now c.in-Some-value_of.rest.now (omega arith) c.in-Some.ensures.exact c.in-Some-value_of.ensures.exact c.args.self.now.whole in
    record {
      gap = c.in-Some.gap;
      ranges_are = ap (λ (z : List ℕ). c.args.self.now.first ∷ z)
          (next_numbers _ _ c.args.self.now.pairs (c.args.self.now.pairs - 1) c.in-Some.gap c.in-Some-value_of.first c.args.self.now.bytes.now c.in-Some.rest.now c.in-Some-value_of.rest.now (omega arith)
          c.in-Some.ensures.exact c.in-Some-value_of.ensures.exact fits.1
          ∙ ap (λ (n : ℕ). c.in-Some.gap ∷ (n ∷ numbers_of (pairs_at (c.args.self.now.pairs - 1) c.in-Some-value_of.rest.now))) (sym c.number.ensures));
      next_is = omega (arith, fits.0, c.number-greatest.ensures, c.into_inner.ensures.value, c.into_inner-2.ensures.value);
    }
