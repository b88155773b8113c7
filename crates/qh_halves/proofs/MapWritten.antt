-- A value written back to a map by numbers.
use Rattle.std.proofs.Common.{◌≡◌, ℕ, ◌==◌, Bool, true, List, Some, IsSome, if◌then◌else◌, refl, sym, ap, ◌∙◌, arith, inl, inr}
use Rattle.std.specs.Ordering.{nat_cmp, eq_by_cmp}
use Rattle.std.specs.BTreeMap.{is_at}
use Rattle.std.specs.Map.{lookup, set_value}
use Rattle.std.proofs.lemmas.Bool.{false≢true}
use Rattle.std.proofs.lemmas.Bool.Decides.{eqb_tells}
use Rattle.std.proofs.lemmas.Cmp.{eq_by_cmp_equiv, nat_cmp_total}
use Rattle.std.proofs.lemmas.Map.{lookup-set_value}
use Rattle.std.proofs.lemmas.Map.Steps.{set_value_same}

pub at_key : (id k : ℕ) → is_at (nat_cmp id) k ≡ (k == id)
at_key id k = grind arith

same_key : (id k : ℕ) → is_at (nat_cmp id) k ≡ true → k ≡ id
same_key id k e = elim (eqb_tells k id) [
  | inl same ↦ same.1
  | inr apart ↦ absurd (false≢true (sym apart.0 ∙ sym (at_key id k) ∙ e))
]

one_key : (id x y : ℕ) → is_at (nat_cmp id) x ≡ true → is_at (nat_cmp id) y ≡ eq_by_cmp nat_cmp x y
one_key id x y e = ap (λ (n : ℕ). is_at (nat_cmp n) y) (sym (same_key id x e))

module _ {X : Type 0} (es : List (ℕ × X)) (id : ℕ) (old next : X) (was : lookup (is_at (nat_cmp id)) es ≡ Some old) where
  -- the value of each key, once one was written
  pub value_written : (k : ℕ) → lookup (is_at (nat_cmp k)) (set_value (is_at (nat_cmp id)) es next) ≡ (if k == id then Some next else lookup (is_at (nat_cmp k)) es)
  value_written k =
      let some : IsSome (lookup (is_at (nat_cmp id)) es) = rw was refl in
      lookup-set_value (eq_by_cmp_equiv nat_cmp_total) (is_at (nat_cmp id)) (one_key id) k next es some
      ∙ ap (λ (b : Bool). if b then Some next else lookup (is_at (nat_cmp k)) es) (at_key id k)

  -- what is written back as it was changes nothing
  pub same_written : (after : List (ℕ × X)) → after ≡ set_value (is_at (nat_cmp id)) es next → next ≡ old → after ≡ es
  same_written after after_is same = after_is ∙ ap (set_value (is_at (nat_cmp id)) es) same ∙ set_value_same (is_at (nat_cmp id)) es old was
