-- The first moment at which something is due, if there is one.
use Rattle.std.proofs.Common.{◌≡◌, ◌⊎◌, ℕ, ◌<◌, ◌≤◌, Option, Some, None, refl, sym, subst, arith, inl, inr}
use Rattle.std.proofs.lemmas.Option.{none-some, same_Some}
use Rattle.std.specs.Prelude.{IfSome}
use Rattle.qh_base.specs.declared.time.Moment.{Moment}

-- none if this holds of no moment, else the first of which it holds
pub record IsFirstOf (P : ℕ → Type 0) (o : Option Moment) : Type 0 where
  pub never : o ≡ None → (m : ℕ) → P m → ⊥
  pub is_then : (t : Moment) → o ≡ Some t → P t.0
  pub first : (t : Moment) (m : ℕ) → o ≡ Some t → P m → t.0 ≤ m

-- if it holds of one moment at most
pub only_moment : (P : ℕ → Type 0) (o : Option Moment) → ((m k : ℕ) → P m → P k → m ≡ k) → (o ≡ None → (m : ℕ) → P m → ⊥) → IfSome o (λ t. P t.0) → IsFirstOf P o
only_moment P None one none there = record { never = none; is_then = λ t e. absurd (none-some t e); first = λ t m e p. absurd (none-some t e) }
only_moment P (Some u) one none there =
    let at : (t : Moment) → Some u ≡ Some t → P t.0 = λ t e. subst (λ (x : Moment). P x.0) (same_Some u t e) there in
    record {
      never = λ e. absurd (none-some u (sym e));
      is_then = at;
      first = λ t m e p. let same = one t.0 m (at t e) p in omega (arith, same);
    }

-- what is no later than the first moment, is no later than any
before_any : (P : ℕ → Type 0) (o : Option Moment) (bound m : ℕ) → IsFirstOf P o → ((t : Moment) → o ≡ Some t → bound ≤ t.0) → P m → bound ≤ m
before_any P None bound m first least p = absurd (first.never refl m p)
before_any P (Some t) bound m first least p =
    let to_first = least t refl in
    let from_first = first.first t m refl p in
    omega (arith, to_first, from_first)

-- what is earlier than the first moment, is earlier than any
pub not_due : (P : ℕ → Type 0) (o : Option Moment) (now m : ℕ) → IsFirstOf P o → ((t : Moment) → o ≡ Some t → now < t.0) → P m → now < m
not_due P None now m first later p = absurd (first.never refl m p)
not_due P (Some t) now m first later p =
    let to_first = later t refl in
    let from_first = first.first t m refl p in
    omega (arith, to_first, from_first)

-- the earlier of two
pub earlier_first : (P Q : ℕ → Type 0) (a b o : Option Moment) → IsFirstOf P a → IsFirstOf Q b → (o ≡ None → (a ≡ None) × (b ≡ None))
    → ((t : Moment) → o ≡ Some t → (a ≡ Some t) ⊎ (b ≡ Some t)) → ((t s : Moment) → o ≡ Some t → (a ≡ Some s) ⊎ (b ≡ Some s) → t.0 ≤ s.0) → IsFirstOf (λ m. P m ⊎ Q m) o
earlier_first P Q a b o of_a of_b none one least = record {
  never = λ e m due. elim due [
    | inl p ↦ of_a.never (none e).0 m p
    | inr q ↦ of_b.never (none e).1 m q
  ];
  is_then = λ t e. elim (one t e) [
    | inl x ↦ inl (of_a.is_then t x)
    | inr y ↦ inr (of_b.is_then t y)
  ];
  first = λ t m e due. elim due [
    | inl p ↦ before_any P a t.0 m of_a (λ s x. least t s e (inl x)) p
    | inr q ↦ before_any Q b t.0 m of_b (λ s y. least t s e (inr y)) q
  ];
}
