-- Fields in another order.
use Rattle.std.proofs.Common.{◌≡◌, inl, inr, ℕ, List, [], ◌∷◌, refl, ap, subst, arith}
use Rattle.std.specs.Prelude.{codes, bytes_eq, slice_index}
use Rattle.std.proofs.lemmas.Bool.{cases_Bool}
use Rattle.std.proofs.lemmas.Slice.Eq.{bytes_eq-Decides}
use Rattle.qh_spec.specs.MessageRows.{age_link, link_age, two_ages, two_ages_turned}
use Rattle.qh_spec.specs.Same.{SameFields, bytes_under}

pub names_turned : SameFields age_link link_age
names_turned name =
    elim (cases_Bool (bytes_eq (codes "age") name)) [
      | inl t ↦
          let same : codes "age" ≡ name = (bytes_eq-Decides (codes "age") name).0 t in
          subst (λ (z : List ℕ). bytes_under age_link z ≡ bytes_under link_age z) same refl
      | inr t ↦ elim (cases_Bool (bytes_eq (codes "link") name)) [ inl u ↦ rw (t, u) refl | inr u ↦ rw (t, u) refl ]
    ]

first_byte : List (List ℕ) → ℕ
first_byte [] = 0
first_byte (x ∷ xs) = slice_index x 0

pub values_turned : SameFields two_ages two_ages_turned → ⊥
unfolding first_byte
values_turned f =
    let e : codes "1" ∷ codes "2" ∷ [] ≡ codes "2" ∷ codes "1" ∷ [] = f (codes "age") in
    let first : ◌≡◌ {A = ℕ} 49 50 = ap (λ (z : List (List ℕ)). first_byte z) e in
    omega arith
