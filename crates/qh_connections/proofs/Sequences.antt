-- The ids of a connection by their sequences, when one is put or taken.
use Rattle.std.proofs.Common.{◌≡◌, ◌≢◌, ℕ, Bool, true, false, cond, List, [], ◌∷◌, Option, Some, None, refl, sym, ap, ◌∙◌, inl, inr}
use Rattle.std.specs.declared.cmp.Ordering.{Ordering}
use Rattle.std.specs.declared.cmp.Ordering.TheVariants.{Less, Equal, Greater}
use Rattle.std.specs.BTreeMap.{insert_entry, is_at}
use Rattle.std.specs.Cmp.{nat_cmp_is}
use Rattle.std.specs.List.Sorted.{IsStrictlySortedBy}
use Rattle.std.specs.Map.{keys_of, lookup, remove_entry}
use Rattle.std.specs.Ordering.{is_eq, match_ordering, nat_cmp}
use Rattle.std.proofs.lemmas.Bool.{cases_Bool}
use Rattle.std.proofs.lemmas.Cmp.{eq_by_cmp_equiv, nat_cmp_total}
use Rattle.std.proofs.lemmas.Map.{lookup-remove_entry}
use Rattle.std.proofs.lemmas.Map.Keys.{IsDistinct-from_sorted}
use Rattle.std.proofs.lemmas.Map.Lookups.{exact_unsigned}
use Rattle.std.proofs.lemmas.Map.Views.{tells_apart}

abbrev pub Ids : Type 0
Ids = List (ℕ × List ℕ)

-- the id with this sequence
abbrev pub at : Ids → (sequence : ℕ) → Option (List ℕ)
at es n = lookup (is_at (nat_cmp n)) es

same_cmp : (n : ℕ) → nat_cmp n n ≡ Equal
same_cmp n = sym (nat_cmp_is n n Equal refl)

here : (n : ℕ) → is_at (nat_cmp n) n ≡ true
here n = ap is_eq (same_cmp n)

elsewhere : (q n : ℕ) → q ≢ n → is_at (nat_cmp q) n ≡ false
elsewhere q n apart = elim (cases_Bool (is_at (nat_cmp q) n)) [ inl t ↦ absurd (apart (tells_apart exact_unsigned q n t)) | inr f ↦ f ]

-- ---- one is put

there_by : (o : Ordering) (n : ℕ) (id : List ℕ) (e : ℕ × List ℕ) (es rest : Ids) → nat_cmp n e.0 ≡ o → at rest n ≡ Some id → at (match_ordering o ((n, id) ∷ e ∷ es) ((e.0, id) ∷ es) (e ∷ rest)) n ≡ Some id
there_by Less n id e es rest is w = ap (λ b. cond b (Some id) (at (e ∷ es) n)) (here n)
there_by Equal n id e es rest is w = ap (λ o. cond (is_eq o) (Some id) (at es n)) is
there_by Greater n id e es rest is w = ap (λ o. cond (is_eq o) (Some e.1) (at rest n)) is ∙ w

pub put_there : (n : ℕ) (id : List ℕ) (es : Ids) → at (insert_entry nat_cmp es n id) n ≡ Some id
put_there n id [] = ap (λ b. cond b (Some id) None) (here n)
put_there n id (e ∷ es) = there_by (nat_cmp n e.0) n id e es (insert_entry nat_cmp es n id) refl (put_there n id es)

other_by : (o : Ordering) (q n : ℕ) (id : List ℕ) (e : ℕ × List ℕ) (es rest : Ids) → q ≢ n → nat_cmp n e.0 ≡ o → at rest q ≡ at es q
    → at (match_ordering o ((n, id) ∷ e ∷ es) ((e.0, id) ∷ es) (e ∷ rest)) q ≡ at (e ∷ es) q
other_by Less q n id e es rest apart is w = ap (λ b. cond b (Some id) (at (e ∷ es) q)) (elsewhere q n apart)
other_by Equal q n id e es rest apart is w =
    let no = elsewhere q e.0 (λ same. apart (same ∙ sym (exact_unsigned n e.0 is))) in
    ap (λ b. cond b (Some id) (at es q)) no ∙ sym (ap (λ b. cond b (Some e.1) (at es q)) no)
other_by Greater q n id e es rest apart is w = ap (cond (is_at (nat_cmp q) e.0) (Some e.1)) w

pub put_other : (q n : ℕ) (id : List ℕ) (es : Ids) → q ≢ n → at (insert_entry nat_cmp es n id) q ≡ at es q
put_other q n id [] apart = ap (λ b. cond b (Some id) None) (elsewhere q n apart)
put_other q n id (e ∷ es) apart = other_by (nat_cmp n e.0) q n id e es (insert_entry nat_cmp es n id) apart refl (put_other q n id es apart)

-- ---- one is taken

abbrev pub without : Ids → (sequence : ℕ) → Ids
without es n = remove_entry (is_at (nat_cmp n)) es

pub taken_there : (n : ℕ) (es : Ids) → IsStrictlySortedBy nat_cmp (keys_of es) → at (without es n) n ≡ None
taken_there n es sorted =
    lookup-remove_entry (eq_by_cmp_equiv nat_cmp_total) (is_at (nat_cmp n)) (λ x y t. ap (λ k. is_at (nat_cmp k) y) (tells_apart exact_unsigned n x t)) n es (IsDistinct-from_sorted nat_cmp (keys_of es) sorted)
    ∙ ap (λ b. cond b None (at es n)) (here n)

left_by : (b : Bool) (q n : ℕ) (e : ℕ × List ℕ) (es rest : Ids) → q ≢ n → is_at (nat_cmp n) e.0 ≡ b → at rest q ≡ at es q → at (cond b es (e ∷ rest)) q ≡ at (e ∷ es) q
left_by true q n e es rest apart is w = sym (ap (λ b. cond b (Some e.1) (at es q)) (elsewhere q e.0 (λ same. apart (same ∙ sym (tells_apart exact_unsigned n e.0 is)))))
left_by false q n e es rest apart is w = ap (cond (is_at (nat_cmp q) e.0) (Some e.1)) w

pub taken_other : (q n : ℕ) (es : Ids) → q ≢ n → at (without es n) q ≡ at es q
taken_other q n [] apart = refl
taken_other q n (e ∷ es) apart = left_by (is_at (nat_cmp n) e.0) q n e es (without es n) apart refl (taken_other q n es apart)

none_by : (b : Bool) (n : ℕ) (e : ℕ × List ℕ) (es rest : Ids) → cond b (Some e.1) (at es n) ≡ None → (at es n ≡ None → rest ≡ es) → cond b es (e ∷ rest) ≡ e ∷ es
none_by true n e es rest h w = cc
none_by false n e es rest h w = ap (λ (z : Ids). e ∷ z) (w h)

-- none has this sequence
pub taken_none : (n : ℕ) (es : Ids) → at es n ≡ None → without es n ≡ es
taken_none n [] h = refl
taken_none n (e ∷ es) h = none_by (is_at (nat_cmp n) e.0) n e es (without es n) h (taken_none n es)
