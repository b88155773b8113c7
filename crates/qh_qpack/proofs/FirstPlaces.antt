-- The first place of a row that passes.
use Rattle.std.proofs.Common.{◌≡◌, ℕ, suc, ◌+◌, ◌<◌, nat_lt, Bool, true, if◌then◌else◌, List, [], ◌∷◌, length, refl, sym, ap, ◌∙◌, arith, inl, inr, bytes_eq, Option, Some, None, slice_get}
use Rattle.std.specs.Prelude.{position, IfSome}
use Rattle.std.specs.List.{position_or_len}
use Rattle.std.proofs.lemmas.Bool.{cases_lt, cases_Bool, lt-ltb, le-ltb}
use Rattle.std.proofs.lemmas.List.Quantifiers.{position-Some}
use Rattle.qh_spec.specs.Fields.{Field}
use Rattle.qh_spec.specs.Section.{same_name, same_field}
use Rattle.qh_spec.specs.StaticTable.{static_table}
use Rattle.qh_spec.proofs.SectionRows.{table_size}
use Rattle.qh_qpack.specs.Places.{has_name, places, row_with}

-- the index of the first row that passes, where the first has the index `k`
abbrev find_from : (Field → Bool) → ℕ → List Field → Option ℕ
find_from p k [] = None
find_from p k (f ∷ fs) = if p f then Some k else find_from p (k + 1) fs

below_both : (m n : ℕ) → nat_lt (1 + m) (suc n) ≡ nat_lt m n
below_both m n =
    elim (cases_lt m n) [
      | inl l ↦ lt-ltb (1 + m) (suc n) (omega arith) ∙ sym (lt-ltb m n l)
      | inr g ↦ le-ltb (1 + m) (suc n) (omega arith) ∙ sym (le-ltb m n g)
    ]

found_from : (p : Field → Bool) (k : ℕ) (fs : List Field) → (if nat_lt (position_or_len p fs) (length fs) then Some (k + position_or_len p fs) else None) ≡ find_from p k fs
found_from p k [] = refl
found_from p k (f ∷ fs) =
    elim (cases_Bool (p f)) [
      | inl t ↦
          let here : nat_lt 0 (suc (length fs)) ≡ true = lt-ltb 0 (suc (length fs)) (omega arith) in
          let e : k + 0 ≡ k = omega arith in
          rw (t, here, e) refl
      | inr t ↦
          let n : ℕ = position_or_len p fs in
          let one : nat_lt (1 + n) (suc (length fs)) ≡ nat_lt n (length fs) = below_both n (length fs) in
          let e : k + (1 + n) ≡ k + 1 + n = omega arith in
          rw (t, one, e) (found_from p (k + 1) fs)
    ]

position_is : (p : Field → Bool) (fs : List Field) → position p fs ≡ find_from p 0 fs
position_is p fs =
    let e : 0 + position_or_len p fs ≡ position_or_len p fs = omega arith in
    rw e at (found_from p 0 fs)

first_place : (p : Field → Bool) (k : ℕ) (fs : List Field) → slice_get (places p k fs) 0 ≡ find_from p k fs
first_place p k [] = refl
first_place p k (f ∷ fs) =
    elim (cases_Bool (p f)) [
      | inl t ↦ rw t refl
      | inr t ↦ rw t (first_place p (k + 1) fs)
    ]

pub name_place : (f : Field) → slice_get (places (has_name f.name) 0 static_table) 0 ≡ position (same_name f) static_table
name_place f = first_place (has_name f.name) 0 static_table ∙ sym (position_is (same_name f) static_table)

first_field : (f : Field) (k : ℕ) (fs : List Field) → ((j : ℕ) → slice_get static_table (k + j) ≡ slice_get fs j) → row_with (places (has_name f.name) k fs) f.value ≡ find_from (same_field f) k fs
first_field f k [] same = refl
first_field f k (g ∷ fs) same =
    let here : slice_get static_table k ≡ Some g = (let e : k + 0 ≡ k = omega arith in rw e at (same 0)) in
    let later : row_with (places (has_name f.name) (k + 1) fs) f.value ≡ find_from (same_field f) (k + 1) fs =
    first_field f (k + 1) fs (λ j. let e : k + 1 + j ≡ k + suc j = omega arith in rw e (same (suc j))) in
    elim (cases_Bool (bytes_eq g.name f.name)) [
      | inl t ↦
          elim (cases_Bool (bytes_eq g.value f.value)) [
            | inl u ↦ rw (t, here, u) refl
            | inr u ↦ rw (t, here, u) later
          ]
      | inr t ↦ rw t later
    ]

pub field_place : (f : Field) → row_with (places (has_name f.name) 0 static_table) f.value ≡ position (same_field f) static_table
field_place f = first_field f 0 static_table (λ j. let e : 0 + j ≡ j = omega arith in ap (slice_get static_table) e) ∙ sym (position_is (same_field f) static_table)

-- which lies in the table
pub inside : (p : Field → Bool) (r : Option ℕ) → r ≡ position p static_table → IfSome r (λ index. index < 99)
inside p None e = tt
inside p (Some i) e = let f = position-Some p static_table i (record { name = []; value = [] }) (sym e) in omega (arith, f.0, table_size)
