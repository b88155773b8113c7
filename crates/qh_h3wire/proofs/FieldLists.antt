-- Lists of fields with one more: the values of a name, and the map that they make.
use Rattle.std.proofs.Common.{◌≡◌, ◌≢◌, inl, inr, ℕ, zero, suc, ◌+◌, ◌<◌, true, false, List, [], ◌∷◌, ◌++◌, length, take, drop, get_or, Some, refl, ap, ◌∙◌, arith, append-nil}
use Rattle.std.specs.Prelude.{bytes_eq, map, filter, not}
use Rattle.std.proofs.lemmas.Bool.{cases_Bool}
use Rattle.std.proofs.lemmas.List.Sums.{fold-append}
use Rattle.std.proofs.lemmas.Slice.Eq.{bytes_eq-Decides}
use Rattle.http_header.specs.FieldValue.{FieldValue, plain_value}
use Rattle.http_header.specs.HeaderMap.{Entries, append, append_all}
use Rattle.qh_spec.specs.Fields.{Field}
use Rattle.qh_spec.specs.Meaning.{values_of, last_of, last_or, pseudo, is_pseudo_name}
use Rattle.qh_spec.specs.Refusal.{fields_map}

pub values_append : (name : List ℕ) (xs ys : List Field) → values_of name (xs ++ ys) ≡ values_of name xs ++ values_of name ys
values_append name [] ys = refl
values_append name (f ∷ xs) ys =
    elim (cases_Bool (bytes_eq f.name name)) [
      | inl t ↦ rw t (ap (λ (z : List (List ℕ)). f.value ∷ z) (values_append name xs ys))
      | inr t ↦ rw t (values_append name xs ys)
    ]

last_or_push : (y : List ℕ) (xs : List (List ℕ)) (x : List ℕ) → last_or y (xs ++ x ∷ []) ≡ x
last_or_push y [] x = refl
last_or_push y (z ∷ xs) x = last_or_push z xs x

last_push : (xs : List (List ℕ)) (x : List ℕ) → last_of (xs ++ x ∷ []) ≡ Some x
last_push [] x = refl
last_push (y ∷ xs) x = ap Some (last_or_push y xs x)

-- a value more of this name is the last
pub pseudo_own : (name : List ℕ) (fs : List Field) (f : Field) → f.name ≡ name → pseudo name (fs ++ f ∷ []) ≡ Some f.value
pseudo_own name fs f e =
    let t : bytes_eq f.name name ≡ true = (bytes_eq-Decides f.name name).1 e in
    let one : values_of name (f ∷ []) ≡ f.value ∷ [] = rw t refl in
    ap last_of (values_append name fs (f ∷ []) ∙ ap (λ (z : List (List ℕ)). values_of name fs ++ z) one) ∙ last_push (values_of name fs) f.value

pub pseudo_other : (name : List ℕ) (fs : List Field) (f : Field) → f.name ≢ name → pseudo name (fs ++ f ∷ []) ≡ pseudo name fs
pseudo_other name fs f n =
    let t : bytes_eq f.name name ≡ false = elim (cases_Bool (bytes_eq f.name name)) [ inl t ↦ absurd (n ((bytes_eq-Decides f.name name).0 t)) | inr t ↦ t ] in
    let none : values_of name (f ∷ []) ≡ [] = rw t refl in
    ap last_of (values_append name fs (f ∷ []) ∙ ap (λ (z : List (List ℕ)). values_of name fs ++ z) none ∙ append-nil (values_of name fs))

abbrev items : List Field → List (List ℕ × FieldValue)
items fields = map (λ (f : Field). (f.name, plain_value f.value)) (filter (λ (f : Field). not (is_pseudo_name f.name)) fields)

items_append : (xs ys : List Field) → items (xs ++ ys) ≡ items xs ++ items ys
items_append [] ys = refl
items_append (f ∷ xs) ys =
    elim (cases_Bool (is_pseudo_name f.name)) [
      | inl t ↦ rw t (items_append xs ys)
      | inr t ↦ rw t (ap (λ (z : List (List ℕ × FieldValue)). (f.name, plain_value f.value) ∷ z) (items_append xs ys))
    ]

map_append : (xs ys : List Field) → fields_map (xs ++ ys) ≡ append_all (fields_map xs) (items ys)
map_append xs ys =
    ap (λ (z : List (List ℕ × FieldValue)). append_all [] z) (items_append xs ys)
    ∙ fold-append (λ (n : Entries FieldValue) (item : List ℕ × FieldValue). append n item.0 item.1) [] (items xs) (items ys)

-- a field more goes behind those of its name
pub map_plain : (fs : List Field) (f : Field) → is_pseudo_name f.name ≡ false → fields_map (fs ++ f ∷ []) ≡ append (fields_map fs) f.name (plain_value f.value)
map_plain fs f t =
    let one : items (f ∷ []) ≡ (f.name, plain_value f.value) ∷ [] = rw t refl in
    map_append fs (f ∷ []) ∙ ap (λ (z : List (List ℕ × FieldValue)). append_all (fields_map fs) z) one

-- and a pseudo field leaves the map
pub map_pseudo : (fs : List Field) (f : Field) → is_pseudo_name f.name ≡ true → fields_map (fs ++ f ∷ []) ≡ fields_map fs
map_pseudo fs f t =
    let none : items (f ∷ []) ≡ [] = rw t refl in
    map_append fs (f ∷ []) ∙ ap (λ (z : List (List ℕ × FieldValue)). append_all (fields_map fs) z) none

-- the fields so far, this one, and the rest
pub field_split : (fs : List Field) (i : ℕ) (d : Field) → i < length fs → fs ≡ take i fs ++ get_or fs i d ∷ drop (suc i) fs
field_split [] i d h = absurd (omega arith)
field_split (g ∷ fs) zero d h = refl
field_split (g ∷ fs) (suc i) d h = ap (λ (z : List Field). g ∷ z) (field_split fs i d (omega arith))

pub field_more : (fs : List Field) (i : ℕ) (d : Field) → i < length fs → take (i + 1) fs ≡ take i fs ++ get_or fs i d ∷ []
field_more fs i d h = let s : i + 1 ≡ suc i = omega arith in rw s (more fs i d h)
  where
    more : (fs : List Field) (i : ℕ) (d : Field) → i < length fs → take (suc i) fs ≡ take i fs ++ get_or fs i d ∷ []
    more [] i d h = absurd (omega arith)
    more (g ∷ fs) zero d h = refl
    more (g ∷ fs) (suc i) d h = ap (λ (z : List Field). g ∷ z) (more fs i d (omega arith))
