-- The values of a name among the first of some fields.
use Rattle.std.proofs.Common.{◌≡◌, ◌≢◌, inl, inr, ℕ, zero, suc, ◌+◌, ◌<◌, ◌≤◌, true, false, List, [], ◌∷◌, ◌++◌, length, take, drop, get_or, Option, Some, None, refl, sym, ap, ◌∙◌, arith, append-nil, append_assoc, length-append, Bor, ◌↔◌}
use Rattle.std.specs.Prelude.{bytes_eq, slice_get, is_some, MatchOption, Bool, not}
use Rattle.std.proofs.lemmas.Bool.{cases_Bool}
use Rattle.std.proofs.lemmas.Slice.Eq.{bytes_eq-Decides}
use Rattle.std.proofs.lemmas.List.{take_all}
use Rattle.http_header.specs.FieldName.{IsHeaderName}
use Rattle.http_header.specs.FieldValue.{FieldValue}
use Rattle.http_header.specs.HeaderMap.{Entries}
use Rattle.qh_spec.specs.Fields.{Field}
use Rattle.qh_spec.specs.Meaning.{values_of, last_of, last_or, pseudo}
use Rattle.qh_spec.specs.Same.{bytes_under}
use Rattle.qh_plain.specs.Agreement.{HasValues}
use Rattle.qh_plain.specs.Values.{bytes_of}
use Rattle.qh_plain.proofs.Readable.{is_plain}

same_names : (f : Field) (name : List ℕ) → f.name ≡ name → bytes_eq f.name name ≡ true
same_names f name e = (bytes_eq-Decides f.name name).1 e

other_names : (f : Field) (name : List ℕ) → f.name ≢ name → bytes_eq f.name name ≡ false
other_names f name n = elim (cases_Bool (bytes_eq f.name name)) [ inl t ↦ absurd (n ((bytes_eq-Decides f.name name).0 t)) | inr t ↦ t ]

pub first_is : (name : List ℕ) (f : Field) (fs : List Field) → f.name ≡ name → values_of name (f ∷ fs) ≡ f.value ∷ values_of name fs
first_is name f fs e = let t = same_names f name e in rw t refl

pub first_is_not : (name : List ℕ) (f : Field) (fs : List Field) → f.name ≢ name → values_of name (f ∷ fs) ≡ values_of name fs
first_is_not name f fs n = let t = other_names f name n in rw t refl

-- the values are those of the fields so far, and then those of the rest
pub values_split : (name : List ℕ) (fs : List Field) (i : ℕ) (f : Field) → i < length fs → f ≡ get_or fs i f
    → values_of name fs ≡ values_of name (take i fs) ++ values_of name (f ∷ drop (suc i) fs)
values_split name [] i f h e = absurd (omega arith)
values_split name (g ∷ fs) zero f h e = ap (λ (z : Field). values_of name (z ∷ fs)) (sym e)
values_split name (g ∷ fs) (suc i) f h e =
    let rest = values_split name fs i f (omega arith) e in
    elim (cases_Bool (bytes_eq g.name name)) [ inl t ↦ rw t (ap (λ (z : List (List ℕ)). g.value ∷ z) rest) | inr t ↦ rw t rest ]

-- one field more
pub values_more : (name : List ℕ) (fs : List Field) (i : ℕ) (f : Field) → i < length fs → f ≡ get_or fs i f
    → values_of name (take (suc i) fs) ≡ values_of name (take i fs) ++ values_of name (f ∷ [])
values_more name [] i f h e = absurd (omega arith)
values_more name (g ∷ fs) zero f h e = ap (λ (z : Field). values_of name (z ∷ [])) (sym e)
values_more name (g ∷ fs) (suc i) f h e =
    let rest = values_more name fs i f (omega arith) e in
    elim (cases_Bool (bytes_eq g.name name)) [ inl t ↦ rw t (ap (λ (z : List (List ℕ)). g.value ∷ z) rest) | inr t ↦ rw t rest ]

pub one_taken : (name : List ℕ) (fs : List Field) (i : ℕ) (f : Field) → i < length fs → f ≡ get_or fs i f → f.name ≡ name
    → values_of name (take (i + 1) fs) ≡ values_of name (take i fs) ++ f.value ∷ []
one_taken name fs i f h e t =
    let s : i + 1 ≡ suc i = omega arith in
    rw s (values_more name fs i f h e ∙ ap (λ (z : List (List ℕ)). values_of name (take i fs) ++ z) (first_is name f [] t))

pub one_skipped : (name : List ℕ) (fs : List Field) (i : ℕ) (f : Field) → i < length fs → f ≡ get_or fs i f → f.name ≢ name
    → values_of name (take (i + 1) fs) ≡ values_of name (take i fs)
one_skipped name fs i f h e t =
    let s : i + 1 ≡ suc i = omega arith in
    rw s (values_more name fs i f h e ∙ ap (λ (z : List (List ℕ)). values_of name (take i fs) ++ z) (first_is_not name f [] t) ∙ append-nil (values_of name (take i fs)))

last_or_push : (y : List ℕ) (xs : List (List ℕ)) (x : List ℕ) → last_or y (xs ++ x ∷ []) ≡ x
last_or_push y [] x = refl
last_or_push y (z ∷ xs) x = last_or_push z xs x

last_push : (xs : List (List ℕ)) (x : List ℕ) → last_of (xs ++ x ∷ []) ≡ Some x
last_push [] x = refl
last_push (y ∷ xs) x = ap Some (last_or_push y xs x)

-- a later value is the last
pub last_taken : (name : List ℕ) (fs : List Field) (i : ℕ) (f : Field) → i < length fs → f ≡ get_or fs i f → f.name ≡ name
    → Some f.value ≡ pseudo name (take (i + 1) fs)
last_taken name fs i f h e t = sym (ap last_of (one_taken name fs i f h e t) ∙ last_push (values_of name (take i fs)) f.value)

pub last_skipped : (name : List ℕ) (fs : List Field) (i : ℕ) (f : Field) → i < length fs → f ≡ get_or fs i f → f.name ≢ name
    → pseudo name (take i fs) ≡ pseudo name (take (i + 1) fs)
last_skipped name fs i f h e t = sym (ap last_of (one_skipped name fs i f h e t))

-- the first value, where none came before
pub first_found : (name : List ℕ) (fs : List Field) (i : ℕ) (f : Field) → i < length fs → f ≡ get_or fs i f → f.name ≡ name
    → values_of name (take i fs) ≡ [] → Some f.value ≡ slice_get (values_of name fs) 0
first_found name fs i f h e t none =
    let split = values_split name fs i f h e in
    let here : values_of name fs ≡ f.value ∷ values_of name (drop (suc i) fs) = split ∙ ap (λ (z : List (List ℕ)). z ++ values_of name (f ∷ drop (suc i) fs)) none ∙ first_is name f (drop (suc i) fs) t in
    sym (ap (λ (z : List (List ℕ)). slice_get z 0) here)

same_front : (a x y : List (List ℕ)) → a ++ x ≡ a ++ y → x ≡ y
same_front [] x y e = e
same_front (b ∷ a) x y e = let r : a ++ x ≡ a ++ y = cc in same_front a x y r

one_and_rest : (name : List ℕ) (f : Field) (fs : List Field) → values_of name (f ∷ fs) ≡ values_of name (f ∷ []) ++ values_of name fs
one_and_rest name f fs = elim (cases_Bool (bytes_eq f.name name)) [ inl t ↦ rw t refl | inr t ↦ rw t refl ]

-- what a map has under the name goes on otherwise than the fields
pub goes_on_otherwise : (name : List ℕ) (fs : List Field) (i : ℕ) (f : Field) (all rest : List (List ℕ)) → i < length fs → f ≡ get_or fs i f
    → all ≡ values_of name (take i fs) ++ rest → ((more : List (List ℕ)) → rest ≡ values_of name (f ∷ []) ++ more → ⊥) → all ≡ values_of name fs → ⊥
goes_on_otherwise name fs i f all rest h e so_far other same =
    let both : values_of name (take i fs) ++ rest ≡ values_of name (take i fs) ++ values_of name (f ∷ drop (suc i) fs) = sym so_far ∙ same ∙ values_split name fs i f h e in
    other (values_of name (drop (suc i) fs))
    (same_front (values_of name (take i fs)) rest (values_of name (f ∷ drop (suc i) fs)) both ∙ one_and_rest name f (drop (suc i) fs))

pub goes_on : (name : List ℕ) (fs : List Field) (i : ℕ) (f : Field) (all rest more : List (List ℕ)) → i < length fs → f ≡ get_or fs i f
    → all ≡ values_of name (take i fs) ++ rest → rest ≡ values_of name (f ∷ []) ++ more → all ≡ values_of name (take (i + 1) fs) ++ more
goes_on name fs i f all rest more h e so_far r =
    let s : i + 1 ≡ suc i = omega arith in
    rw s (
    so_far ∙ ap (λ (z : List (List ℕ)). values_of name (take i fs) ++ z) r ∙ sym (append_assoc (values_of name (take i fs)) (values_of name (f ∷ [])) more)
    ∙ ap (λ (z : List (List ℕ)). z ++ more) (sym (values_more name fs i f h e))
    )

no_more : (a x : List (List ℕ)) (y : List ℕ) → a ++ (y ∷ x) ≡ a → ⊥
no_more a x y e = let n = ap length e in omega (arith, n, length-append a (y ∷ x))

not_false : (b : Bool) → not b ≡ false → b ≡ true
not_false true e = refl
not_false false e = cc

not_true : (b : Bool) → not b ≡ true → b ≡ true → ⊥
not_true true e t = cc
not_true false e t = cc

-- behind the last field the map has the values of the fields exactly where it has no further value
pub at_end : (name : List ℕ) (fs : List Field) (i : ℕ) (all : List (List ℕ)) (b : Bool) (r : Option (Bor FieldValue)) (values after : List FieldValue) → length fs ≤ i
    → all ≡ values_of name (take i fs) ++ bytes_of values → MatchOption r ((values ≡ []) × (after ≡ [])) (λ x. values ≡ x.now ∷ after)
    → not b ≡ is_some r → (b ≡ true) ↔ (all ≡ values_of name fs)
at_end name fs i all b None values after h e m n =
    let whole : take i fs ≡ fs = take_all i fs h in
    (λ _. e ∙ ap (λ (z : List FieldValue). values_of name (take i fs) ++ bytes_of z) m.0 ∙ append-nil (values_of name (take i fs)) ∙ ap (values_of name) whole, λ _. not_false b n)
at_end name fs i all b (Some x) values after h e m n =
    let whole : take i fs ≡ fs = take_all i fs h in
    let here : all ≡ values_of name fs ++ (x.now.bytes ∷ bytes_of after) =
    e ∙ ap (λ (z : List FieldValue). values_of name (take i fs) ++ bytes_of z) m ∙ ap (λ (z : List Field). values_of name z ++ (x.now.bytes ∷ bytes_of after)) whole in
    (λ t. absurd (not_true b n t), λ same. absurd (no_more (values_of name fs) (bytes_of after) x.now.bytes (sym here ∙ same)))

-- the name of a field isn't a pseudo field's
pub plain_expected : (m : Entries FieldValue) (fs : List Field) (name : List ℕ) (b : Bool) → IsHeaderName name → (b ≡ true) ↔ (bytes_under m name ≡ values_of name fs)
    → (b ≡ true) ↔ HasValues m fs name
plain_expected m fs name b h e = let p = is_plain name h in rw p e

-- the fields have a value that the map doesn't have, or another one
pub none_left : (name : List ℕ) (fs : List Field) (i : ℕ) (f : Field) (all : List (List ℕ)) (values : List FieldValue) → i < length fs → f ≡ get_or fs i f → f.name ≡ name
    → all ≡ values_of name (take i fs) ++ bytes_of values → values ≡ [] → all ≡ values_of name fs → ⊥
none_left name fs i f all values h e t so_far none =
    goes_on_otherwise name fs i f all (bytes_of values) h e so_far
    (λ more r. let some : [] ≡ f.value ∷ more = sym (ap (λ (z : List FieldValue). bytes_of z) none) ∙ r ∙ ap (λ (z : List (List ℕ)). z ++ more) (first_is name f [] t) in cc)

pub another_left : (name : List ℕ) (fs : List Field) (i : ℕ) (f : Field) (all : List (List ℕ)) (values after : List FieldValue) (x : FieldValue) → i < length fs → f ≡ get_or fs i f
    → f.name ≡ name → all ≡ values_of name (take i fs) ++ bytes_of values → values ≡ x ∷ after → x.bytes ≢ f.value → all ≡ values_of name fs → ⊥
another_left name fs i f all values after x h e t so_far first other =
    goes_on_otherwise name fs i f all (bytes_of values) h e so_far
    (λ more r.
    let both : x.bytes ∷ bytes_of after ≡ f.value ∷ more = sym (ap (λ (z : List FieldValue). bytes_of z) first) ∙ r ∙ ap (λ (z : List (List ℕ)). z ++ more) (first_is name f [] t) in
    other cc)

pub same_left : (name : List ℕ) (fs : List Field) (i : ℕ) (f : Field) (all : List (List ℕ)) (values after : List FieldValue) (x : FieldValue) → i < length fs → f ≡ get_or fs i f
    → f.name ≡ name → all ≡ values_of name (take i fs) ++ bytes_of values → values ≡ x ∷ after → x.bytes ≡ f.value
    → all ≡ values_of name (take (i + 1) fs) ++ bytes_of after
same_left name fs i f all values after x h e t so_far first same =
    goes_on name fs i f all (bytes_of values) (bytes_of after) h e so_far (
    ap (λ (z : List FieldValue). bytes_of z) first ∙ ap (λ (z : List ℕ). z ∷ bytes_of after) same ∙ ap (λ (z : List (List ℕ)). z ++ bytes_of after) (sym (first_is name f [] t))
    )

-- what a test of two texts says
pub alike : (a b : List ℕ) (r : Bool) → r ≡ not (bytes_eq a b) → r ≡ false → a ≡ b
alike a b r e f = (bytes_eq-Decides a b).0 (not_false (bytes_eq a b) (sym e ∙ f))

pub unlike : (a b : List ℕ) (r : Bool) → r ≡ not (bytes_eq a b) → r ≡ true → a ≢ b
unlike a b r e f same = not_true (bytes_eq a b) (sym e ∙ f) ((bytes_eq-Decides a b).1 same)
