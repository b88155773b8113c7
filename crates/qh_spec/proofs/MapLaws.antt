-- The map that the fields make has, under each name, the values that the fields have.
use Rattle.std.proofs.Common.{◌≡◌, inl, inr, ℕ, true, false, cond, List, [], ◌∷◌, ◌++◌, refl, sym, ap, ◌∙◌, subst, append-nil, append_assoc}
use Rattle.std.specs.Prelude.{bytes_eq, map, filter, not}
use Rattle.std.proofs.lemmas.Bool.{cases_Bool}
use Rattle.std.proofs.lemmas.List.{map-append}
use Rattle.std.proofs.lemmas.Slice.Eq.{bytes_eq-Decides}
use Rattle.http_header.specs.FieldValue.{FieldValue, plain_value}
use Rattle.http_header.specs.HeaderMap.{Entries, get_all, append, append_all}
use Rattle.http_header.proofs.HeaderMapLemmas.{get_all-append_same, get_all-append_other}
use Rattle.qh_spec.specs.Fields.{Field}
use Rattle.qh_spec.specs.Meaning.{AreReadable, values_of, is_pseudo_name, MeansFields}
use Rattle.qh_spec.specs.Refusal.{fields_map}
use Rattle.qh_spec.specs.Same.{bytes_under}

abbrev items : List Field → List (List ℕ × FieldValue)
items fields = map (λ (f : Field). (f.name, plain_value f.value)) (filter (λ (f : Field). not (is_pseudo_name f.name)) fields)

abbrev plain_values : List ℕ → List Field → List (List ℕ)
plain_values name fields = cond (is_pseudo_name name) [] (values_of name fields)

appended_same : (m : Entries FieldValue) (name value : List ℕ) → bytes_under (append m name (plain_value value)) name ≡ bytes_under m name ++ value ∷ []
appended_same m name value =
    ap (map (λ (v : FieldValue). v.bytes)) (get_all-append_same m name (plain_value value))
    ∙ map-append (λ (v : FieldValue). v.bytes) (get_all m name) (plain_value value ∷ [])

-- a field that isn't a pseudo field has its value under its name
one_more : (m : Entries FieldValue) (f : Field) (fs : List Field) (name : List ℕ) → is_pseudo_name f.name ≡ false
    → bytes_under (append m f.name (plain_value f.value)) name ++ plain_values name fs ≡ bytes_under m name ++ plain_values name (f ∷ fs)
one_more m f fs name n =
    elim (cases_Bool (bytes_eq f.name name)) [
      | inl t ↦
          let same : f.name ≡ name = (bytes_eq-Decides f.name name).0 t in
          let k : is_pseudo_name name ≡ false = sym (ap is_pseudo_name same) ∙ n in
          let here : bytes_under (append m f.name (plain_value f.value)) name ≡ bytes_under m name ++ f.value ∷ [] =
          subst (λ (z : List ℕ). bytes_under (append m f.name (plain_value f.value)) z ≡ bytes_under m z ++ f.value ∷ []) same (appended_same m f.name f.value) in
          ap (λ (z : List (List ℕ)). z ++ plain_values name fs) here ∙ append_assoc (bytes_under m name) (f.value ∷ []) (plain_values name fs) ∙ rw (t, k) refl
      | inr t ↦
          let other : f.name ≡ name → ⊥ = λ e. let u : bytes_eq f.name name ≡ true = (bytes_eq-Decides f.name name).1 e in let both : true ≡ false = sym u ∙ t in cc in
          let here : bytes_under (append m f.name (plain_value f.value)) name ≡ bytes_under m name =
          ap (map (λ (v : FieldValue). v.bytes)) (get_all-append_other m f.name name (plain_value f.value) other) in
          ap (λ (z : List (List ℕ)). z ++ plain_values name fs) here ∙ rw t refl
    ]

-- a pseudo field has none
none_more : (f : Field) (fs : List Field) (name : List ℕ) → is_pseudo_name f.name ≡ true → plain_values name fs ≡ plain_values name (f ∷ fs)
none_more f fs name p =
    elim (cases_Bool (bytes_eq f.name name)) [
      | inl t ↦
          let same : f.name ≡ name = (bytes_eq-Decides f.name name).0 t in
          let k : is_pseudo_name name ≡ true = sym (ap is_pseudo_name same) ∙ p in
          rw (t, k) refl
      | inr t ↦ rw t refl
    ]

items_under : (fs : List Field) (m : Entries FieldValue) (name : List ℕ) → bytes_under (append_all m (items fs)) name ≡ bytes_under m name ++ plain_values name fs
items_under [] m name = elim (cases_Bool (is_pseudo_name name)) [ inl t ↦ rw t (sym (append-nil (bytes_under m name))) | inr t ↦ rw t (sym (append-nil (bytes_under m name))) ]
items_under (f ∷ fs) m name =
    elim (cases_Bool (is_pseudo_name f.name)) [
      | inl p ↦
          let rest : bytes_under (append_all m (items fs)) name ≡ bytes_under m name ++ plain_values name (f ∷ fs) =
          items_under fs m name ∙ ap (λ (z : List (List ℕ)). bytes_under m name ++ z) (none_more f fs name p) in
          rw p rest
      | inr p ↦
          let rest : bytes_under (append_all (append m f.name (plain_value f.value)) (items fs)) name ≡ bytes_under m name ++ plain_values name (f ∷ fs) =
          items_under fs (append m f.name (plain_value f.value)) name ∙ one_more m f fs name p in
          rw p rest
    ]

-- fields that can be read mean the map that they make
pub fields_make : (fs : List Field) → AreReadable fs → MeansFields fs (fields_map fs)
fields_make fs r = record { readable = r; values = λ name. items_under fs [] name }
