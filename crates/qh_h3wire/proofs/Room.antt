-- The fields of a map have room in a map.
use Rattle.std.proofs.Common.{◌≡◌, inl, inr, ℕ, zero, suc, ◌+◌, ◌^◌, ◌<◌, ◌≤◌, true, false, List, [], ◌∷◌, ◌++◌, length, refl, sym, ap, ◌∙◌, subst, arith, length-append}
use Rattle.std.specs.Prelude.{bytes_eq, map}
use Rattle.std.specs.List.{AllByRecursion}
use Rattle.std.proofs.lemmas.Bool.{cases_Bool}
use Rattle.std.proofs.lemmas.List.{map-append}
use Rattle.std.proofs.lemmas.List.Sums.{sum_by-cons}
use Rattle.std.proofs.lemmas.Slice.Eq.{bytes_eq-Decides}
use Rattle.http_header.specs.FieldValue.{FieldValue, plain_value}
use Rattle.http_header.specs.HeaderMap.{Entry, Entries, keys, pairs, entry_at, entry_pairs, value_count, append, ContainsKey, RefusesAppend}
use Rattle.http_header.proofs.PlacesLemmas.{ContainsKey-from_entry}
use Rattle.qh_spec.specs.Fields.{Field, map_fields}
use Rattle.qh_spec.specs.Meaning.{AreReadable, is_pseudo_name}
use Rattle.qh_spec.specs.Refusal.{fields_map, AreTaken}
use Rattle.qh_h3wire.proofs.FieldLists.{map_plain, map_pseudo}

count_cons : (e : Entry FieldValue) (m : Entries FieldValue) → value_count (e ∷ m) ≡ length e.1 + value_count m
count_cons e m = sum_by-cons (λ (x : Entry FieldValue). length x.1) e m

-- a value more
count_append : (m : Entries FieldValue) (name : List ℕ) (x : FieldValue) → value_count (append m name x) ≡ value_count m + 1
count_append [] name x = refl
count_append (e ∷ m) name x =
    elim (cases_Bool (bytes_eq e.0 name)) [
      | inl t ↦ rw t (omega (arith, count_cons (e.0, e.1 ++ x ∷ []) m, count_cons e m, length-append e.1 (x ∷ [])))
      | inr f ↦ rw f (omega (arith, count_cons e (append m name x), count_cons e m, count_append m name x))
    ]

names_append : (m : Entries FieldValue) (name : List ℕ) (x : FieldValue) → length (append m name x) ≤ length m + 1
names_append [] name x = omega arith
names_append (e ∷ m) name x =
    elim (cases_Bool (bytes_eq e.0 name)) [
      | inl t ↦ rw t (omega arith)
      | inr f ↦ rw f (let rest = names_append m name x in omega (arith, rest))
    ]

-- where the name of a value stands
HasName : Entries FieldValue → List ℕ → Type 0
HasName m name = (i : ℕ) × (i < length m) × ((entry_at m i).0 ≡ name)

there_first : (e : Entry FieldValue) (m : Entries FieldValue) (name : List ℕ) → e.0 ≡ name → HasName (e ∷ m) name
unfolding HasName
there_first e m name s = (0, omega arith, s)

there_later : (e : Entry FieldValue) (m : Entries FieldValue) (name : List ℕ) → HasName m name → HasName (e ∷ m) name
unfolding HasName
there_later e m name h = let l = h.1 in (suc h.0, omega (arith, l), h.2)

there : (m : Entries FieldValue) (name : List ℕ) (x : FieldValue) → HasName (append m name x) name
there [] name x = there_first (name, x ∷ []) [] name refl
there (e ∷ m) name x =
    elim (cases_Bool (bytes_eq e.0 name)) [
      | inl t ↦ rw t (there_first (e.0, e.1 ++ x ∷ []) m name ((bytes_eq-Decides e.0 name).0 t))
      | inr f ↦ rw f (there_later e (append m name x) name (there m name x))
    ]

has_key : (m : Entries FieldValue) (name : List ℕ) → HasName m name → ContainsKey m name
unfolding HasName
has_key m name h = ContainsKey-from_entry m name h.0 h.1 h.2

-- how many names there are, where one of them has a value more
names_same : (m : Entries FieldValue) (name : List ℕ) (x : FieldValue) → HasName m name → length (append m name x) ≡ length m
unfolding HasName
names_same [] name x h = absurd (let l = h.1 in omega (arith, l))
names_same (e ∷ m) name x h =
    elim (cases_Bool (bytes_eq e.0 name)) [
      | inl t ↦ rw t refl
      | inr f ↦ rw f (let rest = names_same m name x (rest_has e m name h (λ s. let t : bytes_eq e.0 name ≡ true = (bytes_eq-Decides e.0 name).1 s in let both : true ≡ false = sym t ∙ f in cc)) in omega (arith, rest))
    ]
  where
    rest_has : (e : Entry FieldValue) (m : Entries FieldValue) (name : List ℕ) → HasName (e ∷ m) name → (e.0 ≡ name → ⊥) → HasName m name
    rest_has e m name (zero, l, s) n = absurd (n s)
    rest_has e m name (suc i, l, s) n = (i, omega arith, s)

-- the map has room for so many values and names more
pub record HasRoom (front : List Field) (values names : ℕ) : Type 0 where
  pub values_fit : value_count (fields_map front) + values < 2 ^ 64
  pub names_fit : length (fields_map front) + names ≤ 24576

abbrev field_from : List ℕ × FieldValue → Field
field_from p = record { name = p.0; value = p.1.bytes }

new_name : (front : List Field) (k : List ℕ) (left names : ℕ) → HasRoom front (suc left) (suc names) → RefusesAppend (fields_map front) k → ⊥
new_name front k left names r (inl full) = let a = r.values_fit in omega (arith, a, full)
new_name front k left names r (inr (n, inl full)) = let a = r.names_fit in omega (arith, a, full)
new_name front k left names r (inr (n, inr full)) = let a = r.values_fit in omega (arith, a, full)

old_name : (front : List Field) (k : List ℕ) (left names : ℕ) → HasRoom front (suc left) names → HasName (fields_map front) k → RefusesAppend (fields_map front) k → ⊥
old_name front k left names r h (inl full) = let a = r.values_fit in omega (arith, a, full)
old_name front k left names r h (inr n) = n.0 (has_key (fields_map front) k h)

-- a field more
one_more : (front : List Field) (k : List ℕ) (v : FieldValue) (left names : ℕ) → is_pseudo_name k ≡ false → HasRoom front (suc left) (suc names)
    → HasRoom (front ++ field_from (k, v) ∷ []) left names × HasName (fields_map (front ++ field_from (k, v) ∷ [])) k
one_more front k v left names t r =
    let e = map_plain front (field_from (k, v)) t in
    let c = count_append (fields_map front) k (plain_value v.bytes) in
    let n = names_append (fields_map front) k (plain_value v.bytes) in
    let a = r.values_fit in
    let b = r.names_fit in
    let count = ap value_count e ∙ c in
    let names_are = ap length e in
    (record { values_fit = omega (arith, a, count); names_fit = omega (arith, b, n, names_are) }, subst (λ (z : Entries FieldValue). HasName z k) (sym e) (there (fields_map front) k (plain_value v.bytes)))

same_more : (front : List Field) (k : List ℕ) (v : FieldValue) (left names : ℕ) → is_pseudo_name k ≡ false → HasRoom front (suc left) names → HasName (fields_map front) k
    → HasRoom (front ++ field_from (k, v) ∷ []) left names × HasName (fields_map (front ++ field_from (k, v) ∷ [])) k
same_more front k v left names t r h =
    let e = map_plain front (field_from (k, v)) t in
    let c = count_append (fields_map front) k (plain_value v.bytes) in
    let n = names_same (fields_map front) k (plain_value v.bytes) h in
    let a = r.values_fit in
    let b = r.names_fit in
    let count = ap value_count e ∙ c in
    let names_are = ap length e ∙ n in
    (record { values_fit = omega (arith, a, count); names_fit = omega (arith, b, names_are) }, subst (λ (z : Entries FieldValue). HasName z k) (sym e) (there (fields_map front) k (plain_value v.bytes)))

sizes_more : (front : List Field) (f : Field)
    → (value_count (fields_map (front ++ f ∷ [])) ≤ value_count (fields_map front) + 1) × (length (fields_map (front ++ f ∷ [])) ≤ length (fields_map front) + 1)
sizes_more front f =
    elim (cases_Bool (is_pseudo_name f.name)) [
      | inl t ↦ let e = map_pseudo front f t in let count = ap value_count e in let names = ap length e in (omega arith, omega arith)
      | inr t ↦
          let e = map_plain front f t in
          let c = count_append (fields_map front) f.name (plain_value f.value) in
          let n = names_append (fields_map front) f.name (plain_value f.value) in
          let count = ap value_count e in
          let names = ap length e in
          (omega arith, omega arith)
    ]

-- fields that leave room, whatever their names are, are kept
roomy_taken : (front fs : List Field) → HasRoom front (length fs) (length fs) → AreReadable fs → AreTaken front fs
roomy_taken front [] room r = tt
roomy_taken front (f ∷ fs) room r =
    let more = sizes_more front f in
    let a = room.values_fit in
    let b = room.names_fit in
    let x = more.0 in
    let y = more.1 in
    let left : HasRoom (front ++ f ∷ []) (length fs) (length fs) = record { values_fit = omega arith; names_fit = omega arith } in
    ((r.0, λ o. new_name front f.name (length fs) (length fs) room o.1), roomy_taken (front ++ f ∷ []) fs left r.1)

pub few_taken : (fs : List Field) → length fs ≤ 24576 → AreReadable fs → AreTaken [] fs
few_taken fs few = roomy_taken [] fs (record { values_fit = omega arith; names_fit = omega arith })

-- what follows is kept behind any fields that leave room for it
abbrev IsKeptBehind : List Field → ℕ → ℕ → Type 0
IsKeptBehind rest left names = (after : List Field) → HasRoom after left names → AreTaken after rest

-- the further values of a name that stands there
later_values : (front : List Field) (k : List ℕ) (vs : List FieldValue) (rest : List Field) (left names : ℕ) → is_pseudo_name k ≡ false → AreReadable (map field_from (entry_pairs (k, vs)))
    → HasRoom front (length vs + left) names → HasName (fields_map front) k → IsKeptBehind rest left names → AreTaken front (map field_from (entry_pairs (k, vs)) ++ rest)
later_values front k [] rest left names t a r h go = go front (record { values_fit = let x = r.values_fit in omega (arith, x); names_fit = r.names_fit })
later_values front k (v ∷ vs) rest left names t a r h go =
    let x = r.values_fit in
    let room : HasRoom front (suc (length vs + left)) names = record { values_fit = omega (arith, x); names_fit = r.names_fit } in
    let more = same_more front k v (length vs + left) names t room h in
    ((a.0, λ full. old_name front k (length vs + left) names room h full.1), later_values (front ++ field_from (k, v) ∷ []) k vs rest left names t a.1 more.0 more.1 go)

entry_kept : (front : List Field) (k : List ℕ) (vs : List FieldValue) (rest : List Field) (left names : ℕ) → is_pseudo_name k ≡ false → AreReadable (map field_from (entry_pairs (k, vs)))
    → HasRoom front (length vs + left) (suc names) → IsKeptBehind rest left names → AreTaken front (map field_from (entry_pairs (k, vs)) ++ rest)
entry_kept front k [] rest left names t a r go = go front (record { values_fit = let x = r.values_fit in omega (arith, x); names_fit = let y = r.names_fit in omega (arith, y) })
entry_kept front k (v ∷ vs) rest left names t a r go =
    let x = r.values_fit in
    let room : HasRoom front (suc (length vs + left)) (suc names) = record { values_fit = omega (arith, x); names_fit = r.names_fit } in
    let more = one_more front k v (length vs + left) names t room in
    ((a.0, λ full. new_name front k (length vs + left) names room full.1), later_values (front ++ field_from (k, v) ∷ []) k vs rest left names t a.1 more.0 more.1 go)

front_readable : (xs ys : List Field) → AreReadable (xs ++ ys) → AreReadable xs
front_readable [] ys a = tt
front_readable (x ∷ xs) ys a = (a.0, front_readable xs ys a.1)

back_readable : (xs ys : List Field) → AreReadable (xs ++ ys) → AreReadable ys
back_readable [] ys a = a
back_readable (x ∷ xs) ys a = back_readable xs ys a.1

-- the fields of a map are kept behind fields that leave room for them
pub map_kept : (m : Entries FieldValue) (front : List Field) → AllByRecursion (λ (k : List ℕ). is_pseudo_name k ≡ false) (keys m) → AreReadable (map_fields m)
    → HasRoom front (value_count m) (length m) → AreTaken front (map_fields m)
map_kept [] front p a r = tt
map_kept (e ∷ m) front p a r =
    let split : map_fields (e ∷ m) ≡ map field_from (entry_pairs e) ++ map_fields m = map-append field_from (entry_pairs e) (pairs m) in
    let both : AreReadable (map field_from (entry_pairs e) ++ map_fields m) = subst AreReadable split a in
    let x = r.values_fit in
    let y = r.names_fit in
    let c = count_cons e m in
    let room : HasRoom front (length e.1 + value_count m) (suc (length m)) = record { values_fit = omega (arith, x, c); names_fit = omega (arith, y) } in
    subst (AreTaken front) (sym split)
    (entry_kept front e.0 e.1 (map_fields m) (value_count m) (length m) p.0 (front_readable (map field_from (entry_pairs e)) (map_fields m) both) room
    (λ after free. map_kept m after p.1 (back_readable (map field_from (entry_pairs e)) (map_fields m) both) free))
