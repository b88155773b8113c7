-- Maps have room for the fields that mean a map with room.
use Rattle.std.proofs.Common.{◌≡◌, inl, inr, ℕ, suc, ◌+◌, ◌*◌, ◌^◌, ◌<◌, ◌≤◌, ◌==◌, true, false, List, [], ◌∷◌, ◌++◌, length, Option, Some, None, refl, sym, ap, ◌∙◌, subst, arith, length-append, append-nil, append_assoc}
use Rattle.std.specs.Prelude.{bytes_eq, map, filter, not, if◌then◌else◌}
use Rattle.std.proofs.lemmas.Bool.{cases_Bool, ne_eqb}
use Rattle.std.proofs.lemmas.List.{length-map}
use Rattle.std.proofs.lemmas.List.Sums.{sum_by-cons}
use Rattle.std.proofs.lemmas.Slice.Eq.{bytes_eq-Decides}
use Rattle.http_header.specs.FieldValue.{FieldValue, plain_value}
use Rattle.http_header.specs.HeaderMap.{Entry, Entries, pairs, entry_at, entry_pairs, value_count, get_all, append, append_all, RefusesAppend, IsHeaderMap}
use Rattle.http_header.proofs.HeaderMapLemmas.{get_all-append_other}
use Rattle.http_header.proofs.PlacesLemmas.{ContainsKey-from_entry}
use Rattle.qh_h3wire.proofs.FieldLists.{map_plain, map_pseudo}
use Rattle.qh_h3wire.proofs.Readable.{is_plain}
use Rattle.qh_spec.specs.Fields.{Field, head_fields, map_fields, message_fields, trailer_fields}
use Rattle.qh_spec.specs.Meaning.{AreReadable, MeansFields, is_pseudo_name}
use Rattle.qh_spec.specs.Message.{PlainMessage}
use Rattle.qh_spec.specs.Refusal.{fields_map, AreTaken}
use Rattle.qh_spec.specs.Size.{section_size}
use Rattle.qh_spec.specs.Validity.{AreValidTrailers, IsValidRequest}
use Rattle.qh_spec.proofs.MapLaws.{fields_make}
use Rattle.qh_spec.proofs.MessageLaws.{fields_same}
use Rattle.qh_message.specs.Room.{named, HasRoomIn, HasTrailerRoom, HasRoomFor}

count_cons : (e : Entry FieldValue) (m : Entries FieldValue) → value_count (e ∷ m) ≡ length e.1 + value_count m
count_cons e m = sum_by-cons (λ (x : Entry FieldValue). length x.1) e m

unlike : (a b : List ℕ) → (a ≡ b → ⊥) → bytes_eq a b ≡ false
unlike a b n = elim (cases_Bool (bytes_eq a b)) [ inl t ↦ absurd (n ((bytes_eq-Decides a b).0 t)) | inr t ↦ t ]

differ : (a b : List ℕ) → bytes_eq a b ≡ false → a ≡ b → ⊥
differ a b f e = let t : bytes_eq a b ≡ true = (bytes_eq-Decides a b).1 e in let both : true ≡ false = sym t ∙ f in cc

-- a map with a value more
count_append : (m : Entries FieldValue) (name : List ℕ) (x : FieldValue) → value_count (append m name x) ≡ value_count m + 1
count_append [] name x = refl
count_append (e ∷ m) name x =
    elim (cases_Bool (bytes_eq e.0 name)) [
      | inl t ↦ rw t (omega (arith, count_cons (e.0, e.1 ++ x ∷ []) m, count_cons e m, length-append e.1 (x ∷ [])))
      | inr f ↦ rw f (omega (arith, count_cons e (append m name x), count_cons e m, count_append m name x))
    ]

names_kept : (m : Entries FieldValue) (name : List ℕ) (x : FieldValue) → length m ≤ length (append m name x)
names_kept [] name x = omega arith
names_kept (e ∷ m) name x =
    elim (cases_Bool (bytes_eq e.0 name)) [
      | inl t ↦ rw t (omega arith)
      | inr f ↦ rw f (let rest = names_kept m name x in omega (arith, rest))
    ]

names_new : (m : Entries FieldValue) (name : List ℕ) (x : FieldValue) → ((i : ℕ) → i < length m → (entry_at m i).0 ≡ name → ⊥) → length (append m name x) ≡ length m + 1
names_new [] name x n = refl
names_new (e ∷ m) name x n =
    elim (cases_Bool (bytes_eq e.0 name)) [
      | inl t ↦ absurd (n 0 (omega arith) ((bytes_eq-Decides e.0 name).0 t))
      | inr f ↦ rw f (let rest = names_new m name x (λ i l s. n (suc i) (omega (arith, l)) s) in omega (arith, rest))
    ]

-- the names differ, and each has a value
abbrev AreApart : Entries FieldValue → Type 0
AreApart [] = Unit {0}
AreApart (e ∷ m) = (0 < length e.1) × (get_all m e.0 ≡ []) × AreApart m

apart_more : (m : Entries FieldValue) (name : List ℕ) (x : FieldValue) → AreApart m → AreApart (append m name x)
apart_more [] name x h = (omega arith, refl, tt)
apart_more (e ∷ m) name x h =
    elim (cases_Bool (bytes_eq e.0 name)) [
      | inl t ↦ rw t (let l = length-append e.1 (x ∷ []) in omega (arith, l), h.1, h.2)
      | inr f ↦ rw f (h.0, get_all-append_other m name e.0 x (λ s. differ e.0 name f (sym s)) ∙ h.1, apart_more m name x h.2)
    ]

apart_all : (items : List (List ℕ × FieldValue)) (m : Entries FieldValue) → AreApart m → AreApart (append_all m items)
apart_all [] m h = h
apart_all (i ∷ items) m h = apart_all items (append m i.0 i.1) (apart_more m i.0 i.1 h)

map_apart : (fs : List Field) → AreApart (fields_map fs)
map_apart fs = apart_all (map (λ (f : Field). (f.name, plain_value f.value)) (filter (λ (f : Field). not (is_pseudo_name f.name)) fs)) [] tt

-- a map without the first entry of a name
abbrev without : Entries FieldValue → List ℕ → Entries FieldValue
without [] k = []
without (e ∷ m) k = if bytes_eq e.0 k then m else e ∷ without m k

without_other : (m : Entries FieldValue) (k name : List ℕ) → (k ≡ name → ⊥) → get_all (without m k) name ≡ get_all m name
without_other [] k name n = refl
without_other (e ∷ m) k name n =
    elim (cases_Bool (bytes_eq e.0 k)) [
      | inl t ↦ let u : bytes_eq e.0 name ≡ false = unlike e.0 name (λ s. n (sym ((bytes_eq-Decides e.0 k).0 t) ∙ s)) in rw (t, u) refl
      | inr f ↦
          elim (cases_Bool (bytes_eq e.0 name)) [
            | inl u ↦ rw (f, u) refl
            | inr u ↦ rw (f, u) (without_other m k name n)
          ]
    ]

without_names : (m : Entries FieldValue) (k : List ℕ) → 0 < length (get_all m k) → length (named m) ≡ suc (length (named (without m k)))
without_names [] k h = absurd (omega (arith, h))
without_names (e ∷ m) k h =
    elim (cases_Bool (bytes_eq e.0 k)) [
      | inl t ↦
          let l : 0 < length e.1 = rw t at h in
          let z : (length e.1 == 0) ≡ false = ne_eqb (length e.1) 0 (λ s. omega (arith, s, l)) in
          rw (t, z) refl
      | inr f ↦
          let l : 0 < length (get_all m k) = rw f at h in
          let r = without_names m k l in
          elim (cases_Bool (length e.1 == 0)) [
            | inl z ↦ rw (f, z) r
            | inr z ↦ rw (f, z) (ap suc r)
          ]
    ]

without_values : (m : Entries FieldValue) (k : List ℕ) → value_count m ≡ length (get_all m k) + value_count (without m k)
without_values [] k = refl
without_values (e ∷ m) k =
    elim (cases_Bool (bytes_eq e.0 k)) [
      | inl t ↦ rw t (count_cons e m)
      | inr f ↦ rw f (let r = without_values m k in omega (arith, r, count_cons e m, count_cons e (without m k)))
    ]

-- a map whose names have no more values than in another has no more names and values
fewer : (a b : Entries FieldValue) → AreApart a → ((name : List ℕ) → length (get_all a name) ≤ length (get_all b name))
    → (length a ≤ length (named b)) × (value_count a ≤ value_count b)
fewer [] b h w = (omega arith, omega arith)
fewer (e ∷ a) b h w =
    let t : bytes_eq e.0 e.0 ≡ true = (bytes_eq-Decides e.0 e.0).1 refl in
    let g = w e.0 in
    let first : length e.1 ≤ length (get_all b e.0) = rw t at g in
    let some = h.0 in
    let r = fewer a (without b e.0) h.2 (λ name.
    elim (cases_Bool (bytes_eq e.0 name)) [
      | inl s ↦
          let none : length (get_all a name) ≡ 0 = ap length (subst (λ (z : List ℕ). get_all a z ≡ []) ((bytes_eq-Decides e.0 name).0 s) h.1) in
          omega (arith, none)
      | inr f ↦
          let n = w name in
          let later : length (get_all a name) ≤ length (get_all b name) = rw f at n in
          let same = ap length (without_other b e.0 name (differ e.0 name f)) in
          omega (arith, later, same)
    ]) in
    let names = without_names b e.0 (omega (arith, first, some)) in
    let values = without_values b e.0 in
    let x = r.0 in
    let y = r.1 in
    (omega (arith, x, names), omega (arith, y, values, first, count_cons e a))

-- the map of more fields is no smaller
grown : (xs ys : List Field) → (length (fields_map xs) ≤ length (fields_map (xs ++ ys))) × (value_count (fields_map xs) ≤ value_count (fields_map (xs ++ ys)))
grown xs [] = let e = append-nil xs in let a = ap (λ (z : List Field). length (fields_map z)) e in let b = ap (λ (z : List Field). value_count (fields_map z)) e in (omega (arith, a), omega (arith, b))
grown xs (y ∷ ys) =
    let r = grown (xs ++ y ∷ []) ys in
    let e = append_assoc xs (y ∷ []) ys in
    let a = ap (λ (z : List Field). length (fields_map z)) e in
    let b = ap (λ (z : List Field). value_count (fields_map z)) e in
    let n = r.0 in
    let v = r.1 in
    elim (cases_Bool (is_pseudo_name y.name)) [
      | inl t ↦
          let same = map_pseudo xs y t in
          let p = ap length same in
          let q = ap value_count same in
          (omega (arith, a, n, p), omega (arith, b, v, q))
      | inr f ↦
          let more = map_plain xs y f in
          let p = ap length more in
          let q = ap value_count more in
          let k = names_kept (fields_map xs) y.name (plain_value y.value) in
          let c = count_append (fields_map xs) y.name (plain_value y.value) in
          (omega (arith, a, n, p, k), omega (arith, b, v, q, c))
    ]

one_too_many : (front rest : List Field) (f : Field) → value_count (fields_map ((front ++ f ∷ []) ++ rest)) < 2 ^ 64 → length (fields_map ((front ++ f ∷ []) ++ rest)) ≤ 24576
    → is_pseudo_name f.name ≡ false → RefusesAppend (fields_map front) f.name → ⊥
one_too_many front rest f v n p full =
    let g = grown (front ++ f ∷ []) rest in
    let more = map_plain front f p in
    let a = ap length more in
    let b = ap value_count more in
    let c = count_append (fields_map front) f.name (plain_value f.value) in
    let gn = g.0 in
    let gv = g.1 in
    elim full [
      | inl x ↦ omega (arith, v, b, c, gv, x)
      | inr x ↦
          let k = names_new (fields_map front) f.name (plain_value f.value) (λ i l s. x.0 (ContainsKey-from_entry (fields_map front) f.name i l s)) in
          elim x.1 [
            | inl y ↦ omega (arith, n, a, k, gn, y)
            | inr y ↦ omega (arith, v, b, c, gv, y)
          ]
    ]

all_taken : (front rest : List Field) → AreReadable rest → value_count (fields_map (front ++ rest)) < 2 ^ 64 → length (fields_map (front ++ rest)) ≤ 24576 → AreTaken front rest
all_taken front [] r v n = tt
all_taken front (f ∷ rest) r v n =
    let e : front ++ f ∷ rest ≡ (front ++ f ∷ []) ++ rest = sym (append_assoc front (f ∷ []) rest) in
    let w : value_count (fields_map ((front ++ f ∷ []) ++ rest)) < 2 ^ 64 = subst (λ (z : List Field). value_count (fields_map z) < 2 ^ 64) e v in
    let k : length (fields_map ((front ++ f ∷ []) ++ rest)) ≤ 24576 = subst (λ (z : List Field). length (fields_map z) ≤ 24576) e n in
    ((r.0, λ full. one_too_many front rest f w k (is_plain f.name full.0) full.1), all_taken (front ++ f ∷ []) rest r.1 w k)

-- fields that mean a map with room are all kept
pub kept : (fs : List Field) (m : Entries FieldValue) → MeansFields fs m → HasRoomIn m → AreTaken [] fs
kept fs m means room =
    let same = fields_same fs (fields_map fs) m (fields_make fs means.readable) means in
    let few = fewer (fields_map fs) m (map_apart fs) (λ name.
    let l = ap length (same name) in
    let a = length-map (get_all (fields_map fs) name) (λ (v : FieldValue). v.bytes) in
    let b = length-map (get_all m name) (λ (v : FieldValue). v.bytes) in
    omega (arith, l, a, b)) in
    let x = few.0 in
    let y = few.1 in
    let names = room.names_fit in
    let values = room.values_fit in
    all_taken [] fs means.readable (omega (arith, y, values)) (omega (arith, x, names))

-- which maps have room
few_named : (m : Entries FieldValue) → length (named m) ≤ value_count m
few_named [] = omega arith
few_named ((k, []) ∷ m) = let r = few_named m in let c = count_cons (k, []) m in omega (arith, r, c)
few_named ((k, v ∷ vs) ∷ m) =
    let r = few_named m in
    let c = count_cons (k, v ∷ vs) m in
    let z : (length (v ∷ vs) == 0) ≡ false = ne_eqb (length (v ∷ vs)) 0 (λ s. omega (arith, s)) in
    rw z (omega (arith, r, c))

count_pairs : (m : Entries FieldValue) → length (pairs m) ≡ value_count m
count_pairs [] = refl
count_pairs (e ∷ m) =
    let l : length (entry_pairs e) ≡ length e.1 = length-map {B = List ℕ × FieldValue} e.1 (λ (v : FieldValue). (e.0, v)) in
    omega (arith, length-append (entry_pairs e) (pairs m), l, count_cons e m, count_pairs m)

abbrev field_from : List ℕ × FieldValue → Field
field_from p = record { name = p.0; value = p.1.bytes }

count_fields : (m : Entries FieldValue) → length (map_fields m) ≡ value_count m
count_fields m = length-map (pairs m) field_from ∙ count_pairs m

pub counted_room : (m : Entries FieldValue) → length (map_fields m) ≤ 24576 → HasRoomIn m
counted_room m h =
    let c = count_fields m in
    let n = few_named m in
    record { names_fit = omega (arith, h, c, n); values_fit = omega (arith, h, c) }

fields_of_size : (fs : List Field) → 32 * length fs ≤ section_size fs
fields_of_size [] = omega arith
fields_of_size (f ∷ fs) =
    let parts : section_size (f ∷ fs) ≡ (length f.name + length f.value + 32) + section_size fs = sum_by-cons (λ (g : Field). length g.name + length g.value + 32) f fs in
    let rest = fields_of_size fs in
    omega (arith, parts, rest)

counted_trailers : (t : Option (Entries FieldValue)) → length (trailer_fields t) ≤ 24576 → HasTrailerRoom t
counted_trailers None h = tt
counted_trailers (Some m) h = counted_room m h

counted : (m : PlainMessage) → length (message_fields m) ≤ 24576 → length (trailer_fields m.trailers) ≤ 24576 → HasRoomFor m
counted m h t =
    let l = length-append (head_fields m.head) (map_fields m.fields) in
    record { fields = counted_room m.fields (omega (arith, h, l)); trailers = counted_trailers m.trailers t }

pub sized_room : (m : PlainMessage) → section_size (message_fields m) ≤ 786432 → section_size (trailer_fields m.trailers) ≤ 786432 → HasRoomFor m
sized_room m h t =
    let a = fields_of_size (message_fields m) in
    let b = fields_of_size (trailer_fields m.trailers) in
    counted m (omega (arith, h, a)) (omega (arith, t, b))

few_trailers : (section : ℕ) (t : Option (Entries FieldValue)) → AreValidTrailers section t → length (trailer_fields t) ≤ 24576
few_trailers section None h = omega arith
few_trailers section (Some m) h = let l = h.1.0 in omega (arith, l)

pub valid_room : (section body : ℕ) (m : PlainMessage) → IsValidRequest section body m → HasRoomFor m
valid_room section body m v = let l = v.fields_fit.0 in counted m (omega (arith, l)) (few_trailers section m.trailers v.trailers)

-- each map of the crate `http_header` has room
few_of_all : (m : Entries FieldValue) → length (named m) ≤ length m
few_of_all [] = omega arith
few_of_all (e ∷ m) =
    let r = few_of_all m in
    elim (cases_Bool (length e.1 == 0)) [
      | inl z ↦ rw z (omega (arith, r))
      | inr z ↦ rw z (omega (arith, r))
    ]

pub map_room : (m : Entries FieldValue) → IsHeaderMap m → HasRoomIn m
map_room m h =
    let n = h.names_fit in
    let f = few_of_all m in
    record { names_fit = omega (arith, n, f); values_fit = h.values_fit }

pub message_room : (m : PlainMessage) (fields : Entries FieldValue) → IsHeaderMap fields → fields ≡ m.fields → HasTrailerRoom m.trailers → HasRoomFor m
message_room m fields h e t = record { fields = map_room m.fields (subst (λ (z : Entries FieldValue). IsHeaderMap z) e h); trailers = t }

pub trailer_room : (trailers : Option (Entries FieldValue)) (m : Entries FieldValue) → IsHeaderMap m → trailers ≡ Some m → HasTrailerRoom trailers
trailer_room trailers m h e = subst HasTrailerRoom (sym e) (map_room m h)
