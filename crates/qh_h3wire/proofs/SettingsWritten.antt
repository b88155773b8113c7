-- Written settings are read back.
use Rattle.std.specs.Prelude.{if◌then◌else◌, map, filter, flat_map}
use Rattle.std.specs.List.{AllByRecursion}
use Rattle.std.proofs.Common.{◌≡◌, ℕ, ◌*◌, ◌^◌, ◌<◌, ◌≤◌, ◌==◌, nat_lt, Bool, true, false, List, [], ◌∷◌, ◌++◌, length, refl, sym, ap, ◌∙◌, arith, inl, inr, Ok, subst, append_assoc, append-nil, length-append}
use Rattle.std.proofs.lemmas.Bool.{cases_Bool, cases_lt, lt-ltb, le-ltb, ne_eqb}
use Rattle.std.proofs.lemmas.List.{map-append}
use Rattle.std.proofs.lemmas.List.Elements.{filter-append}
use Rattle.qh_spec.proofs.Members.{in_split, distinct_front, last_is_new}
use Rattle.qh_spec.proofs.Varints.{varint_spelled}
use Rattle.qh_spec.specs.Lists.{In, Distinct}
use Rattle.qh_spec.specs.Varint.{varint}
use Rattle.qh_h3wire.specs.Settings.{Entry, AreEntries, ids_of, IsAllowed, AreAllowed, PlainSettings, settings_of, MeansSettings, value_or, is_kept, pair_of, no_limit, entry_bytes, limited, switched, written_entries, settings_bytes, IsOtherId, AreWritable, is_kept_pair, at_most_no_limit, settings_as_read}
use Rattle.qh_h3wire.specs.SettingsAt.{settings_at}
use Rattle.qh_h3wire.specs.SettingsReading.{HaveForms}
use Rattle.qh_h3wire.proofs.Lengths.{varint_short}
use Rattle.qh_h3wire.proofs.SettingsRead.{means_read}

abbrev entry_for : ℕ × ℕ → Entry
entry_for p = record { id = p.0; value = p.1 }

-- the entries are spelled

entries_written : (ps : List (ℕ × ℕ)) → HaveForms ps → AreEntries (flat_map entry_bytes ps) (map entry_for ps)
entries_written [] h = refl
entries_written (p ∷ ps) h = (
  entry_bytes p,
  flat_map entry_bytes ps,
  refl,
  record { id_bytes = varint p.0; value_bytes = varint p.1; whole = refl; id_is = varint_spelled p.0 h.0.0; value_is = varint_spelled p.1 h.0.1 },
  entries_written ps h.1,
)

forms_append : (ps qs : List (ℕ × ℕ)) → HaveForms ps → HaveForms qs → HaveForms (ps ++ qs)
forms_append [] qs h k = k
forms_append (p ∷ ps) qs h k = (h.0, forms_append ps qs h.1 k)

others_forms : (ps : List (ℕ × ℕ)) → AllByRecursion (λ (p : ℕ × ℕ). IsOtherId p.0 × (p.1 < 2 ^ 62)) ps → HaveForms ps
others_forms [] h = tt
others_forms (p ∷ ps) h = ((h.0.0.0, h.0.1), others_forms ps h.1)

switched_forms : (b : Bool) (id : ℕ) → id < 2 ^ 62 → HaveForms (switched b id)
switched_forms true id h = ((h, omega arith), tt)
switched_forms false id h = tt

limited_forms : (n : ℕ) → HaveForms (limited n)
limited_forms n =
    elim (cases_lt n no_limit) [
      | inl h ↦ let t : nat_lt n no_limit ≡ true = lt-ltb n no_limit h in rw t ((omega arith, omega arith), tt)
      | inr h ↦ let t : nat_lt n no_limit ≡ false = le-ltb n no_limit h in rw t tt
    ]

pub written_forms : (s : PlainSettings) → AreWritable s → HaveForms (written_entries s)
written_forms s w =
    forms_append s.other (limited s.max_field_section_size ++ (switched s.enable_extended_connect 8 ++ switched s.enable_datagram 51)) (others_forms s.other w.ids)
    (forms_append (limited s.max_field_section_size) (switched s.enable_extended_connect 8 ++ switched s.enable_datagram 51) (limited_forms s.max_field_section_size)
    (forms_append (switched s.enable_extended_connect 8) (switched s.enable_datagram 51) (switched_forms s.enable_extended_connect 8 (omega arith)) (switched_forms s.enable_datagram 51 (omega arith))))

-- an entry that may be there
abbrev one_if : Bool → Entry → List Entry
one_if true e = e ∷ []
one_if false e = []

-- what is written behind the others
abbrev known : (a : Bool) (n : ℕ) (b c : Bool) → List Entry
known a n b c = one_if a (record { id = 6; value = n }) ++ (one_if b (record { id = 8; value = 1 }) ++ one_if c (record { id = 51; value = 1 }))

-- the others have none of the known ids
abbrev HasOthers : List Entry → Type 0
HasOthers es = AllByRecursion (λ (e : Entry). IsOtherId e.id) es

others_map : (ps : List (ℕ × ℕ)) → AllByRecursion (λ (p : ℕ × ℕ). IsOtherId p.0 × (p.1 < 2 ^ 62)) ps → HasOthers (map entry_for ps)
others_map [] h = tt
others_map (p ∷ ps) h = (h.0.0, others_map ps h.1)

-- an id that no other has
no_other : (k : ℕ) (es : List Entry) → HasOthers es → (IsOtherId k → ⊥) → In k (ids_of es) → ⊥
no_other k [] h not i = i
no_other k (e ∷ es) h not (inl same) = not (subst IsOtherId same h.0)
no_other k (e ∷ es) h not (inr i) = no_other k es h.1 not i

no_value : (d k : ℕ) (es more : List Entry) → HasOthers es → (IsOtherId k → ⊥) → value_or d k (es ++ more) ≡ value_or d k more
no_value d k [] more h not = refl
no_value d k (e ∷ es) more h not =
    let other : (e.id == k) ≡ false = ne_eqb e.id k (λ same. not (subst IsOtherId same h.0)) in
    rw other (no_value d k es more h.1 not)

six_is_known : IsOtherId 6 → ⊥
six_is_known h = h.2 refl

eight_is_known : IsOtherId 8 → ⊥
eight_is_known h = h.3 (inl refl)

datagram_is_known : IsOtherId 51 → ⊥
datagram_is_known h = h.3 (inr refl)

-- what the known ones mean

known_limit : (a : Bool) (n : ℕ) (b c : Bool) → value_or no_limit 6 (known a n b c) ≡ (if a then n else no_limit)
known_limit true n b c = refl
known_limit false n true true = refl
known_limit false n true false = refl
known_limit false n false true = refl
known_limit false n false false = refl

known_connect : (a : Bool) (n : ℕ) (b c : Bool) → (value_or 0 8 (known a n b c) == 1) ≡ b
known_connect true n true c = refl
known_connect true n false true = refl
known_connect true n false false = refl
known_connect false n true c = refl
known_connect false n false true = refl
known_connect false n false false = refl

known_datagram : (a : Bool) (n : ℕ) (b c : Bool) → (value_or 0 51 (known a n b c) == 1) ≡ c
known_datagram true n true true = refl
known_datagram true n true false = refl
known_datagram true n false true = refl
known_datagram true n false false = refl
known_datagram false n true true = refl
known_datagram false n true false = refl
known_datagram false n false true = refl
known_datagram false n false false = refl

known_kept : (a : Bool) (n : ℕ) (b c : Bool) → filter is_kept (known a n b c) ≡ []
known_kept true n true true = refl
known_kept true n true false = refl
known_kept true n false true = refl
known_kept true n false false = refl
known_kept false n true true = refl
known_kept false n true false = refl
known_kept false n false true = refl
known_kept false n false false = refl

others_kept : (ps : List (ℕ × ℕ)) → map pair_of (filter is_kept (map entry_for ps)) ≡ filter is_kept_pair ps
others_kept [] = refl
others_kept (p ∷ ps) =
    let on = others_kept ps in
    elim (cases_Bool (is_kept_pair p)) [ inl t ↦ rw t (ap (λ (z : List (ℕ × ℕ)). p ∷ z) on) | inr t ↦ rw t on ]

-- the entries may stand where they do

fresh : (k : ℕ) (front : List Entry) (b : Bool) (e : Entry) → (In k (ids_of front) → ⊥) → (e.id ≡ k → ⊥) → In k (ids_of (front ++ one_if b e)) → ⊥
fresh k front true e none other i =
    elim (in_split k (ids_of front) (e.id ∷ []) (subst (λ (z : List ℕ). In k z) (map-append (λ (f : Entry). f.id) front (e ∷ [])) i)) [
      | inl h ↦ none h
      | inr h ↦ elim h [ inl same ↦ other same | inr away ↦ away ]
    ]
fresh k front false e none other i = none (subst (λ (z : List Entry). In k (ids_of z)) (append-nil front) i)

allowed_if : (b : Bool) (e : Entry) (front rest : List Entry) → IsAllowed front e → AreAllowed (front ++ one_if b e) rest → AreAllowed front (one_if b e ++ rest)
allowed_if true e front rest is more = (is, more)
allowed_if false e front rest is more = subst (λ (z : List Entry). AreAllowed z rest) (append-nil front) more

last_allowed : (b : Bool) (e : Entry) (front : List Entry) → IsAllowed front e → AreAllowed front (one_if b e)
last_allowed true e front is = (is, tt)
last_allowed false e front is = tt

known_allowed : (front : List Entry) (a : Bool) (n : ℕ) (b c : Bool) → HasOthers front → AreAllowed front (known a n b c)
known_allowed front a n b c h =
    let limit : Entry = record { id = 6; value = n } in
    let connect : Entry = record { id = 8; value = 1 } in
    let datagram : Entry = record { id = 51; value = 1 } in
    let second = front ++ one_if a limit in
    let third = second ++ one_if b connect in
    let no6 = no_other 6 front h six_is_known in
    let no8 = fresh 8 front a limit (no_other 8 front h eight_is_known) (λ e. omega arith) in
    let no51 = fresh 51 second b connect (fresh 51 front a limit (no_other 51 front h datagram_is_known) (λ e. omega arith)) (λ e. omega arith) in
    allowed_if a limit front (one_if b connect ++ one_if c datagram) (record { new = no6; known = λ r. omega arith; flag = λ f. elim f [ inl x ↦ absurd (omega (arith, x)) | inr x ↦ absurd (omega (arith, x)) ] })
    (allowed_if b connect second (one_if c datagram) (record { new = no8; known = λ r. omega arith; flag = λ f. omega arith })
    (last_allowed c datagram third (record { new = no51; known = λ r. omega arith; flag = λ f. omega arith })))

others_allowed : (es front : List Entry) → HasOthers es → Distinct (ids_of (front ++ es)) → AreAllowed front es
others_allowed [] front h d = tt
others_allowed (e ∷ es) front h d =
    let split : ids_of (front ++ e ∷ es) ≡ (ids_of front ++ e.id ∷ []) ++ ids_of es =
    map-append (λ (f : Entry). f.id) front (e ∷ es) ∙ sym (append_assoc (ids_of front) (e.id ∷ []) (ids_of es)) in
    let last = last_is_new (ids_of front) e.id (distinct_front (ids_of front ++ e.id ∷ []) (ids_of es) (subst (λ (z : List ℕ). Distinct z) split d)) in (
      record { new = last; known = h.0.1; flag = λ f. absurd (h.0.3 f) },
      others_allowed es (front ++ e ∷ []) h.1 (subst (λ (z : List Entry). Distinct (ids_of z)) (sym (append_assoc front (e ∷ []) es)) d),
    )

allowed_append : (es fs front : List Entry) → AreAllowed front es → AreAllowed (front ++ es) fs → AreAllowed front (es ++ fs)
allowed_append [] fs front a b = subst (λ (z : List Entry). AreAllowed z fs) (append-nil front) b
allowed_append (e ∷ es) fs front a b = (a.0, allowed_append es fs (front ++ e ∷ []) a.1 (subst (λ (z : List Entry). AreAllowed z fs) (sym (append_assoc front (e ∷ []) es)) b))

ids_are : (ps : List (ℕ × ℕ)) → map (λ (p : ℕ × ℕ). p.0) ps ≡ ids_of (map entry_for ps)
ids_are [] = refl
ids_are (p ∷ ps) = ap (λ (z : List ℕ). p.0 ∷ z) (ids_are ps)

tail_is : (a : Bool) (n : ℕ) (b c : Bool) → map entry_for ((if a then (6, n) ∷ [] else []) ++ (switched b 8 ++ switched c 51)) ≡ known a n b c
tail_is true n true true = refl
tail_is true n true false = refl
tail_is true n false true = refl
tail_is true n false false = refl
tail_is false n true true = refl
tail_is false n true false = refl
tail_is false n false true = refl
tail_is false n false false = refl

all_are : (m m' : ℕ) (a a' b b' : Bool) (o o' : List (ℕ × ℕ)) → m ≡ m' → a ≡ a' → b ≡ b' → o ≡ o'
    → ◌≡◌ {A = PlainSettings} (record { max_field_section_size = m; enable_extended_connect = a; enable_datagram = b; other = o })
    (record { max_field_section_size = m'; enable_extended_connect = a'; enable_datagram = b'; other = o' })
all_are m m' a a' b b' o o' p q r s = cc

means_this : (s : PlainSettings) (e : List Entry) → e ≡ map entry_for s.other ++ known (nat_lt s.max_field_section_size no_limit) s.max_field_section_size s.enable_extended_connect s.enable_datagram
    → HasOthers (map entry_for s.other) → settings_as_read s ≡ settings_of e
means_this s e is h =
    let a : Bool = nat_lt s.max_field_section_size no_limit in
    let others = map entry_for s.other in
    let tail = known a s.max_field_section_size s.enable_extended_connect s.enable_datagram in
    let limit : at_most_no_limit s.max_field_section_size ≡ value_or no_limit 6 (others ++ tail) =
    sym (no_value no_limit 6 others tail h six_is_known ∙ known_limit a s.max_field_section_size s.enable_extended_connect s.enable_datagram) in
    let connect : s.enable_extended_connect ≡ (value_or 0 8 (others ++ tail) == 1) =
    sym (ap (λ (z : ℕ). z == 1) (no_value 0 8 others tail h eight_is_known) ∙ known_connect a s.max_field_section_size s.enable_extended_connect s.enable_datagram) in
    let datagram : s.enable_datagram ≡ (value_or 0 51 (others ++ tail) == 1) =
    sym (ap (λ (z : ℕ). z == 1) (no_value 0 51 others tail h datagram_is_known) ∙ known_datagram a s.max_field_section_size s.enable_extended_connect s.enable_datagram) in
    let other : filter is_kept_pair s.other ≡ map pair_of (filter is_kept (others ++ tail)) =
    sym (ap (map pair_of) (filter-append is_kept others tail ∙ ap (λ (z : List Entry). filter is_kept others ++ z) (known_kept a s.max_field_section_size s.enable_extended_connect s.enable_datagram) ∙ append-nil (filter is_kept others)) ∙ others_kept s.other) in
    all_are _ _ _ _ _ _ _ _ limit connect datagram other ∙ ap settings_of (sym is)

-- written settings mean what is read of them
pub written_means : (s : PlainSettings) → AreWritable s → MeansSettings (settings_bytes s) (settings_as_read s)
written_means s w =
    let others = map entry_for s.other in
    let h = others_map s.other w.ids in
    let a : Bool = nat_lt s.max_field_section_size no_limit in
    let tail = known a s.max_field_section_size s.enable_extended_connect s.enable_datagram in
    let is : map entry_for (written_entries s) ≡ others ++ tail =
    map-append entry_for s.other (limited s.max_field_section_size ++ (switched s.enable_extended_connect 8 ++ switched s.enable_datagram 51))
    ∙ ap (λ (z : List Entry). others ++ z) (tail_is a s.max_field_section_size s.enable_extended_connect s.enable_datagram) in
    let allowed : AreAllowed [] (others ++ tail) =
    allowed_append others tail [] (others_allowed others [] h (subst (λ (z : List ℕ). Distinct z) (ids_are s.other) w.distinct))
    (known_allowed others a s.max_field_section_size s.enable_extended_connect s.enable_datagram h) in
    record {
      entries = map entry_for (written_entries s);
      are = entries_written (written_entries s) (written_forms s w);
      allowed = subst (λ (z : List Entry). AreAllowed [] z) (sym is) allowed;
      means = means_this s (map entry_for (written_entries s)) is h;
    }

pub written_settings_read : (s : PlainSettings) → AreWritable s → settings_at (settings_bytes s) ≡ Ok (settings_as_read s)
written_settings_read s w = means_read (settings_bytes s) (settings_as_read s) (written_means s w)

-- few settings have a short payload

entries_short : (ps : List (ℕ × ℕ)) → HaveForms ps → length (flat_map entry_bytes ps) ≤ 16 * length ps
entries_short [] h = omega arith
entries_short (p ∷ ps) h =
    let a = varint_short p.0 h.0.0 in
    let b = varint_short p.1 h.0.1 in
    let on = entries_short ps h.1 in
    let x = length-append (varint p.0) (varint p.1) in
    let y = length-append (entry_bytes p) (flat_map entry_bytes ps) in
    omega arith

limited_few : (n : ℕ) → length (limited n) ≤ 1
limited_few n = elim (cases_Bool (nat_lt n no_limit)) [ inl t ↦ rw t (omega arith) | inr t ↦ rw t (omega arith) ]

switched_few : (b : Bool) (id : ℕ) → length (switched b id) ≤ 1
switched_few true id = omega arith
switched_few false id = omega arith

pub settings_short : (s : PlainSettings) → AreWritable s → length s.other ≤ 8 → length (settings_bytes s) < 2 ^ 62
settings_short s w few =
    let l = limited s.max_field_section_size in
    let b = switched s.enable_extended_connect 8 in
    let c = switched s.enable_datagram 51 in
    let x = length-append s.other (l ++ (b ++ c)) in
    let y = length-append l (b ++ c) in
    let z = length-append b c in
    let i = limited_few s.max_field_section_size in
    let j = switched_few s.enable_extended_connect 8 in
    let k = switched_few s.enable_datagram 51 in
    let all = entries_short (written_entries s) (written_forms s w) in
    omega arith
