-- One entry more of a SETTINGS frame.
use Rattle.std.specs.Prelude.{if◌then◌else◌, map, filter, not}
use Rattle.std.proofs.Common.{◌≡◌, ℕ, ◌+◌, ◌-◌, ◌<◌, ◌≤◌, ◌==◌, Bool, true, false, cond, List, [], ◌∷◌, ◌++◌, length, take, drop, refl, sym, ap, ◌∙◌, arith, inl, inr, Some, None, subst, append_assoc, append-nil, length-drop}
use Rattle.std.proofs.lemmas.Bool.{cases_Bool, eqb-true, eqb-false, ne_eqb, or_parts}
use Rattle.std.proofs.lemmas.List.{map-append, take_all, length-map}
use Rattle.std.proofs.lemmas.List.Elements.{filter-append}
use Rattle.std.specs.BTreeSet.{contains}
use Rattle.std.specs.BTreeMap.{is_at}
use Rattle.std.specs.Cmp.{unsigned_tied}
use Rattle.std.specs.Ordering.{nat_cmp}
use Rattle.qh_h3wire.specs.Settings.{Entry, PlainSettings, ids_of, settings_of, is_kept, pair_of, value_or, no_limit, AreAllowed, IsSettingsFault}
use Rattle.qh_h3wire.specs.SettingsAt.{has_id, own_fault, fault_of, entry_of}
use Rattle.qh_base.proofs.Varints.{IsBytes}
use Rattle.qh_h3wire.proofs.SettingsRead.{no_id, so_far_cut, so_far_more, so_far_fault, allowed_is, fault_is, pair_shortens}
use Rattle.qh_h3wire.specs.Pair.{pair_at}
use Rattle.qh_h3wire.specs.SettingsReading.{with_entry, HasRead, SoFar, IsReading, RefusesEntry, StopsReading}
use Rattle.qh_h3wire.specs.declared.pair.Pair.{Pair}
use Rattle.qh_h3wire.specs.SettingsValue.{plain_of}
use Rattle.qh_spec.proofs.Members.{distinct_more}
use Rattle.qh_spec.specs.Lists.{In, Distinct}
use Rattle.qh_h3wire.specs.declared.settings.Reading.{Reading}
use Rattle.qh_h3wire.specs.declared.settings.SettingsError.{SettingsError}
use Rattle.qh_h3wire.specs.declared.settings.SettingsError.TheVariants.{Malformed, Repeated, Forbidden, Value, Memory}

not_true : (b : Bool) → true ≡ not b → b ≡ false
not_true true h = cc
not_true false h = refl

not_false : (b : Bool) → false ≡ not b → b ≡ true
not_false true h = refl
not_false false h = cc

value_more : (d k : ℕ) (front : List Entry) (e : Entry) → has_id e.id front ≡ false → value_or d k (front ++ e ∷ []) ≡ (if e.id == k then e.value else value_or d k front)
value_more d k [] e new = refl
value_more d k (f ∷ fs) e new =
    let parts = or_parts (f.id == e.id) (has_id e.id fs) new in
    elim (cases_Bool (f.id == k)) [
      | inl t ↦
          let other : (e.id == k) ≡ false = ne_eqb e.id k (λ h. eqb-false f.id e.id parts.0 (eqb-true f.id k t ∙ sym h)) in
          rw (t, other) refl
      | inr t ↦ let on = value_more d k fs e parts.1 in rw t on
    ]

one_kept : (e : Entry) → map pair_of (filter is_kept (e ∷ [])) ≡ (if is_kept e then pair_of e ∷ [] else [])
one_kept e = elim (cases_Bool (is_kept e)) [ inl t ↦ rw t refl | inr t ↦ rw t refl ]

kept_more : (front : List Entry) (e : Entry) → map pair_of (filter is_kept (front ++ e ∷ [])) ≡ map pair_of (filter is_kept front) ++ (if is_kept e then pair_of e ∷ [] else [])
kept_more front e =
    ap (map pair_of) (filter-append is_kept front (e ∷ [])) ∙ map-append pair_of (filter is_kept front) (filter is_kept (e ∷ []))
    ∙ ap (λ (z : List (ℕ × ℕ)). map pair_of (filter is_kept front) ++ z) (one_kept e)

-- settings with an entry of this id and this value, each field by itself
spread : PlainSettings → ℕ → ℕ → PlainSettings
spread s id value = record {
  max_field_section_size = if id == 6 then value else s.max_field_section_size;
  enable_extended_connect = if id == 8 then value == 1 else s.enable_extended_connect;
  enable_datagram = if id == 51 then value == 1 else s.enable_datagram;
  other = s.other ++ (if is_kept (record { id = id; value = value }) then (id, value) ∷ [] else []);
}

same_other : (s : PlainSettings) → record s { other = s.other ++ [] } ≡ s
same_other s = ap (λ (z : List (ℕ × ℕ)). record s { other = z }) (append-nil s.other)

spread_is : (s : PlainSettings) (id value : ℕ) → spread s id value ≡ with_entry s (record { id = id; value = value })
unfolding spread
spread_is s id value =
    elim (cases_Bool (id == 6)) [
      | inl a ↦ subst (λ (z : ℕ). spread s z value ≡ with_entry s (record { id = z; value = value })) (sym (eqb-true id 6 a)) (same_other (record s { max_field_section_size = value }))
      | inr a ↦
          elim (cases_Bool (id == 8)) [
            | inl b ↦ subst (λ (z : ℕ). spread s z value ≡ with_entry s (record { id = z; value = value })) (sym (eqb-true id 8 b)) (same_other (record s { enable_extended_connect = value == 1 }))
            | inr b ↦
                elim (cases_Bool (id == 51)) [
                  | inl c ↦ subst (λ (z : ℕ). spread s z value ≡ with_entry s (record { id = z; value = value })) (sym (eqb-true id 51 c)) (same_other (record s { enable_datagram = value == 1 }))
                  | inr c ↦
                      elim (cases_Bool (is_kept (record { id = id; value = value }))) [
                        | inl d ↦ rw (a, b, c, d) refl
                        | inr d ↦ rw (a, b, c, d) (same_other s)
                      ]
                ]
          ]
    ]

if_one : (b : Bool) (m n : ℕ) → ((if b then m else n) == 1) ≡ (if b then m == 1 else (n == 1))
if_one true m n = refl
if_one false m n = refl

plain_is : (m m' : ℕ) (a a' b b' : Bool) (o o' : List (ℕ × ℕ)) → m ≡ m' → a ≡ a' → b ≡ b' → o ≡ o'
    → ◌≡◌ {A = PlainSettings} (record { max_field_section_size = m; enable_extended_connect = a; enable_datagram = b; other = o })
    (record { max_field_section_size = m'; enable_extended_connect = a'; enable_datagram = b'; other = o' })
plain_is m m' a a' b b' o o' p q r s = cc

settings_more : (front : List Entry) (e : Entry) → has_id e.id front ≡ false → settings_of (front ++ e ∷ []) ≡ with_entry (settings_of front) e
unfolding spread
settings_more front e new =
    plain_is _ _ _ _ _ _ _ _ (value_more no_limit 6 front e new)
    (ap (λ (z : ℕ). z == 1) (value_more 0 8 front e new) ∙ if_one (e.id == 8) e.value (value_or 0 8 front))
    (ap (λ (z : ℕ). z == 1) (value_more 0 51 front e new) ∙ if_one (e.id == 51) e.value (value_or 0 51 front))
    (kept_more front e)
    ∙ spread_is (settings_of front) e.id e.value

-- ids with one more
has_more : (q : ℕ) (front : List Entry) (e : Entry) → has_id q (front ++ e ∷ []) ≡ cond (e.id == q) true (has_id q front)
has_more q [] e = elim (cases_Bool (e.id == q)) [ inl t ↦ rw t refl | inr t ↦ rw t refl ]
has_more q (f ∷ fs) e =
    let on = has_more q fs e in
    elim (cases_Bool (f.id == q)) [
      | inl t ↦ elim (cases_Bool (e.id == q)) [ inl u ↦ rw (t, u) refl | inr u ↦ rw (t, u) refl ]
      | inr t ↦ rw t on
    ]

pub taken : (front : List Entry) (old new : Reading) (e : Entry) → HasRead front old → ((q : ℕ) → contains nat_cmp new.seen q ≡ cond (is_at (nat_cmp e.id) q) true (contains nat_cmp old.seen q))
    → true ≡ not (contains nat_cmp old.seen e.id) → own_fault e ≡ None → plain_of new.settings ≡ with_entry (plain_of old.settings) e
    → (fault_of front e ≡ None) × HasRead (front ++ e ∷ []) new
taken front old new e r seen added own set =
    let fresh : has_id e.id front ≡ false = sym (r.seen e.id) ∙ not_true (contains nat_cmp old.seen e.id) added in (
      (rw fresh own),
      record {
        seen = λ q. seen q ∙ ap (λ (z : Bool). cond z true (contains nat_cmp old.seen q)) (unsigned_tied e.id q) ∙ ap (λ (z : Bool). cond (e.id == q) true z) (r.seen q) ∙ sym (has_more q front e);
        settings = set ∙ ap (λ (z : PlainSettings). with_entry z e) r.settings ∙ sym (settings_more front e fresh);
      },
    )

-- the rest of a slice, as the code has it
pub slice_is : (rest : List ℕ) (n : ℕ) → take (length rest - n) (drop n rest) ≡ drop n rest
slice_is rest n = take_all (length rest - n) (drop n rest) (omega (arith, length-drop n rest))

pub front_cut : (payload rest : List ℕ) (old : Reading) → 0 < length rest → pair_at rest ≡ None → IsReading payload rest old → IsSettingsFault payload Malformed
front_cut payload rest old some h r = so_far_cut payload rest r.front r.so_far (λ e. let l = ap length e in omega arith) h

pub front_taken : (payload rest : List ℕ) (old new : Reading) (p : Pair) → IsBytes rest → pair_at rest ≡ Some p → IsReading payload rest old
    → ((front : List Entry) → HasRead front old → (fault_of front (entry_of p) ≡ None) × HasRead (front ++ entry_of p ∷ []) new)
    → (length (take (length rest - p.size) (drop p.size rest)) < length rest) × IsReading payload (take (length rest - p.size) (drop p.size rest)) new
front_taken payload rest old new p are h r on =
    let same = sym (slice_is rest p.size) in
    let next = on r.front r.read in (
      subst (λ (z : List ℕ). length z < length rest) same (pair_shortens rest p are h),
      record {
        front = r.front ++ entry_of p ∷ [];
        so_far = subst (λ (z : List ℕ). SoFar payload z (r.front ++ entry_of p ∷ [])) same (so_far_more payload rest r.front p are r.so_far h (allowed_is r.front (entry_of p) next.0));
        read = next.1;
      },
    )

refused : (payload rest : List ℕ) (old : Reading) (p : Pair) (f : SettingsError) → IsBytes rest → pair_at rest ≡ Some p → (r : IsReading payload rest old)
    → fault_of r.front (entry_of p) ≡ Some f → IsSettingsFault payload f
refused payload rest old p f are h r e = so_far_fault payload rest r.front p f are r.so_far h (fault_is r.front (entry_of p) f e)

pub front_refused : (payload rest : List ℕ) (old : Reading) (p : Pair) (f : SettingsError) → IsBytes rest → pair_at rest ≡ Some p → IsReading payload rest old
    → ((front : List Entry) → HasRead front old → RefusesEntry f front (entry_of p)) → StopsReading f payload
front_refused payload rest old p Memory are h r on = tt
front_refused payload rest old p Malformed are h r on = refused payload rest old p Malformed are h r (on r.front r.read)
front_refused payload rest old p (Repeated id) are h r on = refused payload rest old p (Repeated id) are h r (on r.front r.read)
front_refused payload rest old p (Forbidden id) are h r on = refused payload rest old p (Forbidden id) are h r (on r.front r.read)
front_refused payload rest old p (Value id value) are h r on = refused payload rest old p (Value id value) are h r (on r.front r.read)

-- an entry's fault isn't want of memory
entry_refused : (front : List Entry) (e : Entry) (f : SettingsError) → fault_of front e ≡ Some f → RefusesEntry f front e
entry_refused front e Memory h = absurd (fault_is front e Memory h)
entry_refused front e Malformed h = h
entry_refused front e (Repeated id) h = h
entry_refused front e (Forbidden id) h = h
entry_refused front e (Value id value) h = h

-- settings so far hold two others at most

ids_more : (front : List Entry) (e : Entry) → ids_of (front ++ e ∷ []) ≡ ids_of front ++ e.id ∷ []
ids_more front e = map-append (λ (f : Entry). f.id) front (e ∷ [])

allowed_distinct : (es front : List Entry) → Distinct (ids_of front) → AreAllowed front es → Distinct (ids_of (front ++ es))
allowed_distinct [] front d a = subst (λ (z : List Entry). Distinct (ids_of z)) (sym (append-nil front)) d
allowed_distinct (e ∷ es) front d a =
    let more : Distinct (ids_of (front ++ e ∷ [])) = subst (λ (z : List ℕ). Distinct z) (sym (ids_more front e)) (distinct_more (ids_of front) e.id d a.0.new) in
    subst (λ (z : List Entry). Distinct (ids_of z)) (append_assoc front (e ∷ []) es) (allowed_distinct es (front ++ e ∷ []) more a.1)

one_if : Bool → ℕ
one_if true = 1
one_if false = 0

one_at_most : (b : Bool) → one_if b ≤ 1
unfolding one_if
one_at_most true = omega arith
one_at_most false = omega arith

kept_bound : (es : List Entry) → Distinct (ids_of es) → length (filter is_kept es) ≤ one_if (has_id 1 es) + one_if (has_id 7 es)
unfolding one_if
kept_bound [] d = omega arith
kept_bound (e ∷ es) d =
    let on = kept_bound es d.1 in
    elim (cases_Bool (e.id == 1)) [
      | inl t ↦
          let is : e.id ≡ 1 = eqb-true e.id 1 t in
          let none : has_id 1 es ≡ false = no_id 1 es (λ i. d.0 (subst (λ (z : ℕ). In z (ids_of es)) (sym is) i)) in
          let other : (e.id == 7) ≡ false = ne_eqb e.id 7 (λ h. omega arith) in
          let bound : length (filter is_kept es) ≤ one_if false + one_if (has_id 7 es) = rw none at on in
          rw (t, other) (omega arith)
      | inr t ↦
          elim (cases_Bool (e.id == 7)) [
            | inl u ↦
                let is : e.id ≡ 7 = eqb-true e.id 7 u in
                let none : has_id 7 es ≡ false = no_id 7 es (λ i. d.0 (subst (λ (z : ℕ). In z (ids_of es)) (sym is) i)) in
                let bound : length (filter is_kept es) ≤ one_if (has_id 1 es) + one_if false = rw none at on in
                rw (t, u) (omega arith)
            | inr u ↦ rw (t, u) on
          ]
    ]

kept_few : (front : List Entry) → AreAllowed [] front → length (filter is_kept front) ≤ 2
kept_few front a =
    let b = kept_bound front (allowed_distinct front [] tt a) in
    let x = one_at_most (has_id 1 front) in
    let y = one_at_most (has_id 7 front) in
    omega arith

pub few_others : (payload rest : List ℕ) (r : Reading) → IsReading payload rest r → length r.settings.other.items < 8
few_others payload rest r is =
    let same : r.settings.other.items ≡ map pair_of (filter is_kept is.front) = ap (λ (z : PlainSettings). z.other) is.read.settings in
    let l = ap length same ∙ length-map (filter is_kept is.front) pair_of in
    let few = kept_few is.front is.so_far.allowed in
    omega arith
