-- Settings that are spelled are read, and what is read is spelled so; likewise each fault.
use Rattle.std.proofs.Common.{◌≡◌, ◌≢◌, ℕ, zero, suc, ◌+◌, ◌<◌, ◌≤◌, ◌==◌, nat_lt, nat_le, true, false, List, [], ◌∷◌, ◌++◌, length, drop, refl, sym, ap, ◌∙◌, arith, inl, inr, Option, Some, None, Result, Ok, Err, subst, append_assoc, append-nil, length-append}
use Rattle.std.proofs.lemmas.Bool.{cases_Bool, cases_lt, lt-ltb, le-ltb, le-leb, leb-true, eqb-true, eq-eqb, and_parts, or_cases, false_from_ne_true}
use Rattle.std.proofs.lemmas.List.{drop_at}
use Rattle.std.specs.List.{AllByRecursion}
use Rattle.qh_base.proofs.Varints.{IsBytes}
use Rattle.qh_spec.proofs.Cuts.{inner, varints_agree}
use Rattle.qh_spec.specs.Lists.{In}
use Rattle.qh_h3wire.proofs.Pairs.{pair_spelled, pair_again, rest_is, rest_bytes, some_bytes}
use Rattle.qh_h3wire.specs.Pair.{pair_at}
use Rattle.qh_h3wire.specs.Settings.{Entry, IsEntry, AreEntries, IsReserved, IsFlag, ids_of, IsAllowed, AreAllowed, PlainSettings, settings_of, MeansSettings, IsEntryFault, IsSettingsFault, entry, cut}
use Rattle.qh_h3wire.specs.SettingsAt.{is_reserved, is_flag, has_id, fault_of, entry_of, unless_fault, after_entry, settings_from, settings_at}
use Rattle.qh_h3wire.specs.SettingsReading.{SoFar}
use Rattle.qh_h3wire.specs.declared.pair.Pair.{Pair}
use Rattle.qh_h3wire.specs.declared.settings.SettingsError.{SettingsError}
use Rattle.qh_h3wire.specs.declared.settings.SettingsError.TheVariants.{Malformed, Repeated, Forbidden, Value, Memory}

-- the tests of an entry, and what they test

pub has_in : (id : ℕ) (es : List Entry) → has_id id es ≡ true → In id (ids_of es)
has_in id [] h = cc
has_in id (e ∷ es) h = elim (or_cases (e.id == id) (has_id id es) h) [ inl a ↦ inl (eqb-true e.id id a) | inr b ↦ inr (has_in id es b) ]

pub in_has : (id : ℕ) (es : List Entry) → In id (ids_of es) → has_id id es ≡ true
in_has id [] h = absurd h
in_has id (e ∷ es) (inl same) = let t : (e.id == id) ≡ true = eq-eqb e.id id same in rw t refl
in_has id (e ∷ es) (inr h) = let t : has_id id es ≡ true = in_has id es h in elim (cases_Bool (e.id == id)) [ inl u ↦ rw u refl | inr u ↦ rw u t ]

pub not_in : (id : ℕ) (es : List Entry) → has_id id es ≡ false → In id (ids_of es) → ⊥
not_in id es h i = let t = in_has id es i in cc

pub no_id : (id : ℕ) (es : List Entry) → (In id (ids_of es) → ⊥) → has_id id es ≡ false
no_id id es n = false_from_ne_true (has_id id es) (λ t. n (has_in id es t))

reserved_is : (id : ℕ) → is_reserved id ≡ true → IsReserved id
reserved_is id h = let p = and_parts (nat_le 2 id) (nat_le id 5) h in (leb-true 2 id p.0, leb-true id 5 p.1)

is_reserved_of : (id : ℕ) → IsReserved id → is_reserved id ≡ true
is_reserved_of id h = let t : nat_le 2 id ≡ true = le-leb 2 id h.0 in let u : nat_le id 5 ≡ true = le-leb id 5 h.1 in rw (t, u) refl

flag_is : (id : ℕ) → is_flag id ≡ true → IsFlag id
flag_is id h = elim (or_cases (id == 8) (id == 51) h) [ inl a ↦ inl (eqb-true id 8 a) | inr b ↦ inr (eqb-true id 51 b) ]

is_flag_of : (id : ℕ) → IsFlag id → is_flag id ≡ true
is_flag_of id (inl e) = let t : (id == 8) ≡ true = eq-eqb id 8 e in rw t refl
is_flag_of id (inr e) = let t : (id == 51) ≡ true = eq-eqb id 51 e in elim (cases_Bool (id == 8)) [ inl u ↦ rw u refl | inr u ↦ rw u t ]

-- what an entry's test found
data Judged (front : List Entry) (e : Entry) : Option SettingsError → Type 0 where
  fine : IsAllowed front e → Judged front e None
  wrong : (f : SettingsError) → IsEntryFault front e f → Judged front e (Some f)

judged_flag : (front : List Entry) (e : Entry) → (In e.id (ids_of front) → ⊥) → (IsReserved e.id → ⊥) → has_id e.id front ≡ false → is_reserved e.id ≡ false → Judged front e (fault_of front e)
judged_flag front e new known a b =
    elim (cases_Bool (is_flag e.id)) [
      | inr c ↦ rw (a, b, c) (fine (record { new = new; known = known; flag = λ f. let t = is_flag_of e.id f in cc }))
      | inl c ↦
          elim (cases_lt 1 e.value) [
            | inl more ↦ let d : nat_lt 1 e.value ≡ true = lt-ltb 1 e.value more in rw (a, b, c, d) (wrong (Value e.id e.value) (refl, refl, new, flag_is e.id c, more))
            | inr few ↦ let d : nat_lt 1 e.value ≡ false = le-ltb 1 e.value few in rw (a, b, c, d) (fine (record { new = new; known = known; flag = λ f. few }))
          ]
    ]

judged : (front : List Entry) (e : Entry) → Judged front e (fault_of front e)
judged front e =
    elim (cases_Bool (has_id e.id front)) [
      | inl a ↦ rw a (wrong (Repeated e.id) (refl, has_in e.id front a))
      | inr a ↦
          let new = not_in e.id front a in
          elim (cases_Bool (is_reserved e.id)) [
            | inl b ↦ rw (a, b) (wrong (Forbidden e.id) (refl, new, reserved_is e.id b))
            | inr b ↦ judged_flag front e new (λ r. let t = is_reserved_of e.id r in cc) a b
          ]
    ]

fine_is : (front : List Entry) (e : Entry) (r : Option SettingsError) → Judged front e r → r ≡ None → IsAllowed front e
fine_is front e None (fine a) h = a
fine_is front e (Some f) j h = cc

bad_is : (front : List Entry) (e : Entry) (r : Option SettingsError) (f : SettingsError) → Judged front e r → r ≡ Some f → IsEntryFault front e f
bad_is front e None f j h = cc
bad_is front e (Some g) f (wrong _ p) h = let same : g ≡ f = cc in subst (IsEntryFault front e) same p

pub allowed_is : (front : List Entry) (e : Entry) → fault_of front e ≡ None → IsAllowed front e
allowed_is front e h = fine_is front e (fault_of front e) (judged front e) h

pub fault_is : (front : List Entry) (e : Entry) (f : SettingsError) → fault_of front e ≡ Some f → IsEntryFault front e f
fault_is front e f h = bad_is front e (fault_of front e) f (judged front e) h

allowed_or : (front : List Entry) (e : Entry) (f : SettingsError) → IsAllowed front e → IsEntryFault front e f → ⊥
allowed_or front e (Repeated id) a p = a.new p.1
allowed_or front e (Forbidden id) a p = a.known p.2
allowed_or front e (Value id value) a p = let few = a.flag p.3 in let more = p.4 in omega arith
allowed_or front e Malformed a p = p
allowed_or front e Memory a p = p

none_by : (front : List Entry) (e : Entry) (r : Option SettingsError) → IsAllowed front e → Judged front e r → r ≡ None
none_by front e None a j = refl
none_by front e (Some f) a (wrong _ p) = absurd (allowed_or front e f a p)

pub fault_none : (front : List Entry) (e : Entry) → IsAllowed front e → fault_of front e ≡ None
fault_none front e a = none_by front e (fault_of front e) a (judged front e)

-- an entry has one fault at most
one_fault : (front : List Entry) (e : Entry) (f g : SettingsError) → IsEntryFault front e f → IsEntryFault front e g → f ≡ g
one_fault front e (Repeated id) (Repeated id') p q = let same : id ≡ id' = p.0 ∙ sym q.0 in cc
one_fault front e (Repeated id) (Forbidden id') p q = absurd (q.1 p.1)
one_fault front e (Repeated id) (Value id' value) p q = absurd (q.2 p.1)
one_fault front e (Forbidden id) (Repeated id') p q = absurd (p.1 q.1)
one_fault front e (Forbidden id) (Forbidden id') p q = let same : id ≡ id' = p.0 ∙ sym q.0 in cc
one_fault front e (Forbidden id) (Value id' value) p q = let r = p.2 in elim q.3 [ inl a ↦ absurd (omega (arith, a)) | inr b ↦ absurd (omega (arith, b)) ]
one_fault front e (Value id value) (Repeated id') p q = absurd (p.2 q.1)
one_fault front e (Value id value) (Forbidden id') p q = let r = q.2 in elim p.3 [ inl a ↦ absurd (omega (arith, a)) | inr b ↦ absurd (omega (arith, b)) ]
one_fault front e (Value id value) (Value id' value') p q = let same : id ≡ id' = p.0 ∙ sym q.0 in let also : value ≡ value' = p.1 ∙ sym q.1 in cc
one_fault front e Malformed g p q = absurd p
one_fault front e Memory g p q = absurd p
one_fault front e f Malformed p q = absurd q
one_fault front e f Memory p q = absurd q

-- an entry that is spelled is read, whatever follows
pub entry_again : (bytes rest : List ℕ) (e : Entry) (is : IsEntry bytes e)
    → pair_at (bytes ++ rest) ≡ Some (record { first = e.id; second = e.value; size = length is.id_bytes + length is.value_bytes })
entry_again bytes rest e is =
    ap pair_at (ap (λ (z : List ℕ). z ++ rest) is.whole ∙ append_assoc is.id_bytes is.value_bytes rest)
    ∙ pair_again is.id_bytes is.value_bytes rest e.id e.value is.id_is is.value_is

pub entry_size : (bytes : List ℕ) (e : Entry) (is : IsEntry bytes e) → length bytes ≡ length is.id_bytes + length is.value_bytes
entry_size bytes e is = ap length is.whole ∙ length-append is.id_bytes is.value_bytes

entry_some : (bytes : List ℕ) (e : Entry) → IsEntry bytes e → 0 < length bytes
entry_some bytes e is = let a = some_bytes is.id_bytes e.id is.id_is in let b = entry_size bytes e is in omega arith

-- a step of the reader

step_read : (steps : ℕ) (front : List Entry) (bytes : List ℕ) (p : Pair) → 0 < length bytes → pair_at bytes ≡ Some p
    → settings_from (suc steps) front bytes ≡ unless_fault (fault_of front (entry_of p)) (settings_from steps (front ++ entry_of p ∷ []) (drop p.size bytes))
step_read steps front [] p some h = absurd (omega arith)
step_read steps front (b ∷ bs) p some h = rw h refl

-- an entry that is spelled, in front of others
step_entry : (steps : ℕ) (front : List Entry) (bytes rest : List ℕ) (e : Entry) → IsEntry bytes e
    → settings_from (suc steps) front (bytes ++ rest) ≡ unless_fault (fault_of front e) (settings_from steps (front ++ e ∷ []) rest)
step_entry steps front bytes rest e is =
    let some = entry_some bytes e is in
    let size = entry_size bytes e is in
    let behind : drop (length is.id_bytes + length is.value_bytes) (bytes ++ rest) ≡ rest = drop_at bytes rest (length is.id_bytes + length is.value_bytes) size in
    step_read steps front (bytes ++ rest) (record { first = e.id; second = e.value; size = length is.id_bytes + length is.value_bytes })
    (omega (arith, length-append bytes rest)) (entry_again bytes rest e is)
    ∙ ap (λ (z : List ℕ). unless_fault (fault_of front e) (settings_from steps (front ++ e ∷ []) z)) behind

-- entries that may stand behind these are passed over
record Passed (steps : ℕ) (front es : List Entry) (bytes rest : List ℕ) : Type 0 where
  left : ℕ
  enough : length rest ≤ left
  same : settings_from steps front (bytes ++ rest) ≡ settings_from left (front ++ es) rest

passed : (es front : List Entry) (bytes rest : List ℕ) (steps : ℕ) → AreEntries bytes es → AreAllowed front es → length (bytes ++ rest) ≤ steps → Passed steps front es bytes rest
passed [] front bytes rest steps p a few =
    let e : bytes ++ rest ≡ rest = ap (λ (z : List ℕ). z ++ rest) p in
    record {
      left = steps;
      enough = let l = ap length e in omega arith;
      same = ap (settings_from steps front) e ∙ ap (λ (z : List Entry). settings_from steps z rest) (sym (append-nil front));
    }
passed (e ∷ es) front bytes rest zero p a few =
    let some = entry_some p.0 e p.3 in
    let l : length (bytes ++ rest) ≡ length p.0 + length p.1 + length rest = ap (λ (z : List ℕ). length (z ++ rest)) p.2 ∙ length-append (p.0 ++ p.1) rest ∙ ap (λ (n : ℕ). n + length rest) (length-append p.0 p.1) in
    absurd (omega arith)
passed (e ∷ es) front bytes rest (suc steps) p a few =
    let some = entry_some p.0 e p.3 in
    let grouped : bytes ++ rest ≡ p.0 ++ (p.1 ++ rest) = ap (λ (z : List ℕ). z ++ rest) p.2 ∙ append_assoc p.0 p.1 rest in
    let l : length (bytes ++ rest) ≡ length p.0 + length (p.1 ++ rest) = ap length grouped ∙ length-append p.0 (p.1 ++ rest) in
    let r = passed es (front ++ e ∷ []) p.1 rest steps p.4 a.1 (omega arith) in
    let fine : fault_of front e ≡ None = fault_none front e a.0 in
    record {
      left = r.left;
      enough = r.enough;
      same = ap (settings_from (suc steps) front) grouped ∙ step_entry steps front p.0 (p.1 ++ rest) e p.3
          ∙ ap (λ (z : Option SettingsError). unless_fault z (settings_from steps (front ++ e ∷ []) (p.1 ++ rest))) fine
          ∙ r.same ∙ ap (λ (z : List Entry). settings_from r.left z rest) (append_assoc front (e ∷ []) es);
    }

-- what is spelled is read
pub means_read : (payload : List ℕ) (s : PlainSettings) → MeansSettings payload s → settings_at payload ≡ Ok s
unfolding settings_at
means_read payload s m =
    let whole : payload ≡ payload ++ [] = sym (append-nil payload) in
    let r = passed m.entries [] payload [] (length payload) m.are m.allowed (omega (arith, ap length whole)) in
    ap (settings_from (length payload) []) whole ∙ r.same ∙ ap Ok (sym m.means)

-- where the reader stops behind these entries, and what it tells
data Stops (front : List Entry) (rest : List ℕ) (o : Result PlainSettings SettingsError) : Type 0 where
  ended : rest ≡ [] → o ≡ Ok (settings_of front) → Stops front rest o
  faulty : (bytes more : List ℕ) (e : Entry) (f : SettingsError) → rest ≡ bytes ++ more → IsEntry bytes e → IsEntryFault front e f → o ≡ Err f → Stops front rest o
  short : rest ≢ [] → ((entry_bytes more : List ℕ) (e : Entry) → rest ≡ entry_bytes ++ more → IsEntry entry_bytes e → ⊥) → o ≡ Err Malformed → Stops front rest o

entry_is : (e f : Entry) → e.id ≡ f.id → e.value ≡ f.value → e ≡ f
entry_is e f a b = ap (λ (z : ℕ × ℕ). record { id = z.0; value = z.1 }) (let p : (e.id, e.value) ≡ (f.id, f.value) = cc in p)

entries_agree : (a x b y : List ℕ) (e f : Entry) → IsEntry a e → IsEntry b f → a ++ x ≡ b ++ y → (e ≡ f) × (x ≡ y)
entries_agree a x b y e f p q h =
    let whole : (p.id_bytes ++ p.value_bytes) ++ x ≡ (q.id_bytes ++ q.value_bytes) ++ y = ap (λ (z : List ℕ). z ++ x) (sym p.whole) ∙ h ∙ ap (λ (z : List ℕ). z ++ y) q.whole in
    let ids = varints_agree p.id_bytes (p.value_bytes ++ x) q.id_bytes (q.value_bytes ++ y) e.id f.id p.id_is q.id_is (inner p.id_bytes p.value_bytes x q.id_bytes q.value_bytes y whole) in
    let values = varints_agree p.value_bytes x q.value_bytes y e.value f.value p.value_is q.value_is ids.1 in
    (entry_is e f ids.0 values.0, values.1)

-- no entry is there, as the list ends
no_bytes : (a x : List ℕ) (e : Entry) → [] ≡ a ++ x → IsEntry a e → ⊥
no_bytes a x e h is = let l = ap length h in let some = entry_some a e is in let sum = length-append a x in omega arith

-- it stops, so that no allowed entry is there
stopped : (front : List Entry) (rest bytes more : List ℕ) (e : Entry) (o : Result PlainSettings SettingsError) → Stops front rest o → rest ≡ bytes ++ more → IsEntry bytes e → IsAllowed front e → ⊥
stopped front rest bytes more e o (ended none _) h is a = no_bytes bytes more e (sym none ∙ h) is
stopped front rest bytes more e o (faulty b m g f w p bad _) h is a =
    let same = (entries_agree b m bytes more g e p is (sym w ∙ h)).0 in
    allowed_or front e f a (subst (λ (z : Entry). IsEntryFault front z f) same bad)
stopped front rest bytes more e o (short _ none _) h is a = none bytes more e h is

stops_one : (front : List Entry) (rest : List ℕ) (o o' : Result PlainSettings SettingsError) → Stops front rest o → Stops front rest o' → o ≡ o'
stops_one front rest o o' (ended _ a) (ended _ b) = a ∙ sym b
stops_one front rest o o' (ended none _) (faulty b m e f w p bad _) = absurd (no_bytes b m e (sym none ∙ w) p)
stops_one front rest o o' (ended none _) (short some _ _) = absurd (some none)
stops_one front rest o o' (faulty b m e f w p bad _) (ended none _) = absurd (no_bytes b m e (sym none ∙ w) p)
stops_one front rest o o' (faulty b m e f w p bad is) (faulty b' m' e' f' w' p' bad' is') =
    let same = (entries_agree b m b' m' e e' p p' (sym w ∙ w')).0 in
    is ∙ ap Err (one_fault front e' f f' (subst (λ (z : Entry). IsEntryFault front z f) same bad) bad') ∙ sym is'
stops_one front rest o o' (faulty b m e f w p bad _) (short _ none _) = absurd (none b m e w p)
stops_one front rest o o' (short some _ _) (ended none _) = absurd (some none)
stops_one front rest o o' (short _ none _) (faulty b m e f w p bad _) = absurd (none b m e w p)
stops_one front rest o o' (short _ _ a) (short _ _ b) = a ∙ sym b

regroup : (front es : List Entry) (e : Entry) (rest : List ℕ) (o : Result PlainSettings SettingsError) → Stops (front ++ e ∷ es) rest o → Stops ((front ++ e ∷ []) ++ es) rest o
regroup front es e rest o s = subst (λ (z : List Entry). Stops z rest o) (sym (append_assoc front (e ∷ []) es)) s

-- two readings of the same bytes stop at one place
stop_alike : (es fs front : List Entry) (a x b y : List ℕ) (o o' : Result PlainSettings SettingsError) → a ++ x ≡ b ++ y → AreEntries a es → AreEntries b fs
    → AreAllowed front es → AreAllowed front fs → Stops (front ++ es) x o → Stops (front ++ fs) y o' → o ≡ o'
stop_alike [] [] front a x b y o o' h p q c d s t =
    let here : x ≡ y = ap (λ (z : List ℕ). z ++ x) (sym p) ∙ h ∙ ap (λ (z : List ℕ). z ++ y) q in
    stops_one (front ++ []) y o o' (subst (λ (z : List ℕ). Stops (front ++ []) z o) here s) t
stop_alike [] (f ∷ fs) front a x b y o o' h p q c d s t =
    let here : x ≡ q.0 ++ (q.1 ++ y) = ap (λ (z : List ℕ). z ++ x) (sym p) ∙ h ∙ ap (λ (z : List ℕ). z ++ y) q.2 ∙ append_assoc q.0 q.1 y in
    absurd (stopped front x q.0 (q.1 ++ y) f o (subst (λ (z : List Entry). Stops z x o) (append-nil front) s) here q.3 d.0)
stop_alike (e ∷ es) [] front a x b y o o' h p q c d s t =
    let here : y ≡ p.0 ++ (p.1 ++ x) = ap (λ (z : List ℕ). z ++ y) (sym q) ∙ sym h ∙ ap (λ (z : List ℕ). z ++ x) p.2 ∙ append_assoc p.0 p.1 x in
    absurd (stopped front y p.0 (p.1 ++ x) e o' (subst (λ (z : List Entry). Stops z y o') (append-nil front) t) here p.3 c.0)
stop_alike (e ∷ es) (f ∷ fs) front a x b y o o' h p q c d s t =
    let split : p.0 ++ (p.1 ++ x) ≡ q.0 ++ (q.1 ++ y) =
    sym (append_assoc p.0 p.1 x) ∙ ap (λ (z : List ℕ). z ++ x) (sym p.2) ∙ h ∙ ap (λ (z : List ℕ). z ++ y) q.2 ∙ append_assoc q.0 q.1 y in
    let r = entries_agree p.0 (p.1 ++ x) q.0 (q.1 ++ y) e f p.3 q.3 split in
    let d' : AreAllowed (front ++ e ∷ []) fs = subst (λ (z : Entry). AreAllowed (front ++ z ∷ []) fs) (sym r.0) d.1 in
    let t' : Stops (front ++ e ∷ fs) y o' = subst (λ (z : Entry). Stops (front ++ z ∷ fs) y o') (sym r.0) t in
    stop_alike es fs (front ++ e ∷ []) p.1 x q.1 y o o' r.1 p.4 q.4 c.1 d' (regroup front es e x o s) (regroup front fs e y o' t')

-- what a payload tells
record Outcome (payload : List ℕ) (o : Result PlainSettings SettingsError) : Type 0 where
  front : List Entry
  rest : List ℕ
  so_far : SoFar payload rest front
  stops : Stops front rest o

one_outcome : (payload : List ℕ) (o o' : Result PlainSettings SettingsError) → Outcome payload o → Outcome payload o' → o ≡ o'
one_outcome payload o o' p q =
    let a = p.so_far in
    let b = q.so_far in
    stop_alike p.front q.front [] a.bytes p.rest b.bytes q.rest o o' (sym a.whole ∙ b.whole) a.are b.are a.allowed b.allowed p.stops q.stops

means_outcome : (payload : List ℕ) (s : PlainSettings) → MeansSettings payload s → Outcome payload (Ok s)
means_outcome payload s m = record {
  front = m.entries;
  rest = [];
  so_far = record { bytes = payload; whole = sym (append-nil payload); are = m.are; allowed = m.allowed };
  stops = ended refl (ap Ok m.means);
}

fault_outcome : (payload : List ℕ) (f : SettingsError) → IsSettingsFault payload f → Outcome payload (Err f)
fault_outcome payload f (entry front bytes entry_bytes rest e _ whole are allowed is bad) = record {
  front = front;
  rest = entry_bytes ++ rest;
  so_far = record { bytes = bytes; whole = whole; are = are; allowed = allowed };
  stops = faulty entry_bytes rest e f refl is bad refl;
}
fault_outcome payload f (cut front bytes rest whole are allowed some none) = record {
  front = front;
  rest = rest;
  so_far = record { bytes = bytes; whole = whole; are = are; allowed = allowed };
  stops = short some none refl;
}

-- reading on, entry by entry

entries_more : (a b : List ℕ) (es : List Entry) (e : Entry) → AreEntries a es → IsEntry b e → AreEntries (a ++ b) (es ++ e ∷ [])
entries_more a b [] e p is = (b, [], ap (λ (z : List ℕ). z ++ b) p ∙ sym (append-nil b), is, refl)
entries_more a b (f ∷ es) e p is = (p.0, p.1 ++ b, ap (λ (z : List ℕ). z ++ b) p.2 ∙ append_assoc p.0 p.1 b, p.3, entries_more p.1 b es e p.4 is)

allowed_more : (front es : List Entry) (e : Entry) → AreAllowed front es → IsAllowed (front ++ es) e → AreAllowed front (es ++ e ∷ [])
allowed_more front [] e a is = (subst (λ (z : List Entry). IsAllowed z e) (append-nil front) is, tt)
allowed_more front (f ∷ es) e a is = (a.0, allowed_more (front ++ f ∷ []) es e a.1 (subst (λ (z : List Entry). IsAllowed z e) (sym (append_assoc front (f ∷ []) es)) is))

pub so_far_none : (payload : List ℕ) → SoFar payload payload []
so_far_none payload = record { bytes = []; whole = refl; are = refl; allowed = tt }

-- the entry that was read, and what follows it
record Read (rest : List ℕ) (p : Pair) : Type 0 where
  front : List ℕ
  whole : rest ≡ front ++ drop p.size rest
  is : IsEntry front (entry_of p)

entry_read : (rest : List ℕ) (p : Pair) → IsBytes rest → pair_at rest ≡ Some p → Read rest p
entry_read rest p are h =
    let s = pair_spelled rest p are h in
    record {
      front = s.one ++ s.two;
      whole = s.whole ∙ sym (append_assoc s.one s.two s.rest) ∙ ap (λ (z : List ℕ). (s.one ++ s.two) ++ z) (sym (rest_is rest p s));
      is = record { id_bytes = s.one; value_bytes = s.two; whole = refl; id_is = s.one_is; value_is = s.two_is };
    }

-- an entry has a byte
pub pair_shortens : (rest : List ℕ) (p : Pair) → IsBytes rest → pair_at rest ≡ Some p → length (drop p.size rest) < length rest
pair_shortens rest p are h =
    let r = entry_read rest p are h in
    let some = entry_some r.front (entry_of p) r.is in
    let sum = ap length r.whole ∙ length-append r.front (drop p.size rest) in
    omega arith

pub so_far_more : (payload rest : List ℕ) (front : List Entry) (p : Pair) → IsBytes rest → SoFar payload rest front → pair_at rest ≡ Some p → IsAllowed front (entry_of p)
    → SoFar payload (drop p.size rest) (front ++ entry_of p ∷ [])
so_far_more payload rest front p are s h allowed =
    let r = entry_read rest p are h in
    record {
      bytes = s.bytes ++ r.front;
      whole = s.whole ∙ ap (λ (z : List ℕ). s.bytes ++ z) r.whole ∙ sym (append_assoc s.bytes r.front (drop p.size rest));
      are = entries_more s.bytes r.front front (entry_of p) s.are r.is;
      allowed = allowed_more [] front (entry_of p) s.allowed allowed;
    }

pub so_far_end : (payload : List ℕ) (front : List Entry) → SoFar payload [] front → MeansSettings payload (settings_of front)
so_far_end payload front s = record {
  entries = front;
  are = subst (λ (z : List ℕ). AreEntries z front) (sym (s.whole ∙ append-nil s.bytes)) s.are;
  allowed = s.allowed;
  means = refl;
}

pub so_far_fault : (payload rest : List ℕ) (front : List Entry) (p : Pair) (f : SettingsError) → IsBytes rest → SoFar payload rest front → pair_at rest ≡ Some p
    → IsEntryFault front (entry_of p) f → IsSettingsFault payload f
so_far_fault payload rest front p f are s h fault =
    let r = entry_read rest p are h in
    entry front s.bytes r.front (drop p.size rest) (entry_of p) f (s.whole ∙ ap (λ (z : List ℕ). s.bytes ++ z) r.whole) s.are s.allowed r.is fault

cut_here : (rest : List ℕ) → pair_at rest ≡ None → (entry_bytes more : List ℕ) (e : Entry) → rest ≡ entry_bytes ++ more → IsEntry entry_bytes e → ⊥
cut_here rest h entry_bytes more e w is =
    let some = entry_again entry_bytes more e is in
    let both : ◌≡◌ {A = Option Pair} None (Some (record { first = e.id; second = e.value; size = length is.id_bytes + length is.value_bytes })) = sym h ∙ ap pair_at w ∙ some in
    cc

pub so_far_cut : (payload rest : List ℕ) (front : List Entry) → SoFar payload rest front → rest ≢ [] → pair_at rest ≡ None → IsSettingsFault payload Malformed
so_far_cut payload rest front s some h = cut front s.bytes rest s.whole s.are s.allowed some (cut_here rest h)

-- what the reader tells

fault_stop : (payload rest : List ℕ) (front : List Entry) (p : Pair) (f : SettingsError) → IsBytes rest → SoFar payload rest front → pair_at rest ≡ Some p
    → IsEntryFault front (entry_of p) f → Outcome payload (Err f)
fault_stop payload rest front p f are s h fault =
    let r = entry_read rest p are h in
    record { front = front; rest = rest; so_far = s; stops = faulty r.front (drop p.size rest) (entry_of p) f r.whole r.is fault refl }

cut_stop : (payload rest : List ℕ) (front : List Entry) → rest ≢ [] → SoFar payload rest front → pair_at rest ≡ None → Outcome payload (Err Malformed)
cut_stop payload rest front some s h = record { front = front; rest = rest; so_far = s; stops = short some (cut_here rest h) refl }

-- one entry, where the rest is known
entry_outcome : (payload rest : List ℕ) (front : List Entry) (p : Pair) (o : Result PlainSettings SettingsError) (r : Option SettingsError) → IsBytes rest → SoFar payload rest front
    → pair_at rest ≡ Some p → fault_of front (entry_of p) ≡ r → (IsAllowed front (entry_of p) → Outcome payload o) → Outcome payload (unless_fault r o)
entry_outcome payload rest front p o None are s h f on = on (allowed_is front (entry_of p) f)
entry_outcome payload rest front p o (Some e) are s h f on = fault_stop payload rest front p e are s h (fault_is front (entry_of p) e f)

pair_outcome : (payload rest : List ℕ) (front : List Entry) (go : Pair → Result PlainSettings SettingsError) (r : Option Pair) → IsBytes rest → rest ≢ [] → SoFar payload rest front
    → pair_at rest ≡ r → ((p : Pair) → pair_at rest ≡ Some p → IsAllowed front (entry_of p) → Outcome payload (go p))
    → Outcome payload (after_entry r (λ p. unless_fault (fault_of front (entry_of p)) (go p)))
pair_outcome payload rest front go None are some s h on = cut_stop payload rest front some s h
pair_outcome payload rest front go (Some p) are some s h on = entry_outcome payload rest front p (go p) (fault_of front (entry_of p)) are s h refl (on p h)

from_outcome : (steps : ℕ) (payload rest : List ℕ) (front : List Entry) → IsBytes rest → length rest ≤ steps → SoFar payload rest front → Outcome payload (settings_from steps front rest)
from_outcome steps payload [] front are few s = record { front = front; rest = []; so_far = s; stops = ended refl refl }
from_outcome zero payload (b ∷ bs) front are few s = absurd (omega arith)
from_outcome (suc steps) payload (b ∷ bs) front are few s =
    let rest : List ℕ = b ∷ bs in
    pair_outcome payload rest front (λ p. settings_from steps (front ++ entry_of p ∷ []) (drop p.size rest)) (pair_at rest) are (λ h. let l = ap length h in omega arith) s refl
    (λ p h a. let less = pair_shortens rest p are h in
    from_outcome steps payload (drop p.size rest) (front ++ entry_of p ∷ []) (rest_bytes p.size rest are) (omega arith) (so_far_more payload rest front p are s h a))

at_outcome : (payload : List ℕ) → IsBytes payload → Outcome payload (settings_at payload)
unfolding settings_at
at_outcome payload are = from_outcome (length payload) payload payload [] are (omega arith) (so_far_none payload)

outcome_means : (payload : List ℕ) (front : List Entry) (rest : List ℕ) (s : PlainSettings) (o : Result PlainSettings SettingsError) → SoFar payload rest front → Stops front rest o → o ≡ Ok s
    → MeansSettings payload s
outcome_means payload front rest s o f (ended none is) h =
    let same : settings_of front ≡ s = (let both : ◌≡◌ {A = Result PlainSettings SettingsError} (Ok (settings_of front)) (Ok s) = sym is ∙ h in cc) in
    subst (MeansSettings payload) same (so_far_end payload front (subst (λ (z : List ℕ). SoFar payload z front) none f))
outcome_means payload front rest s o f (faulty _ _ _ e _ _ _ is) h = let both : ◌≡◌ {A = Result PlainSettings SettingsError} (Err e) (Ok s) = sym is ∙ h in cc
outcome_means payload front rest s o f (short _ _ is) h = let both : ◌≡◌ {A = Result PlainSettings SettingsError} (Err Malformed) (Ok s) = sym is ∙ h in cc

outcome_fault : (payload : List ℕ) (front : List Entry) (rest : List ℕ) (e : SettingsError) (o : Result PlainSettings SettingsError) → SoFar payload rest front → Stops front rest o → o ≡ Err e
    → IsSettingsFault payload e
outcome_fault payload front rest e o f (ended _ is) h = let both : ◌≡◌ {A = Result PlainSettings SettingsError} (Ok (settings_of front)) (Err e) = sym is ∙ h in cc
outcome_fault payload front rest e o f (faulty bytes more p g whole spelled fault is) h =
    let same : g ≡ e = (let both : ◌≡◌ {A = Result PlainSettings SettingsError} (Err g) (Err e) = sym is ∙ h in cc) in
    subst (IsSettingsFault payload) same (entry front f.bytes bytes more p g (f.whole ∙ ap (λ (z : List ℕ). f.bytes ++ z) whole) f.are f.allowed spelled fault)
outcome_fault payload front rest e o f (short some none is) h =
    let same : Malformed ≡ e = (let both : ◌≡◌ {A = Result PlainSettings SettingsError} (Err Malformed) (Err e) = sym is ∙ h in cc) in
    subst (IsSettingsFault payload) same (cut front f.bytes rest f.whole f.are f.allowed some none)

-- the reader and the definitions agree

pub at_means : (payload : List ℕ) (s : PlainSettings) → IsBytes payload → settings_at payload ≡ Ok s → MeansSettings payload s
at_means payload s are h = let o = at_outcome payload are in outcome_means payload o.front o.rest s (settings_at payload) o.so_far o.stops h

pub at_fault : (payload : List ℕ) (e : SettingsError) → IsBytes payload → settings_at payload ≡ Err e → IsSettingsFault payload e
at_fault payload e are h = let o = at_outcome payload are in outcome_fault payload o.front o.rest e (settings_at payload) o.so_far o.stops h

pub fault_read : (payload : List ℕ) (e : SettingsError) → IsBytes payload → IsSettingsFault payload e → settings_at payload ≡ Err e
fault_read payload e are f = one_outcome payload (settings_at payload) (Err e) (at_outcome payload are) (fault_outcome payload e f)

-- a payload means one thing, or has one fault

pub one_meaning : (payload : List ℕ) (s t : PlainSettings) → MeansSettings payload s → MeansSettings payload t → s ≡ t
one_meaning payload s t p q =
    let both : ◌≡◌ {A = Result PlainSettings SettingsError} (Ok s) (Ok t) = one_outcome payload (Ok s) (Ok t) (means_outcome payload s p) (means_outcome payload t q) in
    cc

pub one_settings_fault : (payload : List ℕ) (e f : SettingsError) → IsSettingsFault payload e → IsSettingsFault payload f → e ≡ f
one_settings_fault payload e f p q =
    let both : ◌≡◌ {A = Result PlainSettings SettingsError} (Err e) (Err f) = one_outcome payload (Err e) (Err f) (fault_outcome payload e p) (fault_outcome payload f q) in
    cc

pub means_or_fault : (payload : List ℕ) (s : PlainSettings) (e : SettingsError) → MeansSettings payload s → IsSettingsFault payload e → ⊥
means_or_fault payload s e p q =
    let both : ◌≡◌ {A = Result PlainSettings SettingsError} (Ok s) (Err e) = one_outcome payload (Ok s) (Err e) (means_outcome payload s p) (fault_outcome payload e q) in
    cc

-- bytes one by one
each_byte : (payload : List ℕ) → AllByRecursion (λ (b : ℕ). b < 256) payload → IsBytes payload
each_byte [] all i = omega arith
each_byte (b ∷ bs) all zero = all.0
each_byte (b ∷ bs) all (suc i) = each_byte bs all.1 i

pub no_fault_means : (payload : List ℕ) → AllByRecursion (λ (b : ℕ). b < 256) payload → ((e : SettingsError) → IsSettingsFault payload e → ⊥) → (s : PlainSettings) × MeansSettings payload s
no_fault_means payload all none = by_answer (settings_at payload) refl where
  by_answer : (o : Result PlainSettings SettingsError) → settings_at payload ≡ o → (s : PlainSettings) × MeansSettings payload s
  by_answer (Ok s) h = (s, at_means payload s (each_byte payload all) h)
  by_answer (Err e) h = absurd (none e (at_fault payload e (each_byte payload all) h))
