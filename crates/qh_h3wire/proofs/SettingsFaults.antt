-- A payload that is looked at without memory.
use Rattle.std.proofs.Common.{◌≡◌, ◌≢◌, ℕ, ◌+◌, ◌<◌, ◌≤◌, ◌==◌, true, false, List, [], ◌∷◌, ◌++◌, length, take, drop, refl, sym, ap, ◌∙◌, arith, Option, Some, None, subst, length-append, length-drop}
use Rattle.std.proofs.lemmas.Bool.{eq-eqb, ne_eqb}
use Rattle.std.proofs.lemmas.List.{take-append-drop, take_at, drop_at, drop_all}
use Rattle.qh_base.proofs.Varints.{IsBytes}
use Rattle.qh_h3wire.proofs.Pairs.{rest_bytes}
use Rattle.qh_h3wire.proofs.SettingsRead.{has_in, allowed_is, fault_is, entry_again, entry_size, pair_shortens, so_far_more, so_far_end, so_far_fault, so_far_cut, means_or_fault}
use Rattle.qh_h3wire.specs.Pair.{pair_at}
use Rattle.qh_h3wire.specs.Settings.{Entry, IsEntry, AreEntries, AreAllowed, settings_of, IsSettingsFault, HasNoFault}
use Rattle.qh_h3wire.specs.SettingsAt.{has_id, own_fault, fault_of, entry_of}
use Rattle.qh_h3wire.specs.SettingsReading.{SoFar}
use Rattle.qh_h3wire.specs.declared.pair.Pair.{Pair}
use Rattle.qh_h3wire.specs.declared.settings.SettingsError.{SettingsError}
use Rattle.qh_h3wire.specs.declared.settings.SettingsError.TheVariants.{Malformed, Repeated}

-- the entries that are left, of which one has the id where one of all has it
abbrev pub Left : List ℕ → ℕ → List Entry → Type 0
Left rest id es = (left : List Entry) × AreEntries rest left × (has_id id es ≡ has_id id left)

-- the first entry of those that are left
first_is : (rest a b : List ℕ) (p : Pair) (e : Entry) → pair_at rest ≡ Some p → rest ≡ a ++ b → IsEntry a e → (p.first ≡ e.id) × (drop p.size rest ≡ b)
first_is rest a b p e h whole is =
    let read = entry_again a b e is in
    let both : ◌≡◌ {A = Option Pair} (Some p) (Some (record { first = e.id; second = e.value; size = length is.id_bytes + length is.value_bytes })) = sym h ∙ ap pair_at whole ∙ read in
    let same : p ≡ record { first = e.id; second = e.value; size = length is.id_bytes + length is.value_bytes } = cc in
    let size : length a ≡ p.size = entry_size a e is ∙ sym (ap (λ (z : Pair). z.size) same) in
    (ap (λ (z : Pair). z.first) same, ap (drop p.size) whole ∙ drop_at a b p.size size)

pub left_more : (rest : List ℕ) (p : Pair) (id : ℕ) (es : List Entry) → IsBytes rest → pair_at rest ≡ Some p → p.first ≢ id → Left rest id es → Left (drop p.size rest) id es
left_more rest p id es are h n l = on l.0 l.1 l.2
  where
    on : (left : List Entry) → AreEntries rest left → has_id id es ≡ has_id id left → Left (drop p.size rest) id es
    on [] none same = let less = pair_shortens rest p are h in let l = ap length none in absurd (omega arith)
    on (e ∷ left) (a, b, whole, is, more) same =
        let first = first_is rest a b p e h whole is in
        let other : (e.id == id) ≡ false = ne_eqb e.id id (λ same. n (first.0 ∙ same)) in
        let skip : has_id id (e ∷ left) ≡ has_id id left = rw other refl in
        (left, subst (λ (z : List ℕ). AreEntries z left) (sym first.1) more, same ∙ skip)

pub left_has : (rest : List ℕ) (p : Pair) (id : ℕ) (es : List Entry) → IsBytes rest → pair_at rest ≡ Some p → p.first ≡ id → Left rest id es → true ≡ has_id id es
left_has rest p id es are h y l = on l.0 l.1 l.2
  where
    on : (left : List Entry) → AreEntries rest left → has_id id es ≡ has_id id left → true ≡ has_id id es
    on [] none same = let less = pair_shortens rest p are h in let l = ap length none in absurd (omega arith)
    on (e ∷ left) (a, b, whole, is, more) same =
        let first = first_is rest a b p e h whole is in
        let own : (e.id == id) ≡ true = eq-eqb e.id id (sym first.0 ∙ y) in
        let here : has_id id (e ∷ left) ≡ true = rw own refl in
        sym (same ∙ here)

pub left_none : (rest : List ℕ) (id : ℕ) (es : List Entry) → pair_at rest ≡ None → Left rest id es → false ≡ has_id id es
left_none rest id es h l = on l.0 l.1 l.2
  where
    on : (left : List Entry) → AreEntries rest left → has_id id es ≡ has_id id left → false ≡ has_id id es
    on [] none same = sym same
    on (e ∷ left) (a, b, whole, is, more) same =
        let both : ◌≡◌ {A = Option Pair} None (Some (record { first = e.id; second = e.value; size = length is.id_bytes + length is.value_bytes })) = sym h ∙ ap pair_at whole ∙ entry_again a b e is in
        cc

-- the entries up to a place, of which none is at fault
pub record Passes (payload : List ℕ) (place : ℕ) : Type 0 where
  pub front : List Entry
  pub within : place ≤ length payload
  pub are : AreEntries (take place payload) front
  pub allowed : AreAllowed [] front

so_far : (payload : List ℕ) (place : ℕ) (p : Passes payload place) → SoFar payload (drop place payload) p.front
so_far payload place p = record { bytes = take place payload; whole = sym (take-append-drop place payload); are = p.are; allowed = p.allowed }

pub passes_none : (payload : List ℕ) → Passes payload 0
passes_none payload = record { front = []; within = omega arith; are = refl; allowed = tt }

unfaulty : (front : List Entry) (e : Entry) → has_id e.id front ≡ false → own_fault e ≡ None → fault_of front e ≡ None
unfaulty front e new own = rw new own

pub passes_more : (payload : List ℕ) (place : ℕ) (e : Pair) (p : Passes payload place) → IsBytes payload → pair_at (drop place payload) ≡ Some e → e.size ≤ length (drop place payload)
    → has_id e.first p.front ≡ false → own_fault (entry_of e) ≡ None → Passes payload (place + e.size)
passes_more payload place e p bytes h fits new own =
    let fine = allowed_is p.front (entry_of e) (unfaulty p.front (entry_of e) new own) in
    let s = so_far_more payload (drop place payload) p.front e (rest_bytes place payload bytes) (so_far payload place p) h fine in
    let l = length-drop place payload in
    let m = length-drop e.size (drop place payload) in
    let sum = ap length s.whole ∙ length-append s.bytes (drop e.size (drop place payload)) in
    let w = p.within in
    let count : length s.bytes ≡ place + e.size = omega arith in
    let same : take (place + e.size) payload ≡ s.bytes = ap (take (place + e.size)) s.whole ∙ take_at s.bytes (drop e.size (drop place payload)) (place + e.size) count in
    record { front = p.front ++ entry_of e ∷ []; within = omega arith; are = subst (λ (z : List ℕ). AreEntries z (p.front ++ entry_of e ∷ [])) (sym same) s.are; allowed = s.allowed }

pub is_cut : (payload : List ℕ) (place : ℕ) → place < length payload → Passes payload place → pair_at (drop place payload) ≡ None → IsSettingsFault payload Malformed
is_cut payload place some p h =
    so_far_cut payload (drop place payload) p.front (so_far payload place p) (λ none. let l = ap length none in let m = length-drop place payload in omega arith) h

pub is_repeated : (payload : List ℕ) (place : ℕ) (e : Pair) (p : Passes payload place) → IsBytes payload → pair_at (drop place payload) ≡ Some e → has_id e.first p.front ≡ true
    → IsSettingsFault payload (Repeated e.first)
is_repeated payload place e p bytes h seen =
    so_far_fault payload (drop place payload) p.front e (Repeated e.first) (rest_bytes place payload bytes) (so_far payload place p) h (refl, has_in e.first p.front seen)

pub is_own : (payload : List ℕ) (place : ℕ) (e : Pair) (p : Passes payload place) (f : SettingsError) → IsBytes payload → pair_at (drop place payload) ≡ Some e → has_id e.first p.front ≡ false
    → own_fault (entry_of e) ≡ Some f → IsSettingsFault payload f
is_own payload place e p f bytes h new own =
    let fault : fault_of p.front (entry_of e) ≡ Some f = rw new own in
    so_far_fault payload (drop place payload) p.front e f (rest_bytes place payload bytes) (so_far payload place p) h (fault_is p.front (entry_of e) f fault)

pub all_pass : (payload : List ℕ) (place : ℕ) → length payload ≤ place → Passes payload place → HasNoFault payload
all_pass payload place end p e fault =
    let none : drop place payload ≡ [] = drop_all place payload end in
    means_or_fault payload (settings_of p.front) e (so_far_end payload p.front (subst (λ (z : List ℕ). SoFar payload z p.front) none (so_far payload place p))) fault
