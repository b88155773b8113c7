-- What connections are to be told, as numbers of handles change.
use Rattle.std.proofs.Common.{◌≡◌, ◌≢◌, ◌≤◌, ◌<◌, ◌==◌, ℕ, zero, suc, Bool, true, false, true≢false, eq-eqb, inl, inr, not, List, [], ◌∷◌, ◌++◌, length, get_or, set, refl, sym, ap, ◌∙◌, arith, if◌then◌else◌}
use Rattle.std.proofs.lemmas.List.{get_or-set_other, get_or-set_same}
use Rattle.std.proofs.lemmas.Bool.{cases_Bool, eqb-true}
use Rattle.std.specs.List.{AllByRecursion, filter}
use Rattle.qh_conn.specs.declared.event.ConnectionEvent.{ConnectionEvent}
use Rattle.qh_quinn_end.specs.Sets.{AreNumbered, AreSame, IsInserted, events_of, is_current, number_of, plain_told}
use Rattle.qh_quinn_end.specs.declared.connection_set.Told.{Told}
use Rattle.qh_routes.specs.declared.connection_handle.ConnectionHandle.{ConnectionHandle}

-- a number more that is 0 changes nothing
pub zero_more : (xs : List ℕ) → AreSame xs (xs ++ 0 ∷ [])
zero_more [] zero = refl
zero_more [] (suc k) = refl
zero_more (x ∷ xs) zero = refl
zero_more (x ∷ xs) (suc k) = zero_more xs k

pub same_then : (xs ys zs : List ℕ) → AreSame xs ys → AreSame ys zs → AreSame xs zs
same_then xs ys zs a b k = b k ∙ a k

-- ---- what is seen

-- if the current ones are the same, so is what is seen
pub events_same : (ns ms : List ℕ) (ts : List Told) → AreSame ns ms → events_of ms ts ≡ events_of ns ts
events_same ns ms [] same = refl
events_same ns ms (t ∷ ts) same =
    rw (same t.handle.0) (ap (λ (l : List (ConnectionHandle × ConnectionEvent)). if is_current ns t then plain_told t ∷ l else l) (events_same ns ms ts same))

-- one that is current comes behind the others
sent_behind : (ns : List ℕ) (u : Told) (us : List Told) (t : Told) (b : Bool) → is_current ns u ≡ b → events_of ns (us ++ t ∷ []) ≡ events_of ns us ++ plain_told t ∷ []
    → events_of ns ((u ∷ us) ++ t ∷ []) ≡ events_of ns (u ∷ us) ++ plain_told t ∷ []
sent_behind ns u us t true e h = rw e (ap (λ (l : List (ConnectionHandle × ConnectionEvent)). plain_told u ∷ l) h)
sent_behind ns u us t false e h = rw e h

pub sent : (ns : List ℕ) (ts : List Told) (t : Told) → is_current ns t ≡ true → events_of ns (ts ++ t ∷ []) ≡ events_of ns ts ++ plain_told t ∷ []
sent ns [] t now = rw now refl
sent ns (u ∷ us) t now = sent_behind ns u us t (is_current ns u) refl (sent ns us t now)

pub current : (ns : List ℕ) (handle : ConnectionHandle) (event : ConnectionEvent) (n : ℕ) → n ≡ number_of ns handle → is_current ns (record { handle = handle; number = n; event = event }) ≡ true
current ns handle event n is = eq-eqb (number_of ns handle) n (sym is)

-- ---- a handle gets a later connection

abbrev Others : ConnectionHandle → (ns ms : List ℕ) → Type 0
Others h ns ms = (k : ℕ) → k ≢ h.0 → get_or ms k 0 ≡ get_or ns k 0

abbrev keeps : ConnectionHandle → ConnectionHandle × ConnectionEvent → Bool
keeps h p = not (p.0.0 == h.0)

differs : (k h : ℕ) → (k == h) ≡ false → k ≢ h
differs k h apart same = true≢false (sym (eq-eqb k h same) ∙ apart)

stale : (ms : List ℕ) (h : ConnectionHandle) (count : ℕ) (t : Told) → count < get_or ms h.0 0 → t.number ≤ count → (t.handle.0 == h.0) ≡ true → is_current ms t ≡ false
stale ms h count t new old same =
    elim (cases_Bool (is_current ms t)) [
      | inl is ↦
          let e : get_or ms t.handle.0 0 ≡ t.number = eqb-true (get_or ms t.handle.0 0) t.number is in
          let f : get_or ms t.handle.0 0 ≡ get_or ms h.0 0 = ap (λ (k : ℕ). get_or ms k 0) (eqb-true t.handle.0 h.0 same) in
          absurd (omega arith)
      | inr apart ↦ apart
    ]

dropped : (ns : List ℕ) (h : ConnectionHandle) (t : Told) (ts : List Told) (b : Bool) → is_current ns t ≡ b → (t.handle.0 == h.0) ≡ true → filter (keeps h) (events_of ns ts) ≡ filter (keeps h) (events_of ns (t ∷ ts))
dropped ns h t ts true c e = rw c (rw e refl)
dropped ns h t ts false c e = rw c refl

kept : (ns ms : List ℕ) (h : ConnectionHandle) (t : Told) (ts : List Told) (b : Bool) → get_or ms t.handle.0 0 ≡ get_or ns t.handle.0 0 → is_current ns t ≡ b → (t.handle.0 == h.0) ≡ false
    → events_of ms ts ≡ filter (keeps h) (events_of ns ts) → events_of ms (t ∷ ts) ≡ filter (keeps h) (events_of ns (t ∷ ts))
kept ns ms h t ts true same c e rest = rw same (rw c (rw e (ap (λ (l : List (ConnectionHandle × ConnectionEvent)). plain_told t ∷ l) rest)))
kept ns ms h t ts false same c e rest = rw same (rw c rest)

-- of those for the handle none is current any more, and the others are as they were
pub inserted : (ns ms : List ℕ) (h : ConnectionHandle) (count : ℕ) → count < get_or ms h.0 0 → Others h ns ms → (ts : List Told) → AllByRecursion (λ t. t.number ≤ count) ts
    → events_of ms ts ≡ filter (keeps h) (events_of ns ts)
inserted ns ms h count new others [] all = refl
inserted ns ms h count new others (t ∷ ts) all =
    let rest = inserted ns ms h count new others ts all.1 in
    elim (cases_Bool (t.handle.0 == h.0)) [
      | inl same ↦ rw (stale ms h count t new all.0 same) (rest ∙ dropped ns h t ts (is_current ns t) refl same)
      | inr apart ↦ kept ns ms h t ts (is_current ns t) (others t.handle.0 (differs t.handle.0 h.0 apart)) refl apart rest
    ]

-- ---- calls

pub sends : (ns : List ℕ) (was mid is : List Told) (handle : ConnectionHandle) (event : ConnectionEvent) (n : ℕ) (seen : List (ConnectionHandle × ConnectionEvent)) → seen ≡ events_of ns was → mid ≡ was
    → is ≡ mid ++ record { handle = handle; number = n; event = event } ∷ [] → n ≡ number_of ns handle → events_of ns is ≡ seen ++ (handle, event) ∷ []
sends ns was mid is handle event n seen view same pushed number =
    let t : Told = record { handle = handle; number = n; event = event } in
    ap (events_of ns) (pushed ∙ ap (λ (l : List Told). l ++ t ∷ []) same) ∙ sent ns was t (current ns handle event n number) ∙ ap (λ (l : List (ConnectionHandle × ConnectionEvent)). l ++ (handle, event) ∷ []) (sym view)

pub inserts : (ns grown : List ℕ) (handle : ConnectionHandle) (count n : ℕ) (told : List Told) (seen : List (ConnectionHandle × ConnectionEvent)) → seen ≡ events_of ns told → AreNumbered count ns told → AreSame ns grown → handle.0 < length grown → count < n
    → IsInserted handle seen (events_of (set grown handle.0 n) told)
inserts ns grown handle count n told seen view numbered same there later =
    let ms = set grown handle.0 n in
    let here : get_or ms handle.0 0 ≡ n = get_or-set_same grown handle.0 n 0 there in
    inserted ns ms handle count (omega arith) (λ k apart. get_or-set_other grown handle.0 k n 0 apart ∙ same k) told numbered.events ∙ ap (filter (keeps handle)) (sym view)
