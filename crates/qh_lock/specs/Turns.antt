-- The turns of a lock. Word 0 is the next ticket, word 1 the ticket that is served. The one slot has the value, which
-- stores its history.
use Rattle.std.specs.Prelude.{◌≡◌, ◌≢◌, ℕ, ◌+◌, ◌-◌, ◌/◌, ◌<◌, ◌≤◌, ◌⊎◌, ◌^◌, List, [], ◌∷◌, ◌++◌, length, Bool, true, false, None, Some}
use Rattle.std.proofs.Common.{Option}
use mathlib.Core.Option.{none, some}
use lib.ListN.{get_elem?}
use Rattle.atomic_table.specs.Table.{State, Me, Step}
use Rattle.qh_lock.specs.Places.{total, times, places, new_places, StartsWith, longer, shorter}
use Rattle.qh_lock.specs.declared.view.View.{View}

abbrev pub count_ticket : Option ℕ → ℕ
count_ticket None = 0
count_ticket (Some t) = 1

-- What a step makes of a view.
module _ {E : Type 0} where
  abbrev pub view : List E → List ℕ → Option ℕ → Bool → ℕ → View E
  view seen own ticket turn parts = record { seen = seen; told = []; own = own; ticket = ticket; turn = turn; parts = parts }

  -- the first seat: it has seen the history that the value came with, and owns each place of it
  abbrev pub opened : List E → View E
  opened h = view h (places 0 h) None false (2 ^ 64)

  -- draw: it has a ticket
  abbrev pub waiting : View E → ℕ → View E
  waiting v t = view v.seen v.own (Some t) v.turn v.parts

  -- look: it has the turn, and has seen the whole history
  abbrev pub entered : View E → List E → View E
  entered v h = view h v.own v.ticket true v.parts

  -- publish: it has seen the history put back, owns what was added, and has no ticket and no turn
  abbrev pub left_with : View E → List E → View E
  left_with v h = view h (v.own ++ new_places v.seen h) None false v.parts

  -- split: what the parent keeps, and the new seat's view
  abbrev pub kept_half : View E → View E
  kept_half v = view v.seen v.own v.ticket v.turn (v.parts - v.parts / 2)

  abbrev pub given_half : View E → View E
  given_half v = view v.seen [] None false (v.parts / 2)

  -- join: the longer history and both lists of places. Which of the two histories begins the other isn't known yet
  abbrev pub both : View E → View E → View E
  both v w = record { seen = longer v.seen w.seen; told = shorter v.seen w.seen; own = v.own ++ w.own; ticket = v.ticket; turn = v.turn; parts = v.parts + w.parts }

  -- settle: the two were compared
  abbrev pub settled : View E → View E
  settled v = view v.seen v.own v.ticket v.turn v.parts

  -- what is left of a seat that was taken in
  abbrev pub spent : View E
  spent = view [] [] None false 0

  abbrev pub tickets : View E → ℕ
  tickets v = count_ticket v.ticket

  -- the seat has no ticket, no turn and no slot
  abbrev pub IsIdle : {S : Type 0} → Me S (View E) → Type 0
  IsIdle m = (m.0.ticket ≡ None) × (m.0.turn ≡ false) × (m.1 ≡ [])

  abbrev pub Each : (View E → Type 0) → List (View E) → Type 0
  Each P views = (j : ℕ) (v : View E) → get_elem? views j ≡ some v → P v

  -- no two of the views have one ticket
  abbrev pub Apart : List (View E) → Type 0
  Apart views = (j k t : ℕ) (u v : View E) → get_elem? views j ≡ some u → get_elem? views k ≡ some v → u.ticket ≡ Some t → v.ticket ≡ Some t → j ≡ k

  -- the longest history that a view has seen
  abbrev pub longest : List (View E) → List E
  longest [] = []
  longest (v ∷ vs) = longer v.seen (longest vs)

-- What a step tells its caller: of the step, the seat before, the number found and the seat after.
module _ {E : Type 0} where
  abbrev pub drawn : {S : Type 0} → Step S → Me S (View E) → ℕ → Me S (View E) → Type 0
  drawn st m r m' = (r ≡ st.first → m' ≡ (waiting m.0 st.first, m.1)) × (r ≢ st.first → m' ≡ m)

  -- the shorter history begins the longer
  abbrev pub compared : {S : Type 0} → Step S → Me S (View E) → ℕ → Me S (View E) → Type 0
  compared st m r m' = (m' ≡ (settled m.0, m.1)) × StartsWith m.0.seen m.0.told

module _ {T E : Type 0} (history : T → List E) (ready : T → Type 0) where
  abbrev pub looked : Step (Option T) → Me (Option T) (View E) → ℕ → Me (Option T) (View E) → Type 0
  looked st m r m' =
      (m.0.ticket ≡ Some r → (x : T) × (m' ≡ (entered m.0 (history x), (0, Some x) ∷ m.1)) × StartsWith (history x) m.0.seen × ready x)
      × ((m.0.ticket ≡ Some r → ⊥) → m' ≡ m)

  abbrev pub history_of : Option T → List E
  history_of None = []
  history_of (Some x) = history x

  -- the history of the value that is carried
  abbrev pub carried_history : List (ℕ × Option T) → List E
  carried_history [] = []
  carried_history (p ∷ ps) = history_of p.1

  abbrev pub published : Step (Option T) → Me (Option T) (View E) → ℕ → Me (Option T) (View E) → Type 0
  published st m r m' = m' ≡ (left_with m.0 (carried_history m.1), [])

  -- the value is at home, and no view has the turn
  abbrev pub AtHome : State (Option T) (View E) → List E → Type 0
  AtHome s log = (x : T) × (s.homes ≡ some (Some x) ∷ []) × (history x ≡ log) × ready x × Each (λ v. v.turn ≡ false) s.views

  -- the value is out with a view that has the turn, and has seen its whole history
  abbrev pub Away : State (Option T) (View E) → List E → Type 0
  Away s log = (s.homes ≡ none ∷ []) × Each (λ v. v.turn ≡ true → v.seen ≡ log) s.views × ((j : ℕ) × (v : View E) × (get_elem? s.views j ≡ some v) × (v.turn ≡ true))

  -- The rule: what holds between any two steps. `log` is the history of the value: of the one at home, or, while the
  -- slot is away, of the one that was taken out.
  pub record InTurn (s : State (Option T) (View E)) : Type 0 where
    pub next : ℕ
    pub serving : ℕ
    pub log : List E
    pub words : s.words ≡ next ∷ serving ∷ []
    -- Tickets in views are distinct,
    pub distinct : Apart s.views
    -- and lie from word 1 up to but without word 0.
    pub between : Each (λ v. (t : ℕ) → v.ticket ≡ Some t → (serving ≤ t) × (t < next)) s.views
    -- Word 1 plus the number of views with a ticket is word 0.
    pub counted : serving + total tickets s.views ≡ next
    -- The slot is away only while a view has the turn.
    pub away : AtHome s log ⊎ Away s log
    -- Each view's `seen` is a prefix of the value's history.
    pub prefixes : Each (λ v. StartsWith log v.seen) s.views
    -- No place is in two views' own entries, and none is twice in one's.
    pub once : (n : ℕ) → total (λ v. times n v.own) s.views ≤ 1
    -- Each place of the longest `seen` is in some view's own entries.
    pub covered : (n : ℕ) → n < length (longest s.views) → 0 < total (λ v. times n v.own) s.views
    -- The value's history begins with the longest `seen` and has no entry more: one that its holder adds comes into
    -- the table with the step that gives the turn up.
    pub newest : log ≡ longest s.views
    -- Only the ticket that is served has the turn.
    pub served : Each (λ v. v.turn ≡ true → v.ticket ≡ Some serving) s.views
    -- A view's own places are places of what it has seen.
    pub seen_own : Each (λ v. (n : ℕ) → 0 < times n v.own → n < length v.seen) s.views
    -- What a seat that was taken in had seen is a prefix too, and no longer than what its taker has seen.
    pub heard : Each (λ v. StartsWith log v.told × (length v.told ≤ length v.seen)) s.views
    -- The parts are 2^64 in all,
    pub parted : total (λ v. v.parts) s.views ≡ 2 ^ 64
    -- and a view with none has no ticket and no entries of its own.
    pub gone : Each (λ v. v.parts ≡ 0 → (v.ticket ≡ None) × (v.own ≡ [])) s.views
