-- What callers see of a seat, and what each call makes of it.
use Rattle.std.specs.Prelude.{◌≡◌, ℕ, ◌+◌, ◌-◌, ◌/◌, ◌^◌, List, [], ◌∷◌, ◌++◌, true, false, None, Some}
use Rattle.std.proofs.Common.{Option}
use Rattle.atomic_table.specs.Table.{Me}
use Rattle.atomic_table.specs.Seated.{TableId}
use Rattle.qh_lock.specs.Places.{places, new_places, longer}
use Rattle.qh_lock.specs.declared.view.View.{View}

pub record Seated (E : Type 0) : Type 0 where
  -- the mutex that it is a seat of
  pub lock : TableId
  -- the history that it has seen
  pub seen : List E
  -- the places in that history of its own entries
  pub own : List ℕ
  -- its ticket, while it has the turn
  pub turn : Option ℕ
  -- its parts, of the 2^64 that all seats of the mutex share
  pub parts : ℕ

module _ {E : Type 0} where
  abbrev pub seated : TableId → View E → Seated E
  seated lock v = record { lock = lock; seen = v.seen; own = v.own; turn = v.ticket; parts = v.parts }

  -- `new`: it has seen the value's history, and each place of it is its own
  abbrev pub first_seat : TableId → List E → Seated E
  first_seat lock history = record { lock = lock; seen = history; own = places 0 history; turn = None; parts = 2 ^ 64 }

  -- `lock`: it has the turn with this ticket, and has seen the value's history
  abbrev pub in_turn : Seated E → ℕ → List E → Seated E
  in_turn s ticket history = record { lock = s.lock; seen = history; own = s.own; turn = Some ticket; parts = s.parts }

  -- `unlock`: it has seen the history put back, the place of an added entry is its own, and it has no turn
  abbrev pub after_turn : Seated E → List E → Seated E
  after_turn s history = record { lock = s.lock; seen = history; own = s.own ++ new_places s.seen history; turn = None; parts = s.parts }

  -- `split`: what the seat keeps, which is all but half of its parts,
  abbrev pub without_half : Seated E → Seated E
  without_half s = record { lock = s.lock; seen = s.seen; own = s.own; turn = s.turn; parts = s.parts - s.parts / 2 }

  -- and the new seat, which has seen as much and has no entries of its own
  abbrev pub other_half : Seated E → Seated E
  other_half s = record { lock = s.lock; seen = s.seen; own = []; turn = None; parts = s.parts / 2 }

  -- `join`: the longer of the two histories, both lists of own places, and the parts of both
  abbrev pub joined : Seated E → Seated E → Seated E
  joined s t = record { lock = s.lock; seen = longer s.seen t.seen; own = s.own ++ t.own; turn = s.turn; parts = s.parts + t.parts }

  -- a seat with this ticket has the turn and holds the slot, which is empty; one without has neither
  abbrev pub IsHolding : {T : Type 0} → Me (Option T) (View E) → Option ℕ → Type 0
  IsHolding m None = (m.0.turn ≡ false) × (m.1 ≡ [])
  IsHolding m (Some t) = (m.0.turn ≡ true) × (m.1 ≡ (0, None) ∷ [])

  -- between calls, who has a ticket has the turn
  abbrev pub IsSettled : {T : Type 0} → Me (Option T) (View E) → Type 0
  IsSettled m = IsHolding m m.0.ticket
