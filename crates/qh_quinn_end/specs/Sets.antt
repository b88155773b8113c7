-- What connections are to be told, until it is taken (quinn, `ConnectionSet`).
use Rattle.std.specs.Prelude.{◌≡◌, ◌≤◌, ◌==◌, ℕ, Bool, List, [], ◌∷◌, not, get_or, if◌then◌else◌}
use Rattle.std.specs.List.{AllByRecursion, filter}
use Rattle.qh_conn.specs.declared.event.ConnectionEvent.{ConnectionEvent}
use Rattle.qh_quinn_end.specs.declared.connection_set.Told.{Told}
use Rattle.qh_routes.specs.declared.connection_handle.ConnectionHandle.{ConnectionHandle}

-- what connections are to be told, the oldest first, and whether there is room for one event more
pub record PlainSet : Type 0 where
  pub events : List (ConnectionHandle × ConnectionEvent)
  pub has_room : Bool

-- the number of the connection that has the handle
abbrev pub number_of : List ℕ → ConnectionHandle → ℕ
number_of numbers handle = get_or numbers handle.0 0

-- it is for the connection that has the handle now
abbrev pub is_current : List ℕ → Told → Bool
is_current numbers t = number_of numbers t.handle == t.number

abbrev pub plain_told : Told → ConnectionHandle × ConnectionEvent
plain_told t = (t.handle, t.event)

-- those that are for connections which have their handles still, the oldest first
abbrev pub events_of : (numbers : List ℕ) → List Told → List (ConnectionHandle × ConnectionEvent)
events_of numbers [] = []
events_of numbers (t ∷ ts) = if is_current numbers t then plain_told t ∷ events_of numbers ts else events_of numbers ts

-- the numbers of all handles are the same
abbrev pub AreSame : (old new : List ℕ) → Type 0
AreSame old new = (k : ℕ) → get_or new k 0 ≡ get_or old k 0

-- each connection had a number up to this one
pub record AreNumbered (count : ℕ) (numbers : List ℕ) (told : List Told) : Type 0 where
  pub handles : (k : ℕ) → get_or numbers k 0 ≤ count
  pub events : AllByRecursion (λ t. t.number ≤ count) told

-- A new connection has the handle: what an earlier one was to be told is left out.
abbrev pub IsInserted : ConnectionHandle → (old new : List (ConnectionHandle × ConnectionEvent)) → Type 0
IsInserted handle old new = new ≡ filter (λ (p : ConnectionHandle × ConnectionEvent). not (p.0.0 == handle.0)) old
