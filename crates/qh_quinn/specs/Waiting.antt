-- Calls that wait, each for a task.
use Rattle.std.specs.Prelude.{◌≡◌, ◌⊎◌, ◌==◌, ℕ, zero, suc, Bool, true, ◌&&◌, List, [], ◌∷◌, Option, None, Some, IsSomeAnd, map, slice_get, if◌then◌else◌}
use Rattle.std.specs.List.{filter, list_any}
use Rattle.futures.specs.Task.{Wakes}
use Rattle.futures.specs.declared.task.context.Context.{Context}
use Rattle.futures.specs.declared.task.waker.Waker.{Waker}
use Rattle.qh_book.specs.Interests.{is_same}
use Rattle.qh_book.specs.declared.interest.Interest.{Interest}
use Rattle.qh_book.specs.declared.interest.Interest.TheVariants as interest
use Rattle.qh_quinn.specs.declared.waiting.Waiting.{Waiting}

abbrev pub interests_in : List Waiting → List Interest
interests_in waiting = map (λ (w : Waiting). w.interest) waiting

-- the call waits
abbrev pub is_among : Interest → List Waiting → Bool
is_among i waiting = list_any (λ (j : Interest). is_same j i) (interests_in waiting)

-- an entry of the call has a waker of the task that is polled
pub record HasWaker (i : Interest) (cx : Context) (waiting : List Waiting) : Type 0 where
  pub place : ℕ
  pub entry : Waiting
  pub there : slice_get waiting place ≡ Some entry
  pub same : is_same entry.interest i ≡ true
  pub waker : Waker
  pub has : entry.waker ≡ Some waker
  pub wakes : Wakes waker cx

-- so it is, unless there was no memory for a waker, which the context says
abbrev pub IsHeard : (i : Interest) → (before after : Context) → List Waiting → Type 0
IsHeard i before after waiting = (after.lacks_waker ≡ true) ⊎ HasWaker i before waiting

-- the entries of other calls, and of other tasks, are as they were
abbrev pub KeepsOthers : Interest → (task : ℕ) → (old new : List Waiting) → Type 0
KeepsOthers i task old new = (k : ℕ) (w : Waiting) → slice_get old k ≡ Some w → (is_same w.interest i && (w.task == task) ≡ true → ⊥) → slice_get new k ≡ Some w

-- the driver's waker is of the task that is polled, unless there was no memory for one, which the context says
abbrev pub HearsDriver : Option Waker → (before after : Context) → Type 0
HearsDriver driver before after = (after.lacks_waker ≡ true) ⊎ IsSomeAnd driver (λ waker. Wakes waker before)

-- ---- who is woken

-- A task that waits for what the handshake tells is woken: it has no waker any more.
abbrev pub nudged_one : Waiting → Waiting
nudged_one w = if is_same w.interest interest.HandshakeData then record w { waker = None } else w

-- what the handshake tells is there, if it is due
abbrev pub nudged_if : (due : Bool) → List Waiting → List Waiting
nudged_if due waiting = if due then map nudged_one waiting else waiting

-- Those that wait for what the handshake tells are woken if it is due, and those whose call has a reply. The others wait on, with their wakers.
abbrev pub AreWoken : (due : Bool) → (old new : List Waiting) → Type 0
AreWoken due old new = (stays : Interest → Bool) × (new ≡ filter (λ (w : Waiting). stays w.interest) (nudged_if due old))

-- What follows is a word of a private function.

-- the same at one place
abbrev pub nudged_at : (at : ℕ) → List Waiting → List Waiting
nudged_at at [] = []
nudged_at zero (w ∷ ws) = nudged_one w ∷ ws
nudged_at (suc at) (w ∷ ws) = w ∷ nudged_at at ws
