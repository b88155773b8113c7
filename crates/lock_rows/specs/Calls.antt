-- What a call leaves.
use Rattle.std.specs.Prelude.{◌≡◌, ℕ, suc, ◌+◌, ◌≤◌, List, [], ◌∷◌, ◌++◌, length, None}
use Rattle.atomic_table.specs.Seated.{TableId}
use Rattle.qh_lock.specs.Places.{StartsWith, AreBelow, IsAscending, times, once_below}
use Rattle.qh_lock.specs.Seats.{Seated}
use Rattle.lock_rows.specs.declared.added.Added.{Added}
use Rattle.lock_rows.specs.Replays.{added}

-- a seat of this mutex, without the turn
abbrev pub IsFree : TableId → Seated Added → Type 0
IsFree lock s = (s.lock ≡ lock) × (s.turn ≡ None)

-- the history that is then seen begins with what was seen before and ends with this call, whose place is one more of
-- the seat's own
abbrev pub EndsWith : Seated Added → Seated Added → Added → Type 0
EndsWith s s' call = (before : List Added) × StartsWith before s.seen × (s'.seen ≡ before ++ call ∷ []) × (s'.own ≡ s.own ++ length before ∷ [])

-- at place p of the history is a call of this thread that added this number
abbrev pub IsCallAt : List Added → ℕ → ℕ → ℕ → Type 0
IsCallAt log p thread number = (before : List Added) × (reply : ℕ) × (after : List Added) × (length before ≡ p) × (log ≡ (before ++ added thread number reply ∷ []) ++ after)

-- at these places are calls of this thread that added the numbers from `number` on, in order
abbrev pub AreCallsAt : List Added → List ℕ → ℕ → ℕ → Type 0
AreCallsAt log [] thread number = Unit {0}
AreCallsAt log (p ∷ ps) thread number = IsCallAt log p thread number × AreCallsAt log ps thread (suc number)

abbrev pub AreFrom : ℕ → List ℕ → Type 0
AreFrom k [] = Unit {0}
AreFrom k (x ∷ xs) = (k ≤ x) × AreFrom k xs

-- at these places, from `first` on and in ascending order, are the calls of this thread that added the numbers `from`
-- to `to`, without the last
pub record IsRun (log : List Added) (first thread from to : ℕ) (places : List ℕ) : Type 0 where
  pub later : AreFrom first places
  pub below : AreBelow (length log) places
  pub up : IsAscending places
  pub calls : AreCallsAt log places thread from
  pub count : from + length places ≡ to

-- one seat after a run of a thread: it has seen more, and the places of the run are its own
abbrev pub Ran : Seated Added → Seated Added → ℕ → ℕ → ℕ → Type 0
Ran s s' thread from to = (run : List ℕ) × StartsWith s'.seen s.seen × (s'.own ≡ s.own ++ run) × IsRun s'.seen (length s.seen) thread from to run

-- one seat after a run of each of two threads
abbrev pub BothRan : Seated Added → Seated Added → ℕ → ℕ → Type 0
BothRan s s' from to =
    (one : List ℕ) × (two : List ℕ) × StartsWith s'.seen s.seen × (s'.own ≡ (s.own ++ one) ++ two)
    × IsRun s'.seen (length s.seen) 1 from to one × IsRun s'.seen (length s.seen) 2 from to two

-- the history has the numbers below `count` of each of two threads, each once and in its order, and no other call
abbrev pub HasBoth : List Added → ℕ → Type 0
HasBoth log count =
    (one : List ℕ) × (two : List ℕ) × IsRun log 0 1 0 count one × IsRun log 0 2 0 count two
    × ((n : ℕ) → times n one + times n two ≡ once_below n (length log))
