-- What callers see of a guard.
use Rattle.std.specs.Prelude.{ℕ}
use Rattle.std.specs.Borrow.{Bor}
use Rattle.atomic_table.specs.Seated.{TableId}
use Rattle.qh_lock.specs.declared.guard.Held.{Held}

module _ {M T : Type 0} where
  -- the value under the lock
  abbrev pub value_of : Held M T → T
  value_of g = g.value

  -- the guard with another value
  abbrev pub with_value : Held M T → T → Held M T
  with_value g x = record g { value = x }

  -- the ticket of the turn
  abbrev pub turn_of : Held M T → ℕ
  turn_of g = g.ticket

-- the mutex that it is a guard of
abbrev pub lock_of : {T : Type 0} → Held (Bor TableId) T → TableId
lock_of g = g.mutex.now
