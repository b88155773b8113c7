use Rattle.std.proofs.Common.{◌≡◌}
use Rattle.qh_lock.proofs.lock.Mutex.lock.Given as goal

abbrev pub invariant-loop : goal.invariant-loop
invariant-loop g l = (l.seat-inside.inner.table_id ≡ l.initial.seat-inside.inner.table_id) × (l.seat-inside.inner.me ≡ l.initial.seat-inside.inner.me)
