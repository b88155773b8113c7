use Rattle.std.proofs.Common.{◌≡◌}
use Rattle.lock_rows.specs.Calls.{IsFree, Ran}
use Rattle.lock_rows.proofs.threads.add_all.Given as goal

abbrev pub invariant-loop-number : goal.invariant-loop-number
invariant-loop-number g l = IsFree l.mutex l.seat × (l.seat.parts ≡ l.initial.seat.parts) × Ran l.initial.seat l.seat l.thread l.from l.number
