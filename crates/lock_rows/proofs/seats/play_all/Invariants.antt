use Rattle.std.proofs.Common.{◌≡◌, ◌^◌}
use Rattle.lock_rows.specs.Calls.{IsFree}
use Rattle.lock_rows.proofs.seats.play_all.Given as goal

abbrev pub invariant-loop-number : goal.invariant-loop-number
invariant-loop-number g l = IsFree l.mutex l.seat × IsFree l.mutex l.other × (l.seat.parts ≡ 2 ^ 63) × (l.other.parts ≡ 2 ^ 63)
