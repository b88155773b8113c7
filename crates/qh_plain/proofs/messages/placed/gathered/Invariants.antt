use Rattle.std.proofs.Common.{◌≡◌, length}
use Rattle.qh_plain.specs.Placed.{AreFrom}
use Rattle.qh_plain.proofs.messages.placed.gathered.Given as goal

-- the bytes so far
abbrev pub invariant-loop-offset : goal.invariant-loop-offset
invariant-loop-offset l = record { counted : length l.bytes.items ≡ l.offset; from : AreFrom l.placed l.bytes.items }
