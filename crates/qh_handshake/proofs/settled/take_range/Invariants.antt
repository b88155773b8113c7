use Rattle.std.proofs.Common.{length}
use Rattle.qh_recovery.specs.SentPackets.{IsWithin}
use Rattle.qh_handshake.proofs.PacketsTaken.{IsTakenSoFar}
use Rattle.qh_handshake.proofs.settled.take_range.Given as goal

abbrev pub invariant-loop-packet : goal.invariant-loop-packet
invariant-loop-packet l = IsTakenSoFar (IsWithin l.fn.range.least l.fn.range.greatest) l.fn.sent l.sent l.has_hello

abbrev pub decreases-loop-packet : goal.decreases-loop-packet
decreases-loop-packet l = length l.sent
