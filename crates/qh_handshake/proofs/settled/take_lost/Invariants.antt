use Rattle.std.proofs.Common.{length}
use Rattle.qh_recovery.specs.SentPackets.{IsLost}
use Rattle.qh_handshake.proofs.PacketsTaken.{IsTakenSoFar}
use Rattle.qh_handshake.proofs.settled.take_lost.Given as goal

abbrev pub invariant-loop-packet : goal.invariant-loop-packet
invariant-loop-packet l = IsTakenSoFar (IsLost l.fn.largest_acked l.fn.now.0 l.fn.delay.0) l.fn.sent l.sent l.has_hello

abbrev pub decreases-loop-packet : goal.decreases-loop-packet
decreases-loop-packet l = length l.sent
