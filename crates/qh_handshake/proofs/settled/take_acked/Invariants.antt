use Rattle.qh_handshake.proofs.PacketsTaken.{AreRangesSoFar, ranges_left}
use Rattle.qh_handshake.proofs.settled.take_acked.Given as goal

abbrev pub invariant-loop-rest : goal.invariant-loop-rest
invariant-loop-rest l = AreRangesSoFar l.fn.ack l.rest l.fn.sent l.sent l.has_hello

abbrev pub decreases-loop-rest : goal.decreases-loop-rest
decreases-loop-rest l = ranges_left l.rest
