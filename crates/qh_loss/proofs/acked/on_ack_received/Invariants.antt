use Rattle.qh_loss.proofs.AckRanges.{AreRangesSoFar, ranges_left}
use Rattle.qh_loss.proofs.acked.on_ack_received.Given as goal

abbrev pub invariant-loop-rest : goal.invariant-loop-rest
invariant-loop-rest l = AreRangesSoFar l.fn.ack l.rest l.fn.sent l.sent l.fn.streams l.streams l.fn.congestion l.congestion l.fn.log l.log l.is_any

abbrev pub decreases-loop-rest : goal.decreases-loop-rest
decreases-loop-rest l = ranges_left l.rest
