use Rattle.qh_control.proofs.Acked.{AreRangesSoFar, ranges_left}
use Rattle.qh_control.proofs.queue.ControlQueue.on_ack.Given as goal

abbrev pub invariant-loop-rest : goal.invariant-loop-rest
invariant-loop-rest l = AreRangesSoFar l.fn.ack l.rest l.fn.self l.self

abbrev pub decreases-loop-rest : goal.decreases-loop-rest
decreases-loop-rest l = ranges_left l.rest
