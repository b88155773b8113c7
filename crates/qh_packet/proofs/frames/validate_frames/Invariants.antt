use Rattle.std.proofs.Common.{length}
use Rattle.qh_packet.proofs.Surveys.{IsSurveyed}
use Rattle.qh_packet.proofs.frames.validate_frames.Given as goal

abbrev pub invariant-loop-rest : goal.invariant-loop-rest
invariant-loop-rest l = IsSurveyed l.bytes l.rest l.is_ack_eliciting

abbrev pub decreases-loop-rest : goal.decreases-loop-rest
decreases-loop-rest l = length l.rest
