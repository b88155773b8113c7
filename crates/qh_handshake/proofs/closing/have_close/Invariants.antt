use Rattle.std.proofs.Common.{length}
use Rattle.qh_handshake.proofs.CloseFrames.{AreReadUpTo}
use Rattle.qh_handshake.proofs.closing.have_close.Given as goal

abbrev pub invariant-loop-rest : goal.invariant-loop-rest
invariant-loop-rest l = AreReadUpTo l.frames l.rest l.has_close

abbrev pub decreases-loop-rest : goal.decreases-loop-rest
decreases-loop-rest l = length l.rest
