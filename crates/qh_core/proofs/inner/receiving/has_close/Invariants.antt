use Rattle.std.proofs.Common.{length}
use Rattle.qh_core.proofs.CloseFrames.{AreReadUpTo}
use Rattle.qh_core.proofs.inner.receiving.has_close.Given as goal

abbrev pub invariant-loop-rest : goal.invariant-loop-rest
invariant-loop-rest l = AreReadUpTo l.frames l.rest l.has_close

abbrev pub decreases-loop-rest : goal.decreases-loop-rest
decreases-loop-rest l = length l.rest
