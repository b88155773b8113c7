use Rattle.std.proofs.Common.{length}
use Rattle.qh_core.proofs.FrameSteps.{AreTakenUpTo}
use Rattle.qh_core.proofs.inner.receiving.take_frames.Given as goal

abbrev pub invariant-loop-frame : goal.invariant-loop-frame
invariant-loop-frame l = AreTakenUpTo l.now.0 l.count l.frames l.rest l.fn.space l.space

abbrev pub decreases-loop-frame : goal.decreases-loop-frame
decreases-loop-frame l = length l.rest
