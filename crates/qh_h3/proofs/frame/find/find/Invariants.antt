use Rattle.std.proofs.Common.{length}
use Rattle.qh_h3.specs.Finding.{Skips}
use Rattle.qh_h3.proofs.frame.find.find.Given as goal

abbrev pub invariant-loop-frame : goal.invariant-loop-frame
invariant-loop-frame l = Skips l.of_body l.fn.held l.held

abbrev pub decreases-loop-frame : goal.decreases-loop-frame
decreases-loop-frame l = length l.held
