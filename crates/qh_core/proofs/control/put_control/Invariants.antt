use Rattle.std.proofs.Common.{◌≡◌, drop}
use Rattle.qh_core.proofs.ControlMade.{ArePutSoFar}
use Rattle.qh_core.proofs.control.put_control.Given as goal

abbrev pub invariant-loop-frame : goal.invariant-loop-frame
invariant-loop-frame l = (l.count ≡ l.frame-index) × ArePutSoFar l.fn.room l.count l.left l.frames (drop l.frame-index l.frames) l.initial.out.items l.out.items
