use Rattle.std.proofs.Common.{take}
use Rattle.qh_loss.specs.Settled.{is_kind}
use Rattle.qh_loss.proofs.QueuedAgain.{AreQueuedSoFar}
use Rattle.qh_loss.proofs.probe.queue_again.Given as goal

abbrev pub invariant-loop-frame : goal.invariant-loop-frame
invariant-loop-frame l = AreQueuedSoFar (is_kind l.fn.stream) l.fn.streams l.streams (take l.frame-index l.frames) l.is_owed
