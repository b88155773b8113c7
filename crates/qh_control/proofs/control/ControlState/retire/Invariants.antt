use Rattle.std.proofs.Common.{◌≡◌, ◌++◌, take}
use Rattle.qh_control.specs.Control.{retiring}
use Rattle.qh_control.proofs.control.ControlState.retire.Given as goal

abbrev pub invariant-loop-sequence : goal.invariant-loop-sequence
invariant-loop-sequence l = l.self ≡ record l.fn.self { queue = record l.fn.self.queue { waiting = l.fn.self.queue.waiting ++ retiring (take l.sequence-index l.sequences) } }
