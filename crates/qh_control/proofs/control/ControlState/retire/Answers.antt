use Rattle.std.proofs.Common.{take, ap, ◌∙◌}
use Rattle.qh_control.specs.Queue.{PlainQueue}
use Rattle.qh_control.proofs.Kept.{keeps_retiring}
use Rattle.qh_control.proofs.control.ControlState.retire.Goals as goal

pub returns-in_err-push-clause-sendable : goal.returns-in_err-push-clause-sendable
returns-in_err-push-clause-sendable c = λ side.
    keeps_retiring side (take c.loop-sequence.sequence-index c.args.sequences.now) c.args.self.now _
    (ap (λ (q : PlainQueue). record c.loop-sequence.self { queue = q }) c.in_err-push.ensures.err ∙ c.loop-sequence.invariant)

pub returns-clause-sendable : goal.returns-clause-sendable
returns-clause-sendable c = λ side. keeps_retiring side (take c.loop-sequence.sequence-index c.args.sequences.now) c.args.self.now c.loop-sequence.self c.loop-sequence.invariant
