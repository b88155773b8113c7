use Rattle.std.proofs.Common.{◌++◌, drop, map, take, ap, ◌∙◌}
use Rattle.qh_control.specs.Queue.{PlainQueue, sent_in}
use Rattle.qh_control.proofs.Kept.{stay_sent}
use Rattle.qh_control.proofs.queue.ControlQueue.on_sent.Goals as goal

pub returns-clause-sendable : goal.returns-clause-sendable
returns-clause-sendable c =
    stay_sent c.args.number c.args.count c.args.self.now _
    (c.move_sent.ensures.waiting ∙ ap (λ (q : PlainQueue). drop c.args.count q.waiting) c.self.view_is)
    (c.move_sent.ensures.sent ∙ ap (λ (q : PlainQueue). q.sent ++ map (sent_in c.args.number) (take c.args.count q.waiting)) c.self.view_is)
