use Rattle.std.proofs.Common.{refl, ap}
use Rattle.qh_control.specs.declared.control.ControlState.{ControlState}
use Rattle.qh_control.proofs.Kept.{greeted}
use Rattle.qh_control.proofs.control.ControlState.greet.Goals as goal

pub returns-clause-sendable : goal.returns-clause-sendable
returns-clause-sendable c = λ side may bounded.
    greeted side c.args.peer_datagram c.args.self.now _ (ap (λ (s : ControlState). s.queue) c.in-Ok.ensures.ok) refl (ap (λ (s : ControlState). s.datagrams.outgoing) c.in-Ok.ensures.ok) may bounded
