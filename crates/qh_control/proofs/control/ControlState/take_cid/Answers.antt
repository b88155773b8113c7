use Rattle.std.proofs.Common.{refl, ap, ◌∙◌}
use Rattle.qh_control.specs.Control.{IsSendable}
use Rattle.qh_control.specs.declared.control.ControlState.{ControlState}
use Rattle.qh_control.proofs.Kept.{keeps_is, keeps_same}
use Rattle.qh_control.proofs.control.ControlState.take_cid.Goals.{then-inserted+in_ok-tell_token, else-inserted}
use Rattle.qh_control.proofs.control.ControlState.take_cid.Goals as goal

pub returns-in_err-retire-clause-sendable : goal.returns-in_err-retire-clause-sendable
returns-in_err-retire-clause-sendable c = λ side peer may. c.retire.ensures.sendable side peer (keeps_same side c.args.self.now _ refl refl refl peer may)

pub returns-in_err-tell_token-clause-sendable : goal.returns-in_err-tell_token-clause-sendable
returns-in_err-tell_token-clause-sendable c = λ side peer may.
    keeps_is side c.retire.new.self c.tell_token.new.self c.in_err-tell_token.ensures.err peer (c.retire.ensures.sendable side peer (keeps_same side c.args.self.now _ refl refl refl peer may))

pub returns-clause-sendable : goal.returns-clause-sendable
returns-clause-sendable c = λ side peer may.
    let retired : IsSendable side peer c.retire.new.self = c.retire.ensures.sendable side peer (keeps_same side c.args.self.now _ refl refl refl peer may) in
    elim c.if-inserted.branch [
      | then-inserted+in_ok-tell_token w ↦
          let same = w.self-is ∙ w.in_ok-tell_token.ensures.ok in
          keeps_same side c.retire.new.self c.if-inserted.self (ap (λ (s : ControlState). s.queue) same) (ap (λ (s : ControlState). s.peer_datagram) same) (ap (λ (s : ControlState). s.datagrams.outgoing) same) peer retired
      | else-inserted w ↦ keeps_is side c.retire.new.self c.if-inserted.self w.self-is peer retired
    ]
