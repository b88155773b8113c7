use Rattle.std.proofs.Common.{◌≤◌, length, refl, ap, arith}
use Rattle.qh_datagrams.specs.Datagrams.{PlainDatagrams}
use Rattle.qh_control.proofs.Kept.{keeps_payloads, sent_payloads}
use Rattle.qh_control.proofs.control.ControlState.send_datagram.Goals as goal

pub returns-in-Ok-clause-sendable : goal.returns-in-Ok-clause-sendable
returns-in-Ok-clause-sendable c = λ side.
    let fits : length c.args.payload ≤ c.in-Some.most = omega (arith, c.if-most-len.false, c.len.ensures.value) in
    keeps_payloads side c.args.self.now _ (λ peer same all.
    sent_payloads c.args.drop_old c.args.self.now.datagram_send c.in-Some.most c.args.self.now.peer_datagram peer c.args.self.now.datagrams.outgoing c.send.new.self.outgoing c.args.payload
    (λ e. ap (λ (d : PlainDatagrams). d.outgoing) (c.in-Ok.ensures.kept e).1) (λ e. ap (λ (d : PlainDatagrams). d.outgoing) (c.in-Ok.ensures.dropped e))
    c.in-Some.is same fits all) refl refl

pub returns-in-Err-Blocked-clause-unchanged : goal.returns-in-Err-Blocked-clause-unchanged
returns-in-Err-Blocked-clause-unchanged c = λ other. absurd (other c.in-Err-Blocked.payload refl)
