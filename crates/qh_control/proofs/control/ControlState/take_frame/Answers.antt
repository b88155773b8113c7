use Rattle.std.proofs.Common.{refl, ap, subst, sym, OnOk}
use Rattle.qh_control.specs.Control.{IsControlTaken}
use Rattle.qh_control.specs.declared.control.ControlState.{ControlState}
use Rattle.qh_frame.specs.declared.frame.Frame.{Frame}
use Rattle.qh_frame.specs.declared.frame.Frame.TheVariants as kind
use Rattle.qh_control.proofs.Kept.{keeps_by, keeps_same}
use Rattle.qh_control.proofs.Taken.{datagram_taken, on_ok, other_frame}
use Rattle.qh_control.proofs.control.ControlState.take_frame.Goals as goal

pub returns-in-NewConnectionId-clause-ok : goal.returns-in-NewConnectionId-clause-ok
returns-in-NewConnectionId-clause-ok c =
    subst (λ (f : Frame). OnOk c.take_cid.result (IsControlTaken c.args.now c.args.self.now c.take_cid.new.self f)) (sym c.in-NewConnectionId.is)
    (on_ok _ _ (λ same. IsControlTaken.new_id _ _ _ _ same) c.take_cid.result c.take_cid.ensures.ok)

pub returns-in-RetireConnectionId-clause-ok : goal.returns-in-RetireConnectionId-clause-ok
returns-in-RetireConnectionId-clause-ok c =
    subst (λ (f : Frame). OnOk c.take_retirement.result (IsControlTaken c.args.now c.args.self.now c.take_retirement.new.self f)) (sym c.in-RetireConnectionId.is)
    (subst (λ sequence. OnOk c.take_retirement.result (IsControlTaken c.args.now c.args.self.now c.take_retirement.new.self (kind.RetireConnectionId sequence))) c.into_inner.ensures.value
    (on_ok _ _ (λ same. IsControlTaken.retire _ same) c.take_retirement.result c.take_retirement.ensures.ok))

pub returns-in-Ack-clause-ok : goal.returns-in-Ack-clause-ok
returns-in-Ack-clause-ok c =
    subst (λ (f : Frame). IsControlTaken c.args.now c.args.self.now (record c.args.self.now { queue = c.on_ack.new.self }) f) (sym c.in-Ack.is)
    (IsControlTaken.ack c.in-Ack.ack c.on_ack.ensures.left refl)

pub returns-in-Ack-clause-sendable : goal.returns-in-Ack-clause-sendable
returns-in-Ack-clause-sendable c = λ side. keeps_by side c.args.self.now _ c.on_ack.ensures.sendable refl refl

pub returns-in-NewToken-clause-ok : goal.returns-in-NewToken-clause-ok
returns-in-NewToken-clause-ok c =
    subst (λ (f : Frame). OnOk c.keep_token.result (IsControlTaken c.args.now c.args.self.now c.keep_token.new.self f)) (sym c.in-NewToken.is)
    (on_ok _ _ (λ same. IsControlTaken.given c.in-NewToken.token same) c.keep_token.result c.keep_token.ensures.ok)

pub returns-in-Datagram-clause-ok : goal.returns-in-Datagram-clause-ok
returns-in-Datagram-clause-ok c =
    subst (λ (f : Frame). OnOk c.take_datagram.result (IsControlTaken c.args.now c.args.self.now c.take_datagram.new.self f)) (sym c.in-Datagram.is)
    (datagram_taken c.take_datagram.result c.args.now c.args.self.now c.take_datagram.new.self c.in-Datagram.payload c.in-Datagram.has_length c.args.self.now.datagram_receive refl c.take_datagram.ensures.due c.take_datagram.ensures.undue)

pub returns-in-Datagram-clause-sendable : goal.returns-in-Datagram-clause-sendable
returns-in-Datagram-clause-sendable c = λ side.
    let same = c.take_datagram.ensures.rest in
    keeps_same side c.args.self.now c.take_datagram.new.self (ap (λ (s : ControlState). s.queue) same) (ap (λ (s : ControlState). s.peer_datagram) same) (ap (λ (s : ControlState). s.datagrams.outgoing) same)

pub returns-in_default : goal.returns-in_default
returns-in_default c =
    let other = other_frame c.args.self.now c.args.frame.now c.in_default.not-Ack c.in_default.not-NewToken c.in_default.not-NewConnectionId c.in_default.not-RetireConnectionId c.in_default.not-Datagram in
    record { ok = IsControlTaken.passive c.args.frame.now other.0 refl; taken = other.1; fault = tt; refused = tt; memory = tt; rest = tt; sendable = λ side peer may. may; as_long = refl; id_len = refl }
