use Rattle.std.proofs.Common.{Err, ap, inr, refl}
use Rattle.qh_handshake.proofs.PacketsCome.{handled_err, handled_faulty, handled_ok, handled_unnoted, noted_by, same_unnoted, unread_at, unread_unnoted}
use Rattle.qh_handshake.proofs.packets.handle_packet.Goals as goal
use Rattle.qh_handshake.specs.Incoming.IsPacketHandled.{repeated}
use Rattle.std.proofs.lemmas.Bool.{both_ways}

pub returns-then-not-is_new-clause-ok : goal.returns-then-not-is_new-clause-ok
returns-then-not-is_new-clause-ok c = repeated (λ accepted remembers new. both_ways c.is_new.result c.if-not-is_new.true ((c.is_new.ensures accepted remembers).1 new)) refl

pub returns-in-Err-clause-err : goal.returns-in-Err-clause-err
returns-in-Err-clause-err c =
    inr (handled_faulty c.args.now c.args.number c.args.frames.now c.args.space.now c.in-Err.fault c.transport_error.result
    (λ accepted remembers. (c.is_new.ensures accepted remembers).0 c.if-not-is_new.false)
    (λ e. c.in-Err.ensures.empty (ap Err e)) c.in-Err.ensures.frame c.transport_error.ensures.empty c.transport_error.ensures.frame)

pub returns-clause-ok : goal.returns-clause-ok
returns-clause-ok c =
    let made = c.accept.ensures in
    handled_ok c.args.now c.args.number c.args.frames.now c.args.space.now c.accept.new.self c.take_frames.new.space c.in-Ok.surveyed.is_ack_eliciting c.take_frames.result
    (λ accepted remembers. (c.is_new.ensures accepted remembers).0 c.if-not-is_new.false) c.in-Ok.ensures.ok
    (noted_by c.args.now c.args.number c.in-Ok.surveyed.is_ack_eliciting c.args.space.now c.accept.new.self c.accept.result c.if-is_err.ensures.value made.remembers made.acks made.due made.rest)
    c.take_frames.ensures.ok

pub returns-clause-err : goal.returns-clause-err
returns-clause-err c =
    let made = c.accept.ensures in
    handled_err c.args.now c.args.number c.args.frames.now c.args.space.now c.accept.new.self c.take_frames.new.space c.in-Ok.surveyed.is_ack_eliciting c.take_frames.result
    (λ accepted remembers. (c.is_new.ensures accepted remembers).0 c.if-not-is_new.false) c.in-Ok.ensures.ok
    (noted_by c.args.now c.args.number c.in-Ok.surveyed.is_ack_eliciting c.args.space.now c.accept.new.self c.accept.result c.if-is_err.ensures.value made.remembers made.acks made.due made.rest)
    c.take_frames.ensures.err

pub returns-then-is_err-clause-err : goal.returns-then-is_err-clause-err
returns-then-is_err-clause-err c =
    handled_unnoted c.args.now c.args.number c.args.frames.now c.args.space.now c.accept.new.self c.refuse_unnoted.new.space c.in-Ok.surveyed.is_ack_eliciting c.refuse_unnoted.result
    (λ accepted remembers. (c.is_new.ensures accepted remembers).0 c.if-not-is_new.false) c.in-Ok.ensures.ok
    (same_unnoted c.args.space.now c.accept.new.self c.accept.result c.if-is_err.ensures.value c.accept.ensures.err) c.refuse_unnoted.ensures.error

pub returns-then-is_err-clause-wanting : goal.returns-then-is_err-clause-wanting
returns-then-is_err-clause-wanting c =
    unread_unnoted c.args.now c.args.number c.args.frames.now c.args.space.now c.accept.new.self c.in-Ok.surveyed.is_ack_eliciting c.refuse_unnoted.result
    (λ accepted remembers. (c.is_new.ensures accepted remembers).0 c.if-not-is_new.false) c.in-Ok.ensures.ok
    (same_unnoted c.args.space.now c.accept.new.self c.accept.result c.if-is_err.ensures.value c.accept.ensures.err) c.refuse_unnoted.ensures.wanting

pub returns-clause-wanting : goal.returns-clause-wanting
returns-clause-wanting c =
    let made = c.accept.ensures in
    unread_at c.args.now c.args.number c.args.frames.now c.args.space.now c.accept.new.self c.in-Ok.surveyed.is_ack_eliciting c.take_frames.result
    (λ accepted remembers. (c.is_new.ensures accepted remembers).0 c.if-not-is_new.false) c.in-Ok.ensures.ok
    (noted_by c.args.now c.args.number c.in-Ok.surveyed.is_ack_eliciting c.args.space.now c.accept.new.self c.accept.result c.if-is_err.ensures.value made.remembers made.acks made.due made.rest)
    c.take_frames.ensures.wanting
