use Rattle.std.proofs.Common.{Ok, false, refl, ap, ◌∙◌, arith}
use Rattle.qh_conn.proofs.CoreLog.{made_log}
use Rattle.qh_conn.proofs.InSound.{safe_of}
use Rattle.qh_conn.proofs.OutCarries.{err_carries, failed_carries, sent_carries}
use Rattle.qh_conn.proofs.OutSent.{count_within, waiting_sent}
use Rattle.qh_conn.proofs.OutWhole.{data_sound, data_whole, queue_sendable, same_queue}
use Rattle.qh_core.proofs.MadeEnds.{control_made}
use Rattle.qh_core.specs.declared.inner.Inner.{Inner}
use Rattle.qh_spec.specs.declared.sides.Space.TheVariants.{Data}
use Rattle.qh_conn.proofs.SameParts.{control_stays, out_same}
use Rattle.qh_conn.proofs.Same.{control_kept, same_control}
use Rattle.std.proofs.Common.{inl, inr}
use Rattle.qh_conn.proofs.Noted.{any_err}
use Rattle.qh_control.specs.Queue.{PlainQueue}
use Rattle.qh_conn.proofs.connection.Connection.transmit_waiting.Goals as goal

pub returns-in_err-sent-clause-carries : goal.returns-in_err-sent-clause-carries
returns-in_err-sent-clause-carries g c = λ named makes hello t p.
    let old = c.args.self.now in
    let before = c.args.buf.now.items in
    let after = c.transmit_control.new.buf.items in
    let new = c.transmit_control.new.self in
    let e = c.transmit_control.ensures in
    err_carries g.S.Session.accepts g.S.Session.sealed before after hello c.from_residual-in_err-sent.result old.handshake new old.is_connected t c.from_residual-in_err-sent.ensures.0
    (failed_carries g.S.Session.accepts g.S.Session.sealed before after hello c.transmit_control.result c.in_err-sent.field-0.0 old.handshake old.core new old.is_connected t c.in_err-sent.was
    (c.requires.whole.sound.connected c.requires.connected).0
    (λ acts part made b. c.behaves_on.ensures g.S.Session.accepts g.S.Session.sealed old.core new acts part named (λ from number h. makes from Data number h) made b)
    (control_made g.S.Session.accepts g.S.Session.sealed c.args.now before after c.waiting-frames.result.now c.transmit_control.result old.core new e.some e.undisturbed e.none e.err e.follows e.same_end) p)

pub returns-clause-carries : goal.returns-clause-carries
returns-clause-carries g c = λ named makes hello t p.
    let old = c.args.self.now in
    let before = c.args.buf.now.items in
    let after = c.transmit_control.new.buf.items in
    let new = c.transmit_control.new.self in
    let e = c.transmit_control.ensures in
    let sent = rw c.in-Some.is at c.in_ok-sent.ensures.some in
    sent_carries g.S.Session.accepts g.S.Session.sealed before after hello c.transmit_control.result c.in-Some.sent old.handshake old.core new old.is_connected t (c.in_ok-sent.was ∙ ap Ok c.in-Some.is)
    (λ d made short q. c.sends.ensures.sent g.S.Session.accepts g.S.Session.sealed hello d old.handshake old.core new old.is_connected t named (λ from number h. makes from Data number h) made short
    (c.requires.whole.sound.connected c.requires.connected).0 (λ _. c.requires.connected) q)
    (control_made g.S.Session.accepts g.S.Session.sealed c.args.now before after c.waiting-frames.result.now c.transmit_control.result old.core new e.some e.undisturbed e.none e.err e.follows e.same_end)
    (c.sends.ensures.short (g.S.Session.sealed old.core.session) c.args.now old.core new before after c.in-Some.sent.transmit sent.made) p

pub returns-in_err-sent-clause-safe : goal.returns-in_err-sent-clause-safe
returns-in_err-sent-clause-safe g c =
    let old = c.args.self.now in
    let s = c.requires.whole.sound.sendable in
    safe_of _
    (data_sound old c.transmit_control.new.self (record old.control { queue = c.reserve.new.self }) old.is_control_next c.requires.whole c.in_err-sent.ensures.same_end
    (queue_sendable old.core.side old.core.config.peer_datagram old.control c.reserve.new.self (same_queue _ _ old.control.queue c.reserve.new.self c.in_ok-reserve.ensures.rest s.frames) s) refl)

pub returns-in_default-clause-whole : goal.returns-in_default-clause-whole
returns-in_default-clause-whole g c =
    let old = c.args.self.now in
    let s = c.requires.whole.sound.sendable in
    data_whole old c.transmit_control.new.self (record old.control { queue = c.reserve.new.self }) old.is_control_next c.requires.whole c.requires.connected c.in_ok-sent.ensures.same_end
    (queue_sendable old.core.side old.core.config.peer_datagram old.control c.reserve.new.self (same_queue _ _ old.control.queue c.reserve.new.self c.in_ok-reserve.ensures.rest s.frames) s) refl (λ on. on)
    (ap (λ (z : Inner _). z.space.log) (c.in_ok-sent.ensures.none c.in_default.is).1)

pub on_sent-requires-clause-some : goal.on_sent-requires-clause-some
on_sent-requires-clause-some g c =
    let sent = rw c.in-Some.is at c.in_ok-sent.ensures.some in
    count_within _ c.in-Some.sent.count c.waiting-frames.result.now _ sent.count_is c.waiting-frames.ensures

pub on_sent-requires-clause-room : goal.on_sent-requires-clause-room
on_sent-requires-clause-room g c =
    let sent = rw c.in-Some.is at c.in_ok-sent.ensures.some in
    let within = count_within _ c.in-Some.sent.count c.waiting-frames.result.now _ sent.count_is c.waiting-frames.ensures in
    let most = c.in_ok-reserve.ensures.ok in
    omega (arith, within, most)

pub returns-clause-some : goal.returns-clause-some
returns-clause-some g c =
    let sent = rw c.in-Some.is at c.in_ok-sent.ensures.some in
    waiting_sent (g.S.Session.sealed c.args.self.now.core.session) c.args.now c.args.self.now c.transmit_control.new.self c.reserve.new.self c.on_sent.new.self c.waiting-frames.result.now
    c.args.buf.now.items c.transmit_control.new.buf.items c.in-Some.sent c.waiting-frames.ensures c.in_ok-reserve.ensures.rest sent c.on_sent.ensures.sent

pub returns-clause-whole : goal.returns-clause-whole
returns-clause-whole g c =
    let old = c.args.self.now in
    let sent = rw c.in-Some.is at c.in_ok-sent.ensures.some in
    let s = c.requires.whole.sound.sendable in
    data_whole old c.transmit_control.new.self (record old.control { queue = c.on_sent.new.self }) false c.requires.whole c.requires.connected c.in_ok-sent.ensures.same_end
    (queue_sendable old.core.side old.core.config.peer_datagram old.control c.on_sent.new.self
    (c.on_sent.ensures.sendable old.core.side old.core.config.peer_datagram (same_queue _ _ old.control.queue c.reserve.new.self c.in_ok-reserve.ensures.rest s.frames)) s) refl (λ on. on)
    (made_log c.args.now old.core c.transmit_control.new.self _ _ sent.made.bytes.made)

pub returns-clause-safe : goal.returns-clause-safe
returns-clause-safe g c = safe_of _ (returns-clause-whole g c).sound

pub returns-in_err-reserve-clause-same : goal.returns-in_err-reserve-clause-same
returns-in_err-reserve-clause-same g c =
    let old = c.args.self.now in
    same_control g.S.Session.key old (record old.control { queue = c.reserve.new.self }) (control_kept old.control refl)

pub returns-in_err-sent-clause-same : goal.returns-in_err-sent-clause-same
returns-in_err-sent-clause-same g c =
    let old = c.args.self.now in
    let e = c.transmit_control.ensures in
    out_same g.S.Session.key old c.transmit_control.new.self (record old.control { queue = c.reserve.new.self }) old.is_control_next
    (control_stays _ c.args.now c.args.buf.now.items c.transmit_control.new.buf.items c.waiting-frames.result.now _ _ _ c.transmit_control.result old.core c.transmit_control.new.self e.some e.none e.err) (control_kept old.control refl)

pub returns-in_default-clause-same : goal.returns-in_default-clause-same
returns-in_default-clause-same g c =
    let old = c.args.self.now in
    let e = c.transmit_control.ensures in
    out_same g.S.Session.key old c.transmit_control.new.self (record old.control { queue = c.reserve.new.self }) old.is_control_next
    (control_stays _ c.args.now c.args.buf.now.items c.transmit_control.new.buf.items c.waiting-frames.result.now _ _ _ c.transmit_control.result old.core c.transmit_control.new.self e.some e.none e.err) (control_kept old.control refl)

pub returns-clause-same : goal.returns-clause-same
returns-clause-same g c =
    let old = c.args.self.now in
    let e = c.transmit_control.ensures in
    out_same g.S.Session.key old c.transmit_control.new.self (record old.control { queue = c.on_sent.new.self }) false
    (control_stays _ c.args.now c.args.buf.now.items c.transmit_control.new.buf.items c.waiting-frames.result.now _ _ _ c.transmit_control.result old.core c.transmit_control.new.self e.some e.none e.err) (control_kept old.control refl)

pub returns-in_err-reserve-clause-unsent : goal.returns-in_err-reserve-clause-unsent
returns-in_err-reserve-clause-unsent g c =
    let is = c.reserve.ensures.rest in
    any_err _ c.from_residual.result (record { core = inl refl; queue = record { waiting = ap (λ (z : PlainQueue). z.waiting) is; sent = ap (λ (z : PlainQueue). z.sent) is }; rest_is = refl })

pub returns-in_err-sent-clause-unsent : goal.returns-in_err-sent-clause-unsent
returns-in_err-sent-clause-unsent g c =
    let is = c.in_ok-reserve.ensures.rest in
    any_err _ c.from_residual-in_err-sent.result
    (record { core = inr c.in_err-sent.ensures.err.1; queue = record { waiting = ap (λ (z : PlainQueue). z.waiting) is; sent = ap (λ (z : PlainQueue). z.sent) is }; rest_is = refl })
