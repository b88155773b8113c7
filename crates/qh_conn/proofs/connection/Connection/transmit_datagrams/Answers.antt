use Rattle.std.proofs.Common.{◌≡◌, List, [], ◌∷◌, ◌||◌, Option, is_some, Ok, drop, true, false, sym, ap, subst, ◌∙◌, arith, refl}
use Rattle.std.specs.List.{AllByRecursion}
use Rattle.qh_conn.proofs.CoreLog.{made_log}
use Rattle.qh_conn.proofs.InSound.{safe_of}
use Rattle.qh_conn.proofs.Noted.{log_sendable, next_whole}
use Rattle.qh_conn.proofs.OutCarries.{err_carries, failed_carries, nothing_more, sent_carries}
use Rattle.qh_conn.proofs.OutSent.{count_within, datagrams_out, some_payload, taken_within}
use Rattle.qh_conn.proofs.OutWhole.{data_whole}
use Rattle.qh_conn.specs.Items.{noted_in}
use Rattle.qh_conn.specs.Outgoing.{IsControlHeld}
use Rattle.qh_control.specs.declared.control.ControlState.{ControlState}
use Rattle.qh_control.specs.declared.items.ConnectionItem.{ConnectionItem}
use Rattle.qh_control.specs.declared.items.ConnectionItem.TheVariants as item
use Rattle.qh_core.proofs.MadeEnds.{control_made}
use Rattle.qh_core.specs.Control.{MaySend}
use Rattle.qh_core.specs.declared.control.ControlFrame.{ControlFrame}
use Rattle.qh_core.specs.declared.inner.Inner.{Inner}
use Rattle.qh_spec.specs.declared.sides.Space.TheVariants.{Data}
use Rattle.qh_conn.proofs.SameParts.{control_stays, out_same}
use Rattle.qh_conn.proofs.Same.{both_same, control_by, control_kept, noted_same, same_control, same_flags, same_self, same_then}
use Rattle.qh_conn.specs.declared.connection.Connection.{Connection}
use Rattle.std.proofs.Common.{inl, inr}
use Rattle.qh_conn.proofs.Noted.{any_err}
use Rattle.qh_conn.proofs.connection.Connection.transmit_datagrams.Goals as goal

pub transmit_control-requires : goal.transmit_control-requires
transmit_control-requires g c =
    let old = c.args.self.now in
    subst (λ (z : List ControlFrame). AllByRecursion (MaySend old.core.side old.core.config.peer_datagram) z) (sym c.deref.ensures.value)
    (c.in_ok-frames.ensures.sendable old.core.side old.core.config.peer_datagram c.requires.whole.sound.sendable)

pub returns-in_err-entries-clause-carries : goal.returns-in_err-entries-clause-carries
returns-in_err-entries-clause-carries g c = λ named makes hello t p.
    let old = c.args.self.now in
    err_carries g.S.Session.accepts g.S.Session.sealed c.args.buf.now.items c.args.buf.now.items hello c.from_residual-in_err-entries.result old.handshake old.core old.is_connected t c.from_residual-in_err-entries.ensures.0 p

pub returns-in_default-clause-carries : goal.returns-in_default-clause-carries
returns-in_default-clause-carries g c = λ named makes hello t p.
    let old = c.args.self.now in
    let before = c.args.buf.now.items in
    let after = c.transmit_control.new.buf.items in
    let new = c.transmit_control.new.self in
    let e = c.transmit_control.ensures in
    nothing_more g.S.Session.accepts g.S.Session.sealed hello old.handshake new old.is_connected t
    (failed_carries g.S.Session.accepts g.S.Session.sealed before after hello c.transmit_control.result _ old.handshake old.core new old.is_connected t c.in_default.is
    (c.requires.whole.sound.connected c.requires.connected).0
    (λ acts part made b. c.behaves_on.ensures g.S.Session.accepts g.S.Session.sealed old.core new acts part named (λ from number h. makes from Data number h) made b)
    (control_made g.S.Session.accepts g.S.Session.sealed c.args.now before after c.deref.result.now c.transmit_control.result old.core new e.some e.undisturbed e.none e.err e.follows e.same_end) p)

pub returns-clause-carries : goal.returns-clause-carries
returns-clause-carries g c = λ named makes hello t p.
    let old = c.args.self.now in
    let before = c.args.buf.now.items in
    let after = c.transmit_control.new.buf.items in
    let new = c.transmit_control.new.self in
    let e = c.transmit_control.ensures in
    let sent = rw c.in-Some.is at c.in-Ok.ensures.some in
    c.note_in.ensures.stands g.S.Session.accepts g.S.Session.sealed hello _
    (sent_carries g.S.Session.accepts g.S.Session.sealed before after hello c.transmit_control.result c.in-Some.sent old.handshake old.core new old.is_connected t (c.in-Ok.is ∙ ap Ok c.in-Some.is)
    (λ d made short q. c.sends.ensures.sent g.S.Session.accepts g.S.Session.sealed hello d old.handshake old.core new old.is_connected t named (λ from number h. makes from Data number h) made short
    (c.requires.whole.sound.connected c.requires.connected).0 (λ _. c.requires.connected) q)
    (control_made g.S.Session.accepts g.S.Session.sealed c.args.now before after c.deref.result.now c.transmit_control.result old.core new e.some e.undisturbed e.none e.err e.follows e.same_end)
    (c.sends.ensures.short (g.S.Session.sealed old.core.session) c.args.now old.core new before after c.in-Some.sent.transmit sent.made) p)

pub returns-in_default-sent-clause-none : goal.returns-in_default-sent-clause-none
returns-in_default-sent-clause-none g c = λ _.
    let old = c.args.self.now in
    let n = c.in-Ok.ensures.none c.in_default-sent.is in
    let f = c.in_ok-frames.ensures.frames in
    let log = c.give_back-in_default-sent.ensures ∙ c.in_ok-entries.ensures.ok in (
      n.0,
      IsControlHeld.outgoing c.deref.result.now c.requires.none (record { count = f.0; some = λ h. f.2 (some_payload _ h); are = c.deref.ensures.value ∙ f.1 }) n.2,
      ap (λ (z : Inner _). record old { core = z; control = record old.control { log = c.give_back-in_default-sent.new.self } }) n.1
          ∙ ap (λ (z : Option (List ConnectionItem)). record old { control = record old.control { log = z } }) log,
    )

pub datagrams_sent-requires : goal.datagrams_sent-requires
datagrams_sent-requires g c =
    let sent = rw c.in-Some.is at c.in-Ok.ensures.some in
    let f = c.in_ok-frames.ensures.frames in
    let within = count_within _ c.in-Some.sent.count c.deref.result.now _ sent.count_is (c.deref.ensures.value ∙ f.1) in
    let most = taken_within f.0 c.args.self.now.control.datagrams.outgoing in
    omega (arith, within, most)

pub returns-clause-some : goal.returns-clause-some
returns-clause-some g c =
    let old = c.args.self.now in
    let sent = rw c.in-Some.is at c.in-Ok.ensures.some in
    let f = c.in_ok-frames.ensures.frames in
    let out = c.datagrams_sent.new.self in
    datagrams_out (g.S.Session.sealed old.core.session) c.args.now old c.note_in.new.self c.transmit_control.new.self out c.deref.result.now c.args.buf.now.items
    c.transmit_control.new.buf.items c.in-Some.sent c.requires.none (record { count = f.0; some = λ h. f.2 (some_payload _ h); are = c.deref.ensures.value ∙ f.1 }) sent
    (c.datagrams_sent.ensures.some sent.some
    ∙ ap (λ (z : Option (List ConnectionItem)). record old.control {
      datagrams = record old.control.datagrams { outgoing = drop c.in-Some.sent.count old.control.datagrams.outgoing; is_send_blocked = false };
      is_unblocked_due = old.control.datagrams.is_send_blocked || old.control.is_unblocked_due;
      log = z;
    }) c.in_ok-entries.ensures.off)
    (c.note_in.ensures.value ∙ ap (λ (z : Option (List ConnectionItem)). noted_in z (item.DatagramsSent c.in-Some.sent.count ∷ []) (record old { core = c.transmit_control.new.self; control = out })) c.in_ok-entries.ensures.ok)

pub returns-clause-whole : goal.returns-clause-whole
returns-clause-whole g c =
    let old = c.args.self.now in
    let sent = rw c.in-Some.is at c.in-Ok.ensures.some in
    let peer = old.core.config.peer_datagram in
    let off = ap (λ (z : ControlState). z.log) (c.datagrams_sent.ensures.some sent.some) ∙ c.in_ok-entries.ensures.off in
    next_whole c.note_in.new.self false
    (c.note_in.ensures.whole
    (data_whole old c.transmit_control.new.self c.datagrams_sent.new.self old.is_control_next c.requires.whole c.requires.connected c.in-Ok.ensures.same_end
    (c.datagrams_sent.ensures.sendable old.core.side peer (log_sendable old.core.side peer old.control _ c.requires.whole.sound.sendable))
    (ap (λ (z : ControlState). z.ids.active.id) (c.datagrams_sent.ensures.some sent.some))
    (λ on. let z : false ≡ true = sym (ap (λ (z : Option (List ConnectionItem)). is_some z) off) ∙ on in cc) (made_log c.args.now old.core c.transmit_control.new.self _ _ sent.made.bytes.made)))

pub returns-clause-safe : goal.returns-clause-safe
returns-clause-safe g c = safe_of _ (returns-clause-whole g c).sound

pub returns-in_err-frames-clause-same : goal.returns-in_err-frames-clause-same
returns-in_err-frames-clause-same g c = same_self g.S.Session.key c.args.self.now

pub returns-then-is_empty-clause-same : goal.returns-then-is_empty-clause-same
returns-then-is_empty-clause-same g c = same_self g.S.Session.key c.args.self.now

pub returns-in_err-entries-clause-same : goal.returns-in_err-entries-clause-same
returns-in_err-entries-clause-same g c =
    let old = c.args.self.now in
    same_control g.S.Session.key old (record old.control { log = c.lend.new.self }) (control_kept old.control refl)

pub returns-in_default-clause-same : goal.returns-in_default-clause-same
returns-in_default-clause-same g c =
    let old = c.args.self.now in
    let e = c.transmit_control.ensures in
    out_same g.S.Session.key old c.transmit_control.new.self (record old.control { log = c.give_back.new.self }) old.is_control_next
    (control_stays _ c.args.now c.args.buf.now.items c.transmit_control.new.buf.items c.deref.result.now _ _ _ c.transmit_control.result old.core c.transmit_control.new.self e.some e.none e.err) (control_kept old.control refl)

pub returns-in_default-sent-clause-same : goal.returns-in_default-sent-clause-same
returns-in_default-sent-clause-same g c =
    let old = c.args.self.now in
    let e = c.transmit_control.ensures in
    out_same g.S.Session.key old c.transmit_control.new.self (record old.control { log = c.give_back-in_default-sent.new.self }) old.is_control_next
    (control_stays _ c.args.now c.args.buf.now.items c.transmit_control.new.buf.items c.deref.result.now _ _ _ c.transmit_control.result old.core c.transmit_control.new.self e.some e.none e.err) (control_kept old.control refl)

pub returns-clause-same : goal.returns-clause-same
returns-clause-same g c =
    let old = c.args.self.now in
    let e = c.transmit_control.ensures in
    let sent = rw c.in-Some.is at c.in-Ok.ensures.some in
    let out = c.datagrams_sent.new.self in
    let mid : Connection _ = record old { core = c.transmit_control.new.self; control = out } in
    let n = c.note_in.new.self in
    let sends = out_same g.S.Session.key old c.transmit_control.new.self out old.is_control_next
    (control_stays _ c.args.now c.args.buf.now.items c.transmit_control.new.buf.items c.deref.result.now _ _ _ c.transmit_control.result old.core c.transmit_control.new.self e.some e.none e.err)
    (control_by old.control out _ (c.datagrams_sent.ensures.some sent.some) (control_kept old.control refl)) in
    both_same g.S.Session.key old n _ (both_same g.S.Session.key old mid n sends (same_then g.S.Session.key mid _ n c.note_in.ensures.value (noted_same g.S.Session.key _ _ mid)))
    (same_flags g.S.Session.key n n.is_data_due n.is_connected_due false n.is_lost_logged)

pub returns-in_err-entries-clause-unsent : goal.returns-in_err-entries-clause-unsent
returns-in_err-entries-clause-unsent g c =
    let old = c.args.self.now in
    any_err _ c.from_residual-in_err-entries.result
    (record { core = inl refl; queue = record { waiting = refl; sent = refl }; rest_is = ap (λ (z : Option (List ConnectionItem)). record old { control = record old.control { log = z } }) c.in_err-entries.ensures.err })

pub returns-in_default-clause-unsent : goal.returns-in_default-clause-unsent
returns-in_default-clause-unsent g c =
    let old = c.args.self.now in
    record {
      core = inr c.in_default.ensures.err.1;
      queue = record { waiting = refl; sent = refl };
      rest_is = ap (λ (z : Option (List ConnectionItem)). record old { core = c.transmit_control.new.self; control = record old.control { log = z } }) (c.give_back.ensures ∙ c.in_ok-entries.ensures.ok);
    }
