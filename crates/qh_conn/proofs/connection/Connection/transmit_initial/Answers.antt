use Rattle.std.proofs.Common.{◌≡◌, ◌∷◌, [], Bool, List, Option, None, Some, true, length, drop, ℕ, ◌++◌, refl, sym, ap, subst, ◌∙◌}
use Rattle.std.specs.Prelude.{if◌then◌else◌}
use Rattle.qh_base.specs.declared.path.Transmit.{Transmit}
use Rattle.qh_base.specs.declared.time.Moment.{Moment}
use Rattle.qh_conn.proofs.OutCarries.{err_carries, nothing_more}
use Rattle.qh_conn.proofs.OutWhole.{handshake_whole}
use Rattle.qh_conn.specs.Outgoing.{IsTransmitted, handed_on}
use Rattle.qh_conn.specs.Outgoing.IsTransmitted.{initial}
use Rattle.qh_conn.specs.Whole.{IsWhole, Stands}
use Rattle.qh_conn.specs.declared.connection.Connection.{Connection}
use Rattle.qh_converse.proofs.MidDatagram.{stays}
use Rattle.qh_converse.specs.Converses.{Converses}
use Rattle.qh_core.proofs.MadeEnds.{turned_made}
use Rattle.qh_core.specs.Inner.{counted, is_open}
use Rattle.qh_core.specs.Made.IsTurned.{packet_sent}
use Rattle.qh_core.specs.Timers.{sent_at}
use Rattle.qh_core.specs.declared.inner.Inner.{Inner}
use Rattle.qh_handshake.specs.Handshake.{IsHandshake}
use Rattle.qh_handshake.specs.Outgoing.{IsDatagramMade}
use Rattle.qh_handshake.specs.declared.handshake.Handshake.{Handshake}
use Rattle.qh_handshake.specs.declared.initial_space.InitialSpace.{InitialSpace}
use Rattle.qh_packet.specs.Session.{SealsTag}
use Rattle.qh_spec.specs.Transcript.{HandedOut}
use Rattle.qh_conn.proofs.SameParts.{initial_same}
use Rattle.qh_conn.proofs.Same.{moment_stays, same_handshake, same_then}
use Rattle.qh_handshake.proofs.GoingOn.{made_goes, same_goes, unsent_goes}
use Rattle.qh_handshake.specs.GoesOn.{GoesOn}
use Rattle.qh_conn.proofs.Noted.{any_err}
use Rattle.qh_conn.proofs.connection.Connection.transmit_initial.Goals as goal
use Rattle.qh_conn.proofs.connection.Connection.transmit_initial.Goals.{then-sent, else-sent}

no_space : (old new : Option InitialSpace) (s : InitialSpace) → old ≡ Some s → old ≡ None → new ≡ None
no_space old new s some none = let z : None ≡ Some s = sym none ∙ some in cc

module _ {S : Type 0} where
  -- the packet was sent, and wants an acknowledgement or not
  abbrev noted : Moment → Bool → Connection S → Handshake → Connection S
  noted now flag old h = record old { handshake = h; core = record old.core { idle = (if flag then sent_at now old.core.idle else old.core.idle) } }

  transmitted : (sealed : SealsTag) (now : Moment) (old : Connection S) (h : Handshake) (next : Connection S) (before after : List ℕ) (t : Transmit) (size : ℕ) (flag : Bool) → is_open old.core.state ≡ true
      → (made : IsDatagramMade sealed now old.handshake h before after size) → flag ≡ made.is_eliciting → next ≡ noted now flag old h
      → t ≡ record { destination = next.core.addresses.remote; size = size; src_ip = next.core.addresses.local_ip } → IsTransmitted sealed now old (handed_on t.size next) before after t
  transmitted sealed now old h next before after t size flag up made flag_is next_is t_is =
      subst (λ (z : Transmit). IsTransmitted sealed now old (handed_on z.size next) before after z) (sym t_is)
      (subst (λ (z : Connection S). IsTransmitted sealed now old (handed_on size z) before after (record { destination = z.core.addresses.remote; size = size; src_ip = z.core.addresses.local_ip })) (sym next_is)
      (initial up made (ap (λ (z : Bool). record (noted now z old h) { udp_tx = counted size old.udp_tx }) flag_is) (record { counted_is = refl; destination = refl; source = refl })))

  noted_whole : (now : Moment) (flag : Bool) (sealed : SealsTag) (old : Connection S) (h : Handshake) (next : Connection S) (before after : List ℕ) (size : ℕ) → IsWhole old → IsHandshake h
      → IsDatagramMade sealed now old.handshake h before after size → next ≡ noted now flag old h → IsWhole next
  noted_whole now flag sealed old h next before after size w whole made next_is =
      subst (λ (z : Connection S). IsWhole z) (sym next_is)
      (handshake_whole old h (noted now flag old h).core w whole (ap (λ (z : Handshake). z.side) made.new_is) (ap (λ (z : Handshake). z.local_id) made.new_is)
      (ap (λ (z : Handshake). z.peer) made.new_is) (λ none. no_space old.handshake.space h.space made.space made.space_is none)
      (record { side = refl; local_id = refl; remote_length = refl; config = refl }) (λ shut. shut) refl)

-- what the connection is once it was sent
noted_is : (g : _) (c : goal.After-transmit_of g) → c.if-sent.self ≡ noted c.args.now c.in-Some.sent.is_ack_eliciting c.args.self.now c.poll_transmit.new.self
noted_is g c = elim c.if-sent.branch [
  | then-sent w ↦ w.self-is ∙ ap (λ (z : Inner _). record c.args.self.now { handshake = c.poll_transmit.new.self; core = z }) w.on_packet_sent.ensures.value
      ∙ ap (λ (z : Bool). noted c.args.now z c.args.self.now c.poll_transmit.new.self) (sym w.if-sent.true)
  | else-sent w ↦ w.self-is ∙ ap (λ (z : Bool). noted c.args.now z c.args.self.now c.poll_transmit.new.self) (sym w.if-sent.false)
]

pub returns-in_err-sent-clause-carries : goal.returns-in_err-sent-clause-carries
returns-in_err-sent-clause-carries g c = λ named makes hello t p.
    err_carries g.S.Session.accepts g.S.Session.sealed c.args.buf.now.items c.poll_transmit.new.buf.items hello c.from_residual.result c.poll_transmit.new.self c.args.self.now.core c.args.self.now.is_connected t c.from_residual.ensures.0
    (c.sends.ensures.unsent g.S.Session.accepts g.S.Session.sealed c.args.now hello c.args.self.now.handshake c.poll_transmit.new.self c.args.self.now.core c.args.self.now.is_connected t c.in_err-sent.ensures.unsent p)

pub returns-in_default-clause-none : goal.returns-in_default-clause-none
returns-in_default-clause-none g c = λ _.
    let n = c.in_ok-sent.ensures.none c.in_default.is in
    (n.0, ap (λ (z : Handshake). record c.args.self.now { handshake = z }) n.1, n.2)

pub returns-in_default-clause-carries : goal.returns-in_default-clause-carries
returns-in_default-clause-carries g c = λ named makes hello t p.
    let old = c.args.self.now in
    let n = c.in_ok-sent.ensures.none c.in_default.is in
    nothing_more g.S.Session.accepts g.S.Session.sealed hello c.poll_transmit.new.self old.core old.is_connected t
    (subst (λ (z : Handshake). Converses g.S.Session.accepts g.S.Session.sealed hello z old.core old.is_connected t) (sym n.1) p)

pub returns-clause-some : goal.returns-clause-some
returns-clause-some g c =
    let some = rw (c.in-Some.is, c.session.ensures) at c.in_ok-sent.ensures.some in
    transmitted (g.S.Session.sealed c.args.self.now.core.session) c.args.now c.args.self.now c.poll_transmit.new.self c.if-sent.self c.args.buf.now.items c.poll_transmit.new.buf.items
    c.transmit_of.result c.in-Some.sent.size c.in-Some.sent.is_ack_eliciting c.requires.open some.0 some.1 (noted_is g c) c.transmit_of.ensures

pub returns-clause-carries : goal.returns-clause-carries
returns-clause-carries g c = λ named makes hello t p.
    let old = c.args.self.now in
    let some = rw (c.in-Some.is, c.session.ensures) at c.in_ok-sent.ensures.some in
    let after = t ++ HandedOut (drop (length c.args.buf.now.items) c.poll_transmit.new.buf.items) ∷ [] in
    let made = c.sends.ensures.made g.S.Session.accepts g.S.Session.sealed (g.S.Session.sealed old.core.session) c.args.now c.args.buf.now.items c.poll_transmit.new.buf.items hello old.handshake c.poll_transmit.new.self
    c.in-Some.sent.size old.core old.is_connected t makes c.requires.whole.sound.handshake some.0 p in
    elim c.if-sent.branch [
      | then-sent w ↦ subst (λ (z : Connection _). Stands g.S.Session.accepts g.S.Session.sealed hello z after) (sym w.self-is)
          (stays g.S.Session.accepts g.S.Session.sealed hello c.poll_transmit.new.self old.core w.on_packet_sent.new.self old.is_connected after
          (turned_made old.core w.on_packet_sent.new.self (packet_sent c.args.now w.on_packet_sent.ensures.value) w.on_packet_sent.ensures.follows w.on_packet_sent.ensures.same_end) made)
      | else-sent w ↦ subst (λ (z : Connection _). Stands g.S.Session.accepts g.S.Session.sealed hello z after) (sym w.self-is) made
    ]

pub returns-clause-whole : goal.returns-clause-whole
returns-clause-whole g c =
    let some = rw (c.in-Some.is, c.session.ensures) at c.in_ok-sent.ensures.some in
    noted_whole c.args.now c.in-Some.sent.is_ack_eliciting (g.S.Session.sealed c.args.self.now.core.session) c.args.self.now c.poll_transmit.new.self c.if-sent.self c.args.buf.now.items
    c.poll_transmit.new.buf.items c.in-Some.sent.size c.requires.whole c.poll_transmit.ensures.whole some.0 (noted_is g c)

pub returns-in_err-sent-clause-same : goal.returns-in_err-sent-clause-same
returns-in_err-sent-clause-same g c =
    same_handshake g.S.Session.key c.args.self.now c.poll_transmit.new.self (unsent_goes c.args.now c.args.self.now.handshake c.poll_transmit.new.self c.in_err-sent.ensures.unsent)

pub returns-in_default-clause-same : goal.returns-in_default-clause-same
returns-in_default-clause-same g c =
    let h = c.args.self.now.handshake in
    let n = c.in_ok-sent.ensures.none c.in_default.is in
    same_handshake g.S.Session.key c.args.self.now c.poll_transmit.new.self (subst (λ (z : Handshake). GoesOn h z) (sym n.1) (same_goes h))

pub returns-clause-same : goal.returns-clause-same
returns-clause-same g c =
    let old = c.args.self.now in
    let h = c.poll_transmit.new.self in
    let some = rw (c.in-Some.is, c.session.ensures) at c.in_ok-sent.ensures.some in
    let next : Connection _ = noted c.args.now c.in-Some.sent.is_ack_eliciting old h in
    same_then g.S.Session.key old next c.if-sent.self (noted_is g c)
    (initial_same g.S.Session.key old h next.core
    (made_goes (g.S.Session.sealed old.core.session) c.args.now c.args.buf.now.items c.poll_transmit.new.buf.items old.handshake h c.in-Some.sent.size some.0) (moment_stays old.core next.core next.core.idle refl))

pub returns-in_err-sent-clause-unsent : goal.returns-in_err-sent-clause-unsent
returns-in_err-sent-clause-unsent g c = any_err _ c.from_residual.result (c.in_err-sent.ensures.unsent, refl)
