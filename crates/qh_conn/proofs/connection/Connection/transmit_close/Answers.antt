use Rattle.std.proofs.Common.{◌≡◌, ◌∷◌, [], List, Option, None, Some, true, false, length, drop, ℕ, ◌++◌, refl, sym, ap, subst, ◌∙◌, inr}
use Rattle.qh_base.specs.declared.connection_error.ConnectionClose.{ConnectionClose}
use Rattle.qh_base.specs.declared.path.Transmit.{Transmit}
use Rattle.qh_base.specs.declared.time.Moment.{Moment}
use Rattle.qh_conn.proofs.OutCarries.{err_carries, nothing_more}
use Rattle.qh_conn.proofs.OutWhole.{handshake_whole}
use Rattle.qh_conn.specs.Outgoing.{IsInitialClose, IsTransmitted, handed_on}
use Rattle.qh_conn.specs.Outgoing.IsTransmitted.{close}
use Rattle.qh_conn.specs.declared.connection.Connection.{Connection}
use Rattle.qh_converse.specs.Converses.{Converses}
use Rattle.qh_converse.proofs.MidDatagram.{stays}
use Rattle.qh_core.proofs.MadeEnds.{turned_made}
use Rattle.qh_core.specs.Inner.{counted, is_open}
use Rattle.qh_core.specs.Made.IsTurned.{close_told}
use Rattle.qh_core.specs.Sending.{without_close_due}
use Rattle.qh_core.specs.declared.inner.Inner.{Inner}
use Rattle.qh_core.specs.declared.state.Close.{Close}
use Rattle.qh_core.specs.declared.state.State.{State}
use Rattle.qh_core.specs.declared.state.State.TheVariants.{Established, Closed, Draining, Drained}
use Rattle.qh_handshake.specs.Outgoing.{IsCloseMade}
use Rattle.qh_handshake.specs.declared.handshake.Handshake.{Handshake}
use Rattle.qh_handshake.specs.declared.initial_space.InitialSpace.{InitialSpace}
use Rattle.qh_packet.specs.Session.{SealsTag}
use Rattle.qh_spec.specs.Transcript.{HandedOut}
use Rattle.qh_conn.proofs.SameParts.{initial_same}
use Rattle.qh_conn.proofs.Same.{same_handshake, same_self, told_stays}
use Rattle.qh_handshake.proofs.GoingOn.{close_goes, close_unsent_goes, same_goes}
use Rattle.qh_handshake.specs.GoesOn.{GoesOn}
use Rattle.qh_conn.proofs.Noted.{any_err}
use Rattle.qh_conn.proofs.connection.Connection.transmit_close.Goals as goal

-- the end is closed still
still_shut : (state : State) → is_open state ≡ false → is_open (without_close_due state) ≡ false
still_shut Established shut = shut
still_shut (Closed _ _ _) shut = refl
still_shut (Draining _) shut = refl
still_shut Drained shut = refl

no_space : (old new : Option InitialSpace) (s : InitialSpace) → old ≡ Some s → old ≡ None → new ≡ None
no_space old new s some none = let z : None ≡ Some s = sym none ∙ some in cc

module _ {S : Type 0} where
  transmitted : (sealed : SealsTag) (now : Moment) (old : Connection S) (h : Handshake) (core : Inner S) (before after : List ℕ) (t : Transmit) (reason : Close) (until : Moment) (said : ConnectionClose)
      (size : ℕ) → old.is_connected ≡ false → old.core.state ≡ Closed reason true until → IsInitialClose reason said → IsCloseMade sealed said old.handshake h before after size
      → core ≡ record old.core { state = without_close_due old.core.state } → t ≡ record { destination = core.addresses.remote; size = size; src_ip = core.addresses.local_ip }
      → IsTransmitted sealed now old (handed_on t.size (record old { handshake = h; core = core })) before after t
  transmitted sealed now old h core before after t reason until said size early shut says made core_is t_is =
      close reason until said early shut says
      (subst (λ (z : ℕ). IsCloseMade sealed said old.handshake h before after z) (sym (ap (λ (z : Transmit). z.size) t_is)) made)
      (ap (λ (z : Inner S). record old { handshake = h; core = z; udp_tx = counted t.size old.udp_tx }) core_is)
      (record {
        counted_is = refl;
        destination = ap (λ (z : Transmit). z.destination) t_is ∙ ap (λ (z : Inner S). z.addresses.remote) core_is;
        source = ap (λ (z : Transmit). z.src_ip) t_is ∙ ap (λ (z : Inner S). z.addresses.local_ip) core_is;
      })

pub returns-in_err-sent-clause-carries : goal.returns-in_err-sent-clause-carries
returns-in_err-sent-clause-carries g c = λ named makes hello t p.
    err_carries g.S.Session.accepts g.S.Session.sealed c.args.buf.now.items c.transmit_close.new.buf.items hello c.from_residual.result c.transmit_close.new.self c.args.self.now.core c.args.self.now.is_connected t c.from_residual.ensures.0
    (c.sends.ensures.close_unsent g.S.Session.accepts g.S.Session.sealed hello c.args.self.now.handshake c.transmit_close.new.self c.args.self.now.core c.args.self.now.is_connected t c.in_err-sent.ensures.unsent p)

pub returns-in_default-sent-clause-none : goal.returns-in_default-sent-clause-none
returns-in_default-sent-clause-none g c = λ _.
    let n = c.in_ok-sent.ensures.none c.in_default-sent.is in
    (n.0, ap (λ (z : Handshake). record c.args.self.now { handshake = z }) n.1, inr n.2)

pub returns-in_default-sent-clause-carries : goal.returns-in_default-sent-clause-carries
returns-in_default-sent-clause-carries g c = λ named makes hello t p.
    let n = c.in_ok-sent.ensures.none c.in_default-sent.is in
    nothing_more g.S.Session.accepts g.S.Session.sealed hello c.transmit_close.new.self c.args.self.now.core c.args.self.now.is_connected t
    (subst (λ (z : Handshake). Converses g.S.Session.accepts g.S.Session.sealed hello z c.args.self.now.core c.args.self.now.is_connected t) (sym n.1) p)

pub returns-clause-some : goal.returns-clause-some
returns-clause-some g c = λ now.
    transmitted (g.S.Session.sealed c.args.self.now.core.session) now c.args.self.now c.transmit_close.new.self c.close_told.new.self c.args.buf.now.items c.transmit_close.new.buf.items
    c.transmit_of.result c.in-Some.close.now c.in-Some.ensures.0 c.initial_close-close.result c.in-Some-sent.size c.requires.early c.in-Some.ensures.1 c.initial_close-close.ensures
    (rw (c.in-Some-sent.is, c.session.ensures) at c.in_ok-sent.ensures.some) c.close_told.ensures.value c.transmit_of.ensures

pub returns-clause-carries : goal.returns-clause-carries
returns-clause-carries g c = λ named makes hello t p.
    let old = c.args.self.now in
    let made = rw (c.in-Some-sent.is, c.session.ensures) at c.in_ok-sent.ensures.some in
    let after = t ++ HandedOut (drop (length c.args.buf.now.items) c.transmit_close.new.buf.items) ∷ [] in
    let told = turned_made old.core c.close_told.new.self (close_told c.close_told.ensures.value) c.close_told.ensures.follows c.close_told.ensures.same_end in
    stays g.S.Session.accepts g.S.Session.sealed hello c.transmit_close.new.self old.core c.close_told.new.self old.is_connected after told
    (c.sends.ensures.close g.S.Session.accepts g.S.Session.sealed (g.S.Session.sealed old.core.session) c.initial_close-close.result c.args.buf.now.items c.transmit_close.new.buf.items hello old.handshake
    c.transmit_close.new.self c.in-Some-sent.size old.core old.is_connected t makes c.requires.whole.sound.handshake made p)

pub returns-clause-whole : goal.returns-clause-whole
returns-clause-whole g c =
    let old = c.args.self.now in
    let made = rw (c.in-Some-sent.is, c.session.ensures) at c.in_ok-sent.ensures.some in
    handshake_whole old c.transmit_close.new.self c.close_told.new.self c.requires.whole c.transmit_close.ensures.whole (ap (λ (z : Handshake). z.side) made.new_is)
    (ap (λ (z : Handshake). z.local_id) made.new_is) (ap (λ (z : Handshake). z.peer) made.new_is)
    (λ none. no_space old.handshake.space c.transmit_close.new.self.space made.space made.space_is none) c.close_told.ensures.same_end
    (λ shut. subst (λ (z : Inner _). is_open z.state ≡ false) (sym c.close_told.ensures.value) (still_shut old.core.state shut)) (ap (λ (z : Inner _). z.space.log) c.close_told.ensures.value)

pub returns-in_default-clause-same : goal.returns-in_default-clause-same
returns-in_default-clause-same g c = same_self g.S.Session.key c.args.self.now

pub returns-in_err-sent-clause-same : goal.returns-in_err-sent-clause-same
returns-in_err-sent-clause-same g c =
    same_handshake g.S.Session.key c.args.self.now c.transmit_close.new.self (close_unsent_goes c.args.self.now.handshake c.transmit_close.new.self c.in_err-sent.ensures.unsent)

pub returns-in_default-sent-clause-same : goal.returns-in_default-sent-clause-same
returns-in_default-sent-clause-same g c =
    let h = c.args.self.now.handshake in
    let n = c.in_ok-sent.ensures.none c.in_default-sent.is in
    same_handshake g.S.Session.key c.args.self.now c.transmit_close.new.self (subst (λ (z : Handshake). GoesOn h z) (sym n.1) (same_goes h))

pub returns-clause-same : goal.returns-clause-same
returns-clause-same g c =
    let old = c.args.self.now in
    let made = rw (c.in-Some-sent.is, c.session.ensures) at c.in_ok-sent.ensures.some in
    initial_same g.S.Session.key old c.transmit_close.new.self c.close_told.new.self
    (close_goes (g.S.Session.sealed old.core.session) c.initial_close-close.result c.args.buf.now.items c.transmit_close.new.buf.items old.handshake c.transmit_close.new.self c.in-Some-sent.size made)
    (told_stays old.core c.close_told.new.self c.close_told.ensures.value)

pub returns-in_err-sent-clause-unsent : goal.returns-in_err-sent-clause-unsent
returns-in_err-sent-clause-unsent g c = any_err _ c.from_residual.result (c.in_err-sent.ensures.unsent, refl)
