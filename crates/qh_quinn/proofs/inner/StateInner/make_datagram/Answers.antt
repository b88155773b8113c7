use Rattle.std.proofs.Common.{◌≡◌, true, false, [], refl, sym, ◌∙◌}
use Rattle.qh_quinn.proofs.Handling.{unsaid}
use Rattle.qh_quinn.proofs.SendingOn.{filled_by}
use Rattle.qh_quinn.proofs.Sendings.{any_ended, made_none, never_made, sending_made, sending_none, sending_still, sent_brings, unsent_brings}
use Rattle.qh_quinn.specs.Turning.{IsFilled, ended}
use Rattle.qh_quinn.proofs.inner.StateInner.make_datagram.Goals as goal

pub returns-then-is_some-clause-sending : goal.returns-then-is_some-clause-sending
returns-then-is_some-clause-sending g c =
    let s = c.args.self.now in
    let h = sending_still g.S.Session.accepts g.S.Session.sealed s c.requires.whole (record { items = []; brings = c.events_bring.ensures.none s.connection }) c.args.now in
    (h.0, λ is. h.1, filled_by g.S.Session.sealed c.args.now h.0.made s.connection s.connection h.1)

pub returns-in_err-self-clause-sending : goal.returns-in_err-self-clause-sending
returns-in_err-self-clause-sending g c =
    let s = c.args.self.now in
    let new = c.poll_transmit.new.self in
    let e = c.in_err-self.ensures in
    let h =
    sending_none g.S.Session.accepts g.S.Session.sealed (ended c.from_residual.result) s (record s { connection = new; send_buffer = c.poll_transmit.new.buf }) refl refl (sym c.is_some.ensures ∙ c.if-is_some.false) e.whole
    (λ law. e.carries (law.names s.connection.core.session) (law.makes s.connection.core.session))
    (any_ended c.from_residual.result s.connection new c.from_residual.ensures.0
    (unsent_brings c.wants_bring.ensures.unsent c.wants_bring.ensures.closing c.args.now s.connection e.unsent.0 new c.requires.whole e.whole c.requires.calm e.unsent.1 e.unsent.2 e.closing))
    e.same.ended
    in
    (h, λ is. never_made c.from_residual.result c.from_residual.ensures.0 is, unsaid c.from_residual.result (IsFilled g.S.Session.sealed c.args.now h.made s.connection new) c.from_residual.ensures.0)

pub returns-clause-sending : goal.returns-clause-sending
returns-clause-sending g c =
    let s = c.args.self.now in
    let new = c.poll_transmit.new.self in
    let buf = c.poll_transmit.new.buf in
    let e = c.in_ok-self.ensures in
    let o = c.in_ok-self.field-0 in
    let h =
    sending_made g.S.Session.accepts g.S.Session.sealed c.args.now s (record s { connection = new; outgoing = o; send_buffer = buf }) c.clear.new.self.items refl (sym c.is_some.ensures ∙ c.if-is_some.false) c.clear.ensures.items e.whole
    (λ law. e.carries (law.names s.connection.core.session) (law.makes s.connection.core.session))
    (sent_brings c.sends_bring.ensures.sent c.sends_bring.ensures.silent (g.S.Session.sealed s.connection.core.session) c.args.now s.connection new c.clear.new.self.items buf.items o c.requires.whole e.some (λ none. (e.none none).2))
    e.same.ended e.some (λ none. ((e.none none).1, (e.none none).2))
    in
    (h.0, λ is. let some : c.is_some-2.result ≡ true = cc in h.1 (sym c.is_some-2.ensures ∙ some), h.2)

pub returns-clause-none : goal.returns-clause-none
returns-clause-none g c is =
    let s = c.args.self.now in
    let e = c.in_ok-self.ensures in
    let none : c.is_some-2.result ≡ false = cc in
    made_none (record s { connection = c.poll_transmit.new.self; outgoing = c.in_ok-self.field-0; send_buffer = c.poll_transmit.new.buf }) s.connection (sym c.is_some-2.ensures ∙ none) (λ o. ((e.none o).1, (e.none o).2))
