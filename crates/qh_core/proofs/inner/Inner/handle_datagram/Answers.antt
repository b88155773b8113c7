use Rattle.std.proofs.Common.{inl, inr, refl, ap}
use Rattle.qh_core.proofs.Opened.{has_opened}
use Rattle.qh_core.proofs.PacketSteps.{closed_space}
use Rattle.qh_core.specs.Inner.{is_open}
use Rattle.qh_core.specs.Receiving.IsDatagramTaken.{draining, drained, handled}
use Rattle.qh_core.proofs.inner.Inner.handle_datagram.Goals as goal

pub returns-in-Closed-clause-ok : goal.returns-in-Closed-clause-ok
returns-in-Closed-clause-ok g c = c.take_closed.ensures.taken c.args.now

pub returns-in-Closed-clause-none : goal.returns-in-Closed-clause-none
returns-in-Closed-clause-none g c = λ _.
    closed_space (g.S.Session.accepts c.args.self.now.session) c.args.now c.args.datagram.now c.args.self.now c.take_closed.new.self (c.take_closed.ensures.taken c.args.now) (ap is_open c.in-Closed.is)

pub returns-in-Draining-clause-ok : goal.returns-in-Draining-clause-ok
returns-in-Draining-clause-ok g c = elim c.in-Draining.is [ inl w ↦ draining w.0 w.1 refl | inr is ↦ drained is refl ]

pub returns-in_default-clause-has : goal.returns-in_default-clause-has
returns-in_default-clause-has g c = λ _ number bytes frames opened are. absurd (c.in_default.ensures.none number bytes opened)

pub returns-in_default-handle_packet-clause-has : goal.returns-in_default-handle_packet-clause-has
returns-in_default-handle_packet-clause-has g c = λ _.
    has_opened (g.S.Session.accepts c.args.self.now.session) c.args.self.now c.args.datagram.now c.in-Some.packet.number c.in-Some.packet.frames.now c.in-Some.ensures.some.0 c.in-Some.ensures.has

pub returns-in_default-handle_packet-clause-wanting : goal.returns-in_default-handle_packet-clause-wanting
returns-in_default-handle_packet-clause-wanting g c = record {
  opened = rw c.in-Established.is refl;
  number = c.in-Some.packet.number;
  frames = c.in-Some.packet.frames.now;
  is = c.in-Some.ensures.some.0;
  unread = c.in_default-handle_packet.ensures.wanting;
}

pub returns-clause-ok : goal.returns-clause-ok
returns-clause-ok g c = handled c.in-Some.packet.number c.in-Some.packet.frames.now (rw c.in-Established.is refl) c.in-Some.ensures.some.0 c.in-Ok.ensures.ok

pub returns-clause-brings : goal.returns-clause-brings
returns-clause-brings g c =
    let is = rw c.in-Some-accepted.is at c.in-Ok.ensures.accepted in
    (record { opened = rw c.in-Established.is refl; number = c.in-Some.packet.number; is = c.in-Some.ensures.some.0; is_new = is.0; taken = is.1.0 }, is.1.1)

pub returns-clause-has : goal.returns-clause-has
returns-clause-has g c = λ _.
    has_opened (g.S.Session.accepts c.args.self.now.session) c.args.self.now c.args.datagram.now c.in-Some.packet.number c.in-Some.packet.frames.now c.in-Some.ensures.some.0 c.in-Some.ensures.has

pub returns-in_default-accepted-clause-ok : goal.returns-in_default-accepted-clause-ok
returns-in_default-accepted-clause-ok g c = handled c.in-Some.packet.number c.in-Some.packet.frames.now (rw c.in-Established.is refl) c.in-Some.ensures.some.0 c.in-Ok.ensures.ok

pub returns-in_default-accepted-clause-has : goal.returns-in_default-accepted-clause-has
returns-in_default-accepted-clause-has g c = λ _.
    has_opened (g.S.Session.accepts c.args.self.now.session) c.args.self.now c.args.datagram.now c.in-Some.packet.number c.in-Some.packet.frames.now c.in-Some.ensures.some.0 c.in-Some.ensures.has
