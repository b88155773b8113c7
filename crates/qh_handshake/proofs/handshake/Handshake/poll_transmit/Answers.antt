use Rattle.std.proofs.Common.{List, ℕ, refl, subst, sym, ap, ◌∙◌, inl, inr, Option, Some}
use Rattle.qh_handshake.proofs.HeldKept.{made_whole}
use Rattle.qh_buffers.proofs.AssemblerReads.{at_err}
use Rattle.qh_handshake.proofs.Unsent.{packet_lost, packet_sent}
use Rattle.qh_handshake.specs.Handshake.{IsHandshake}
use Rattle.qh_handshake.specs.Outgoing.IsSilent.{quiet, exhausted}
use Rattle.qh_handshake.specs.declared.initial_space.InitialSpace.{InitialSpace}
use Rattle.qh_handshake.proofs.handshake.Handshake.poll_transmit.Goals as goal

pub returns-in_default-2-clause-none : goal.returns-in_default-2-clause-none
returns-in_default-2-clause-none g c = λ _.
    let none = c.in_ok-made.ensures.none c.in_default-2.is in (
      refl {A = List ℕ},
      ap (λ (s : InitialSpace). record c.args.self.now { space = Some s }) none.1 ∙ ap (λ (o : Option InitialSpace). record c.args.self.now { space = o }) (sym c.in-Some.is),
      elim none.2 [
        | inl last ↦ exhausted c.in-Some.space c.in-Some.is last
        | inr nothing ↦ quiet c.in-Some.space c.in-Some.is nothing
      ],
    )

pub returns-clause-some : goal.returns-clause-some
returns-clause-some g c =
    packet_sent (g.S.Session.sealed c.args.session.now) c.args.now c.room-room.result c.args.self.now c.append.new.self c.in-Some.space c.write_packet.new.self c.new-frames.result.items c.write_packet.new.out.items
    c.deref.result.now c.args.buf.now.items c.append.new.buf.items c.least_size-least.result c.in_ok-size.size c.in_ok-made.field-0 c.in-Some-2.made c.in-Some-2.is c.in_ok-made.ensures.some c.in-Some.is
    (sym c.is_limited.ensures ∙ c.if-is_limited.false) c.room-room.ensures.value c.new-frames.ensures.items c.deref.ensures.value c.least_size-least.ensures c.in_ok-size.ensures.put c.in_ok-size.ensures.size
    c.in_ok-size.ensures.tag c.room-room.ensures.ids c.in_ok-size.ensures.rest

pub returns-clause-whole : goal.returns-clause-whole
returns-clause-whole g c = subst IsHandshake (sym c.in_ok-size.ensures.rest)
    (made_whole c.args.now c.room-room.result c.args.self.now c.in-Some.space c.write_packet.new.self c.new-frames.result.items c.write_packet.new.out.items _ c.in_ok-made.field-0 c.in-Some-2.made c.in-Some-2.is
    c.in_ok-made.ensures.some c.in_ok-made.ensures.space c.requires c.in-Some.is)

pub returns-in_err-size-clause-whole : goal.returns-in_err-size-clause-whole
returns-in_err-size-clause-whole g c = subst IsHandshake (sym c.in_err-size.ensures.kept)
    (made_whole c.args.now c.room-room.result c.args.self.now c.in-Some.space c.write_packet.new.self c.new-frames.result.items c.write_packet.new.out.items c.args.self.now.bytes_sent c.in_ok-made.field-0 c.in-Some-2.made
    c.in-Some-2.is c.in_ok-made.ensures.some c.in_ok-made.ensures.space c.requires c.in-Some.is)

pub returns-in_err-size-clause-unsent : goal.returns-in_err-size-clause-unsent
returns-in_err-size-clause-unsent g c =
    at_err c.from_residual-in_err-size.result _
    (packet_lost c.args.now c.room-room.result c.args.self.now c.append.new.self c.in-Some.space c.write_packet.new.self c.new-frames.result.items c.write_packet.new.out.items c.in_ok-made.field-0 c.in-Some-2.made
    c.in-Some-2.is c.in_ok-made.ensures.some c.in-Some.is (sym c.is_limited.ensures ∙ c.if-is_limited.false) c.room-room.ensures.value c.new-frames.ensures.items c.in_err-size.ensures.kept)
