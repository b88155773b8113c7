use Rattle.std.proofs.Common.{◌∙◌, refl}
use Rattle.qh_handshake.specs.declared.initial_space.HelloFrame.{HelloFrame}
use Rattle.qh_handshake.proofs.PacketMade.{eliciting_space, made_bare, made_eliciting}
use Rattle.qh_handshake.proofs.PacketsTaken.{bears_if}
use Rattle.qh_handshake.proofs.initial_space.InitialSpace.count_sent.Goals as goal
use Rattle.qh_recovery.specs.declared.sent_packets.SentPacket.{SentPacket}

pub returns-then-not-is_ack_eliciting-clause-ok : goal.returns-then-not-is_ack_eliciting-clause-ok
returns-then-not-is_ack_eliciting-clause-ok c =
    let packet : SentPacket HelloFrame = record { time_sent = c.args.now; size = 1200; frames = c.args.frames } in
    (packet, refl, refl, refl, c.count_number.ensures ∙ made_bare c.args.self.now packet c.args.is_ack_eliciting _ c.args.now c.if-not-is_ack_eliciting.true)

pub returns-clause-ok : goal.returns-clause-ok
returns-clause-ok c =
    let packet : SentPacket HelloFrame = record { time_sent = c.args.now; size = 1200; frames = c.args.frames } in (
      packet,
      refl,
      refl,
      refl,
      made_eliciting c.args.self.now c.count_eliciting.new.self c.count_number-2.new.self c.insert.new.self packet c.args.is_ack_eliciting _ c.args.now c.if-not-is_ack_eliciting.false
          (bears_if packet c.is_empty-has_hello.result c.is_empty-has_hello.ensures) c.in_ok-insert.ensures.ok c.count_eliciting.ensures c.count_number-2.ensures,
    )

pub returns-clause-space : goal.returns-clause-space
returns-clause-space c =
    let packet : SentPacket HelloFrame = record { time_sent = c.args.now; size = 1200; frames = c.args.frames } in
    eliciting_space c.args.self.now c.count_eliciting.new.self c.count_number-2.new.self c.insert.new.self packet c.args.is_ack_eliciting _ c.args.now c.if-not-is_ack_eliciting.false
    (bears_if packet c.is_empty-has_hello.result c.is_empty-has_hello.ensures) c.in_ok-insert.ensures.ok c.count_eliciting.ensures c.count_number-2.ensures
    c.in_ok-insert.ensures.packets c.requires.space c.requires.bound
