use Rattle.std.proofs.Common.{◌≡◌, ◌+◌, ◌-◌, ◌<◌, ◌^◌, arith, refl}
use Rattle.qh_recovery.specs.declared.sent_packets.SentPacket.{SentPacket}
use Rattle.qh_space.proofs.PacketMade.{next_kept, space_made, packet_made, space_kept, none_made}
use Rattle.qh_space.proofs.data_space.DataSpace.write_packet.Goals as goal
use Rattle.qh_streams.specs.declared.frames.SentFrame.{SentFrame}

pub returns-then-len-start-clause-none : goal.returns-then-len-start-clause-none
returns-then-len-start-clause-none c = λ _.
    let packet : SentPacket SentFrame = record { time_sent = c.args.now; size = 0; frames = c.in_ok-frames.frames } in
    let put = c.in_ok-frames.ensures in
    let ack = c.in_ok-put_ack.ensures in
    none_made _ c.args.self.now c.put_eliciting.new.self c.put_ack.new.out.items c.put_eliciting.new.out.items packet put.put put.none
    c.args.out.now.items ack.put ack.some put.fits.0 (omega (arith, c.if-len-start.true, c.len.ensures, c.len-start.ensures)) put.idle

pub returns-then-len-start-clause-space : goal.returns-then-len-start-clause-space
returns-then-len-start-clause-space c =
    let packet : SentPacket SentFrame = record { time_sent = c.args.now; size = 0; frames = c.in_ok-frames.frames } in
    let put = c.in_ok-frames.ensures in
    let ack = c.in_ok-put_ack.ensures in
    space_kept _ c.args.self.now c.put_eliciting.new.self c.put_ack.new.out.items c.put_eliciting.new.out.items packet put.put put.none
    c.args.out.now.items ack.put ack.some put.fits.0 (omega (arith, c.if-len-start.true, c.len.ensures, c.len-start.ensures)) c.requires.space put.out put.keeps_out

pub returns-clause-some : goal.returns-clause-some
returns-clause-some c =
    let packet : SentPacket SentFrame = record { time_sent = c.args.now; size = c.args.overhead + (c.len-2.result - c.len-start.result); frames = c.in_ok-frames.frames } in
    let put = c.in_ok-frames.ensures in
    let ack = c.in_ok-put_ack.ensures in
    let sent = c.in_ok-count_sent.ensures in
    let below : c.args.self.now.next_number < 2 ^ 62 = omega (arith, c.if-self-eq-PACKET_NUMBERS.false, c.requires.space.bound) in
    let number : c.put_eliciting.new.self.next_number ≡ c.args.self.now.next_number = next_kept _ c.args.self.now c.put_eliciting.new.self c.put_ack.new.out.items c.put_eliciting.new.out.items packet put.put put.none in (
      number,
      omega (arith, number, below),
      packet_made _ c.args.self.now c.put_eliciting.new.self c.put_ack.new.out.items c.put_eliciting.new.out.items packet put.put put.none c.count_sent.new.self below
          _ _ (omega (arith, c.len-acked.ensures)) (omega (arith, c.len-3.ensures)) sent.ok sent.packets
          c.args.now.0 c.args.overhead c.args.room c.args.out.now.items ack.put (omega (arith, c.len-acked.ensures, c.len-start.ensures)) refl (omega (arith, c.len-2.ensures, c.len-start.ensures)) (omega (arith, c.if-len-start.false, ack.fits, put.fits)) (omega (arith, ack.fits, put.fits))
          (λ wide may. put.shared (omega (arith, wide, ack.fits, c.len-acked.ensures, c.len-start.ensures)) may),
    )

pub returns-clause-space : goal.returns-clause-space
returns-clause-space c =
    let packet : SentPacket SentFrame = record { time_sent = c.args.now; size = c.args.overhead + (c.len-2.result - c.len-start.result); frames = c.in_ok-frames.frames } in
    let put = c.in_ok-frames.ensures in
    let sent = c.in_ok-count_sent.ensures in
    let below : c.args.self.now.next_number < 2 ^ 62 = omega (arith, c.if-self-eq-PACKET_NUMBERS.false, c.requires.space.bound) in
    space_made _ c.args.self.now c.put_eliciting.new.self c.put_ack.new.out.items c.put_eliciting.new.out.items packet put.put put.none c.count_sent.new.self below
    _ _ (omega (arith, c.len-acked.ensures)) (omega (arith, c.len-3.ensures)) sent.ok sent.packets
    c.requires.space put.out put.keeps_out
