use Rattle.std.proofs.Common.{arith, refl, length}
use Rattle.qh_handshake.proofs.PacketMade.{none_made, packet_made, same_test}
use Rattle.qh_handshake.proofs.initial_space.InitialSpace.write_packet.Goals as goal

pub returns-then-len-start-clause-none : goal.returns-then-len-start-clause-none
returns-then-len-start-clause-none c = λ _.
    let ack = c.in_ok-put_ack.ensures in
    let put = c.in_ok-frames.ensures in
    none_made c.args.now c.args.room _ c.args.self.now c.args.out.now.items c.put_ack.new.out.items c.put_eliciting.new.out.items c.in_ok-frames.frames.items
    c.requires.room c.requires.space (omega (arith, c.len-acked.ensures, c.len-start.ensures)) ack.put ack.some ack.fits put.put put.hello put.fits
    put.some (omega (arith, c.if-len-start.true, c.len.ensures, c.len-start.ensures))

pub returns-clause-some : goal.returns-clause-some
returns-clause-some c =
    let ack = c.in_ok-put_ack.ensures in
    let put = c.in_ok-frames.ensures in
    let sent = c.in_ok-count_sent.ensures.ok in (
      refl,
      omega (arith, c.if-self-eq-PACKET_NUMBERS.false, c.requires.space.bound),
      packet_made c.args.now c.args.room _ c.args.self.now c.args.out.now.items c.put_ack.new.out.items c.put_eliciting.new.out.items c.in_ok-frames.frames.items
          c.requires.room c.requires.space (omega (arith, c.len-acked.ensures, c.len-start.ensures)) ack.put ack.some ack.fits put.put put.hello put.fits
          c.count_sent.new.self sent.0 _ sent.1 sent.2 sent.3
          (same_test c.len-acked.result c.len-2.result (length c.put_ack.new.out.items) (length c.put_eliciting.new.out.items) (omega (arith, c.len-acked.ensures)) (omega (arith, c.len-2.ensures))) sent.4 (λ same. c.if-len-start.false (omega (arith, same, c.len.ensures, c.len-start.ensures))) put.read_back,
    )
