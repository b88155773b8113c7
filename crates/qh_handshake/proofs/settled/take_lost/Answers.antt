use Rattle.std.proofs.Common.{arith, ap, length}
use Rattle.qh_recovery.specs.SentPackets.{IsLost}
use Rattle.qh_handshake.specs.Settled.{Packets}
use Rattle.qh_handshake.proofs.PacketsTaken.{one_more_taken, smaller, taken_at_end}
use Rattle.qh_handshake.proofs.settled.take_lost.Goals as goal

pub loop-packet-smaller : goal.loop-packet-smaller
loop-packet-smaller c = smaller (IsLost c.args.largest_acked c.args.now.0 c.args.delay.0) c.loop-packet.sent c.take_lost.new.self c.in-Some.field-0-0 c.in-Some.packet c.in-Some.ensures.some

pub loop-packet-preserved : goal.loop-packet-preserved
loop-packet-preserved c =
    one_more_taken (IsLost c.args.largest_acked c.args.now.0 c.args.delay.0) c.args.sent.now c.loop-packet.sent c.take_lost.new.self c.loop-packet.has_hello c.is_empty.result c.in-Some.field-0-0 c.in-Some.packet
    c.loop-packet.invariant c.in-Some.ensures.some c.in-Some.ensures.packets c.is_empty.ensures

pub returns : goal.returns
returns c =
    let none = c.take_lost.ensures.none c.in_default.is in
    let end = taken_at_end (IsLost c.args.largest_acked c.args.now.0 c.args.delay.0) c.args.sent.now c.loop-packet.sent c.loop-packet.has_hello c.loop-packet.invariant none.0 in
    let same = ap (λ (l : Packets). length l) none.1 in
    rw none.1 (end.taken, end.packets, omega (arith, same, end.count, c.len-before.ensures, c.len.ensures), end.bears)
