use Rattle.qh_recovery.specs.SentPackets.{IsWithin}
use Rattle.qh_handshake.proofs.PacketsTaken.{one_more_taken, smaller, taken_at_end}
use Rattle.qh_handshake.proofs.settled.take_range.Goals as goal

pub loop-packet-smaller : goal.loop-packet-smaller
loop-packet-smaller c = smaller (IsWithin c.args.range.least c.args.range.greatest) c.loop-packet.sent c.take_acked.new.self c.in-Some.field-0-0 c.in-Some.packet c.in-Some.ensures.some

pub loop-packet-preserved : goal.loop-packet-preserved
loop-packet-preserved c =
    one_more_taken (IsWithin c.args.range.least c.args.range.greatest) c.args.sent.now c.loop-packet.sent c.take_acked.new.self c.loop-packet.has_hello c.is_empty.result c.in-Some.field-0-0 c.in-Some.packet
    c.loop-packet.invariant c.in-Some.ensures.some c.in-Some.ensures.packets c.is_empty.ensures

pub returns : goal.returns
returns c =
    let none = c.take_acked.ensures.none c.in_default.is in
    let end = taken_at_end (IsWithin c.args.range.least c.args.range.greatest) c.args.sent.now c.loop-packet.sent c.loop-packet.has_hello c.loop-packet.invariant none.0 in
    rw none.1 (end.taken, end.packets, end.count, end.bears)
