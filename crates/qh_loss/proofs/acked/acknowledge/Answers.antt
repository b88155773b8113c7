use Rattle.std.proofs.Common.{arith, ap, length}
use Rattle.qh_recovery.specs.SentPackets.{IsWithin}
use Rattle.qh_streams.proofs.ItemLogs.{less_room}
use Rattle.qh_loss.proofs.FramesOut.{Packets, taken_apart}
use Rattle.qh_loss.proofs.TakenOut.{one_fewer}
use Rattle.qh_loss.proofs.AckTaken.{none_acked_yet, one_more_acked, acked_at_end, packet_room}
use Rattle.qh_loss.proofs.acked.acknowledge.Goals as goal

pub loop-packet-init : goal.loop-packet-init
loop-packet-init c = none_acked_yet (IsWithin c.args.range.least c.args.range.greatest) c.args.sent.now c.args.streams.now c.args.congestion.now c.args.log.now c.requires.owed c.requires.room

pub acked_all-requires-clause-out : goal.acked_all-requires-clause-out
acked_all-requires-clause-out c =
    let found = c.in-Some.ensures.some.0 in
    (taken_apart c.loop-packet.streams c.loop-packet.sent c.in-Some.field-0-0 c.in-Some.packet found.is_out c.loop-packet.invariant.owed).own

pub acked_all-requires-clause-room : goal.acked_all-requires-clause-room
acked_all-requires-clause-room c =
    let found = c.in-Some.ensures.some in
    less_room c.loop-packet.log (length c.in-Some.packet.frames.items) _ (omega arith)
    (packet_room c.loop-packet.log c.loop-packet.sent c.take_acked.new.self c.in-Some.field-0-0 c.in-Some.packet found.0.is_out found.1 c.loop-packet.invariant.room)

pub loop-packet-smaller : goal.loop-packet-smaller
loop-packet-smaller c =
    let found = c.in-Some.ensures.some in
    let fewer = one_fewer c.loop-packet.sent c.in-Some.field-0-0 c.in-Some.packet found.0.is_out in
    let count = ap (λ (l : Packets). length l) found.1 in
    omega (arith, fewer, count)

pub loop-packet-preserved : goal.loop-packet-preserved
loop-packet-preserved c =
    let found = c.in-Some.ensures.some in
    one_more_acked (IsWithin c.args.range.least c.args.range.greatest) c.args.sent.now c.loop-packet.sent c.take_acked.new.self c.args.streams.now c.loop-packet.streams c.acked_all.new.self
    c.args.congestion.now c.loop-packet.congestion c.on_ack.new.self c.args.log.now c.loop-packet.log c.acked_all.new.log c.loop-packet.is_any c.loop-packet.invariant
    c.in-Some.field-0-0 c.in-Some.packet found.0 found.1 c.in-Some.ensures.packets c.on_ack.ensures c.acked_all.ensures.acked c.acked_all.ensures.keeps_out c.acked_all.ensures.confirmed
    (c.acked_all.ensures.room _ (packet_room c.loop-packet.log c.loop-packet.sent c.take_acked.new.self c.in-Some.field-0-0 c.in-Some.packet found.0.is_out found.1 c.loop-packet.invariant.room))

pub returns-clause-taken : goal.returns-clause-taken
returns-clause-taken c =
    let none = c.take_acked.ensures.none c.in_default.is in
    rw none.1 (acked_at_end (IsWithin c.args.range.least c.args.range.greatest) c.args.sent.now c.loop-packet.sent c.args.streams.now c.loop-packet.streams
    c.args.congestion.now c.loop-packet.congestion c.args.log.now c.loop-packet.log c.loop-packet.is_any c.loop-packet.invariant none.0)

pub returns-clause-room : goal.returns-clause-room
returns-clause-room c = let none = c.take_acked.ensures.none c.in_default.is in rw none.1 c.loop-packet.invariant.room
