use Rattle.std.proofs.Common.{◌-◌, arith, ap, length}
use Rattle.qh_recovery.specs.SentPackets.{IsLost}
use Rattle.qh_loss.proofs.FramesOut.{Packets, taken_apart}
use Rattle.qh_loss.proofs.TakenOut.{one_fewer}
use Rattle.qh_loss.proofs.LostTaken.{none_lost_yet, one_more_lost, lost_at_end}
use Rattle.qh_loss.proofs.lost.detect_lost_packets.Goals as goal

pub loop-number-init : goal.loop-number-init
loop-number-init c = none_lost_yet (IsLost c.args.largest_acked c.args.now.0 c.args.delay.0) c.args.next_number c.args.sent.now c.args.streams.now c.args.congestion.now c.requires

pub lost_all-requires : goal.lost_all-requires
lost_all-requires c =
    let found = c.in-Some.ensures.some.0 in
    (taken_apart c.loop-number.streams c.loop-number.sent c.in-Some.number c.in-Some.packet found.is_out c.loop-number.invariant.owed).own

pub loop-number-smaller : goal.loop-number-smaller
loop-number-smaller c =
    let found = c.in-Some.ensures.some in
    let fewer = one_fewer c.loop-number.sent c.in-Some.number c.in-Some.packet found.0.is_out in
    let count = ap (λ (l : Packets). length l) found.1 in
    omega (arith, fewer, count)

pub loop-number-preserved : goal.loop-number-preserved
loop-number-preserved c =
    let found = c.in-Some.ensures.some in
    one_more_lost (IsLost c.args.largest_acked c.args.now.0 c.args.delay.0) c.args.next_number c.args.sent.now c.loop-number.sent c.take_lost.new.self c.args.streams.now c.loop-number.streams c.lost_all.new.self
    c.args.congestion.now c.loop-number.congestion c.on_loss.new.self c.loop-number.invariant
    c.in-Some.number c.in-Some.packet found.0 found.1 c.in-Some.ensures.packets c.on_loss.ensures.value c.lost_all.ensures.lost c.lost_all.ensures.keeps_out

pub returns-clause-taken : goal.returns-clause-taken
returns-clause-taken c =
    let none = c.take_lost.ensures.none c.in_default.is in
    let count = ap (λ (l : Packets). length l) none.1 in
    let before = c.len-before.ensures in
    let after = c.len.ensures in
    rw none.1 (lost_at_end c.args.largest_acked c.args.now.0 c.args.delay.0 c.args.next_number c.args.sent.now c.loop-number.sent c.args.streams.now c.loop-number.streams
    c.args.congestion.now c.loop-number.congestion (c.len-before.result - c.len.result) c.loop-number.invariant none.0 (omega (arith, count, before, after)))
