use Rattle.std.proofs.Common.{◌≡◌, arith}
use Rattle.qh_recovery.proofs.SentLists.{time_more}
use Rattle.qh_recovery.proofs.sent_packets.SentPackets.loss_time.Goals as goal

pub loop-number-preserved : goal.loop-number-preserved
loop-number-preserved g c =
    let step = c.earlier-earliest.ensures in
    time_more c.args.self.now c.loop-number.number c.args.delay.0 c.loop-number.earliest c.overdue_at.result c.earlier-earliest.result c.overdue_at.ensures step.none step.other step.both c.loop-number.invariant

pub returns : goal.returns
returns g c =
    let at_end : c.loop-number.number ≡ c.args.largest_acked = omega (arith, c.saturating_sub-number.ensures) in
    rw at_end at c.loop-number.invariant
