use Rattle.qh_recovery.specs.SentPackets.{NoneIs, IsOverdue}
use Rattle.qh_recovery.proofs.sent_packets.SentPackets.first_lost.Given as goal

abbrev pub invariant-loop-number : goal.invariant-loop-number
invariant-loop-number g l = NoneIs (IsOverdue l.number l.now.0 l.delay.0) l.self
