use Rattle.std.proofs.Common.{MatchOption}
use Rattle.qh_recovery.specs.SentPackets.{NoneIs, IsBelow, IsLossTime}
use Rattle.qh_recovery.proofs.sent_packets.SentPackets.loss_time.Given as goal

abbrev pub invariant-loop-number : goal.invariant-loop-number
invariant-loop-number g l = MatchOption l.earliest (NoneIs (IsBelow l.number) l.self) (λ t. IsLossTime l.self l.number l.delay.0 t.0)
