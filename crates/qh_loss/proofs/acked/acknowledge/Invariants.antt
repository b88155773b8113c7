use Rattle.std.proofs.Common.{length}
use Rattle.qh_recovery.specs.SentPackets.{IsWithin}
use Rattle.qh_loss.proofs.AckTaken.{AreAckedSoFar}
use Rattle.qh_loss.proofs.acked.acknowledge.Given as goal

abbrev pub invariant-loop-packet : goal.invariant-loop-packet
invariant-loop-packet l = AreAckedSoFar (IsWithin l.fn.range.least l.fn.range.greatest) l.fn.sent l.sent l.fn.streams l.streams l.fn.congestion l.congestion l.fn.log l.log l.is_any

abbrev pub decreases-loop-packet : goal.decreases-loop-packet
decreases-loop-packet l = length l.sent
