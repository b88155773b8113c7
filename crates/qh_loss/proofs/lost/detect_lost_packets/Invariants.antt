use Rattle.std.proofs.Common.{length}
use Rattle.qh_recovery.specs.SentPackets.{IsLost}
use Rattle.qh_loss.proofs.LostTaken.{AreLostSoFar}
use Rattle.qh_loss.proofs.lost.detect_lost_packets.Given as goal

abbrev pub invariant-loop-number : goal.invariant-loop-number
invariant-loop-number l = AreLostSoFar (IsLost l.fn.largest_acked l.fn.now.0 l.fn.delay.0) l.fn.next_number l.fn.sent l.sent l.fn.streams l.streams l.fn.congestion l.congestion

abbrev pub decreases-loop-number : goal.decreases-loop-number
decreases-loop-number l = length l.sent
