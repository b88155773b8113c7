use Rattle.std.proofs.Common.{◌≡◌, length}
use Rattle.qh_recovery.specs.PendingAcks.{last_ranges}
use Rattle.qh_recovery.proofs.spaces.pending_acks.forget_least.Given as goal

abbrev pub invariant-loop-ranges : goal.invariant-loop-ranges
invariant-loop-ranges l = last_ranges l.ranges ≡ last_ranges l.fn.ranges

abbrev pub decreases-loop-ranges : goal.decreases-loop-ranges
decreases-loop-ranges l = length l.ranges
