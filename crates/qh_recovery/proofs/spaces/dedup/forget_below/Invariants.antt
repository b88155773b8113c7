use Rattle.std.proofs.Common.{◌≡◌, length}
use Rattle.qh_recovery.specs.Accepted.{without_below}
use Rattle.qh_recovery.proofs.spaces.dedup.forget_below.Given as goal

abbrev pub invariant-loop-range : goal.invariant-loop-range
invariant-loop-range l = without_below l.floor l.ranges ≡ without_below l.floor l.fn.ranges

abbrev pub decreases-loop-range : goal.decreases-loop-range
decreases-loop-range l = length l.ranges
