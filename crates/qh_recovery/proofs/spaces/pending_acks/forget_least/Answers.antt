use Rattle.std.proofs.Common.{◌∙◌, arith}
use Rattle.qh_recovery.proofs.LastRanges.{least_goes}
use Rattle.qh_recovery.proofs.spaces.pending_acks.forget_least.Goals as goal

pub loop-ranges-preserved : goal.loop-ranges-preserved
loop-ranges-preserved c =
    least_goes c.loop-ranges.ranges c.pop_min.new.self c.pop_min.result (omega arith) c.pop_min.ensures ∙ c.loop-ranges.invariant
