use Rattle.std.proofs.Common.{sym, ◌∙◌}
use Rattle.qh_recovery.proofs.Window.{front_stays}
use Rattle.qh_recovery.proofs.spaces.dedup.forget_below.Goals as goal

pub returns-then-floor-range : goal.returns-then-floor-range
returns-then-floor-range c =
    sym (front_stays c.args.floor c.loop-range.ranges _ c.in-Some.ensures c.if-floor-range.true) ∙ c.loop-range.invariant
