use Rattle.std.proofs.Common.{rules}
use Rattle.qh_h3.proofs.Skipping.{skips_one, skips_then}
use Rattle.qh_h3.proofs.frame.find.find.Goals as goal

pub loop-frame-preserved : goal.loop-frame-preserved
loop-frame-preserved c =
    skips_then c.args.of_body c.args.held.now c.loop-frame.held c.next_step.new.held c.loop-frame.invariant
    (skips_one c.args.of_body c.loop-frame.held c.next_step.new.held c.in-Skipped.ensures.step)
