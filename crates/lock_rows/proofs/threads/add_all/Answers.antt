use Rattle.std.proofs.Common.{◌∙◌}
use Rattle.lock_rows.proofs.Runs.{ran_more}
use Rattle.lock_rows.proofs.threads.add_all.Goals as goal

pub loop-number-preserved : goal.loop-number-preserved
loop-number-preserved g c =
    let i = c.loop-number.invariant in
    (c.add.ensures.free.0, c.add.ensures.free.1 ∙ i.1, ran_more c.args.seat c.loop-number.seat c.add.new.seat c.args.thread c.args.from c.loop-number.number c.in-Ok.field-0 i.2 c.in-Ok.ensures.call)
