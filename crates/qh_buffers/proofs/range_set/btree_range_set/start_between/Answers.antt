use Rattle.std.proofs.Common.{sym, ◌∙◌}
use Rattle.qh_buffers.proofs.ClippedRanges.{between_is}
use Rattle.qh_buffers.proofs.range_set.btree_range_set.start_between.Goals as goal

pub returns-in_err-start-clause-none : goal.returns-in_err-start-clause-none
returns-in_err-start-clause-none c = λ _.
    sym (between_is c.args.from c.args.to c.args.ranges.now.entries) ∙ sym (c.range.ensures.between tt) ∙ c.in_err-start.ensures.steps.0
