use Rattle.std.proofs.Common.{sym, ◌∙◌}
use Rattle.qh_buffers.proofs.PairedLists.{above_is}
use Rattle.qh_buffers.proofs.range_set.btree_range_set.first_above.Goals as goal

pub returns-clause-first : goal.returns-clause-first
returns-clause-first c = (c.next.new.self, sym (above_is c.args.number c.args.ranges.now.entries) ∙ sym (c.range.ensures.between tt) ∙ c.in_ok-start.ensures.steps)
