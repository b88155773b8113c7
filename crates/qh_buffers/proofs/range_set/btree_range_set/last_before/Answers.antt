use Rattle.std.proofs.Common.{sym, ◌∙◌}
use Rattle.qh_buffers.proofs.PairedLists.{before_is}
use Rattle.qh_buffers.proofs.range_set.btree_range_set.last_before.Goals as goal

pub returns-clause-last : goal.returns-clause-last
returns-clause-last c = (c.next_back.new.self, sym (before_is c.args.number c.args.ranges.now.entries) ∙ sym (c.range.ensures.between tt) ∙ c.in_ok-start.ensures.steps)
