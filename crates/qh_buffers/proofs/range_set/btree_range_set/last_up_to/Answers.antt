use Rattle.std.proofs.Common.{sym, ◌∙◌}
use Rattle.qh_buffers.proofs.PairedLists.{up_to_is}
use Rattle.qh_buffers.proofs.range_set.btree_range_set.last_up_to.Goals as goal

pub returns-clause-last : goal.returns-clause-last
returns-clause-last c = (c.next_back.new.self, sym (up_to_is c.args.number c.args.ranges.now.entries) ∙ sym (c.range.ensures.between tt) ∙ c.in_ok-start.ensures.steps)
