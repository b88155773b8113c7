use Rattle.std.proofs.Common.{◌∙◌}
use Rattle.qh_core.proofs.Turned.{turned_end, turned_follows}
use Rattle.qh_core.specs.Made.IsTurned.{failed}
use Rattle.qh_core.proofs.connection.Connection.fail.Goals as goal

pub returns-clause-follows : goal.returns-clause-follows
returns-clause-follows g c = λ t f. turned_follows c.self.inside.inner c.fail.new.self (failed c.fail.ensures.failed (c.fail.ensures.counts.0 ∙ c.stats-stats.ensures.recovery.0) (c.fail.ensures.counts.1 ∙ c.stats-stats.ensures.recovery.1)) c.self.invariant t (rw c.self.view_is f)

pub returns-clause-same_end : goal.returns-clause-same_end
returns-clause-same_end g c = rw (← c.self.view_is) (turned_end c.self.inside.inner c.fail.new.self (failed c.fail.ensures.failed (c.fail.ensures.counts.0 ∙ c.stats-stats.ensures.recovery.0) (c.fail.ensures.counts.1 ∙ c.stats-stats.ensures.recovery.1)))
