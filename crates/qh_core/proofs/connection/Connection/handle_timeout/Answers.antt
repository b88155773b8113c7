use Rattle.qh_core.proofs.MomentsFollow.{timed_out_end, timed_out_follows}
use Rattle.qh_core.proofs.Undisturbed.{timed_out_kept}
use Rattle.qh_core.proofs.connection.Connection.handle_timeout.Goals as goal

pub returns-clause-follows : goal.returns-clause-follows
returns-clause-follows g c = λ t f. timed_out_follows c.args.now.0 c.self.inside.inner c.handle_timeout.new.self t c.handle_timeout.ensures.done c.self.invariant (rw c.self.view_is f)

pub returns-clause-same_end : goal.returns-clause-same_end
returns-clause-same_end g c = rw (← c.self.view_is) (timed_out_end c.args.now.0 c.self.inside.inner c.handle_timeout.new.self c.handle_timeout.ensures.done)

pub returns-clause-kept : goal.returns-clause-kept
returns-clause-kept g c = rw (← c.self.view_is) (timed_out_kept c.args.now.0 c.self.inside.inner c.handle_timeout.new.self c.handle_timeout.ensures.done)
