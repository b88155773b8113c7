use Rattle.qh_core.proofs.Following.{polled_follows, polled_end}
use Rattle.qh_core.proofs.Undisturbed.{polled_kept}
use Rattle.qh_core.proofs.connection.Connection.poll.Goals as goal

pub returns-clause-follows : goal.returns-clause-follows
returns-clause-follows g c = λ t f. polled_follows c.self.inside.inner c.poll.new.self c.poll.result t c.poll.ensures.told c.self.invariant (rw c.self.view_is f)

pub returns-clause-same_end : goal.returns-clause-same_end
returns-clause-same_end g c = rw (← c.self.view_is) (polled_end c.self.inside.inner c.poll.new.self c.poll.result c.poll.ensures.told)

pub returns-clause-kept : goal.returns-clause-kept
returns-clause-kept g c = rw (← c.self.view_is) (polled_kept c.self.inside.inner c.poll.new.self c.poll.result c.poll.ensures.told)
