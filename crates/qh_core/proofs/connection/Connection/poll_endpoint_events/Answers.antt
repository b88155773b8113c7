use Rattle.qh_core.proofs.Following.{drained_follows, drained_end}
use Rattle.qh_core.proofs.connection.Connection.poll_endpoint_events.Goals as goal

pub returns-clause-follows : goal.returns-clause-follows
returns-clause-follows g c = λ t f. drained_follows c.self.inside.inner c.poll_endpoint_events.new.self c.poll_endpoint_events.result t c.poll_endpoint_events.ensures.told (rw c.self.view_is f)

pub returns-clause-same_end : goal.returns-clause-same_end
returns-clause-same_end g c = rw (← c.self.view_is) (drained_end c.self.inside.inner c.poll_endpoint_events.new.self c.poll_endpoint_events.result c.poll_endpoint_events.ensures.told)
