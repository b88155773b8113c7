use Rattle.std.proofs.Common.{[]}
use Rattle.qh_core.proofs.StreamsGo.{called, quiet_follows}
use Rattle.qh_core.proofs.WriterCalls.{priority_call}
use Rattle.qh_core.proofs.connection.Connection.set_priority.Goals as goal

pub invariant_of-self : goal.invariant_of-self
invariant_of-self g c = called c.self.inside.inner c.set_priority.new.self [] (priority_call c.self.inside.inner.space.streams c.set_priority.new.self c.args.id.0 _ c.set_priority.result c.set_priority.ensures.ok c.set_priority.ensures.fault c.set_priority.ensures.keeps_out) c.self.invariant

pub returns-clause-follows : goal.returns-clause-follows
returns-clause-follows g c = λ t f. quiet_follows c.self.inside.inner c.set_priority.new.self t (priority_call c.self.inside.inner.space.streams c.set_priority.new.self c.args.id.0 _ c.set_priority.result c.set_priority.ensures.ok c.set_priority.ensures.fault c.set_priority.ensures.keeps_out) c.self.invariant (rw c.self.view_is f)
