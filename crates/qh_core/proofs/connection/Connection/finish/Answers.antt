use Rattle.qh_core.proofs.StreamsGo.{called, call_follows}
use Rattle.qh_core.proofs.WriterCalls.{finish_call}
use Rattle.qh_core.specs.Follows.{finish_acts}
use Rattle.qh_core.proofs.connection.Connection.finish.Goals as goal

pub invariant_of-self : goal.invariant_of-self
invariant_of-self g c = called c.self.inside.inner c.finish.new.self (finish_acts c.args.id.0 c.finish.result) (finish_call c.self.inside.inner.space.streams c.finish.new.self c.args.id.0 c.finish.result c.finish.ensures.ok c.finish.ensures.fault c.finish.ensures.keeps_out) c.self.invariant

pub returns-clause-follows : goal.returns-clause-follows
returns-clause-follows g c = λ t f. call_follows c.self.inside.inner c.finish.new.self (finish_acts c.args.id.0 c.finish.result) t (finish_call c.self.inside.inner.space.streams c.finish.new.self c.args.id.0 c.finish.result c.finish.ensures.ok c.finish.ensures.fault c.finish.ensures.keeps_out) c.self.invariant (rw c.self.view_is f)
