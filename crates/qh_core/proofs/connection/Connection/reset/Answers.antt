use Rattle.qh_core.proofs.StreamsGo.{called, call_follows}
use Rattle.qh_core.proofs.WriterCalls.{reset_call}
use Rattle.qh_core.specs.Follows.{reset_by_acts}
use Rattle.qh_core.proofs.connection.Connection.reset.Goals as goal

pub invariant_of-self : goal.invariant_of-self
invariant_of-self g c = called c.self.inside.inner c.reset.new.self (reset_by_acts c.args.id.0 c.args.code c.reset.result) (reset_call c.self.inside.inner.space.streams c.reset.new.self c.args.id.0 c.args.code c.reset.result c.reset.ensures.ok c.reset.ensures.fault c.reset.ensures.keeps_out) c.self.invariant

pub returns-clause-follows : goal.returns-clause-follows
returns-clause-follows g c = λ t f. call_follows c.self.inside.inner c.reset.new.self (reset_by_acts c.args.id.0 c.args.code c.reset.result) t (reset_call c.self.inside.inner.space.streams c.reset.new.self c.args.id.0 c.args.code c.reset.result c.reset.ensures.ok c.reset.ensures.fault c.reset.ensures.keeps_out) c.self.invariant (rw c.self.view_is f)
