use Rattle.qh_core.proofs.ReaderCalls.{stop_call}
use Rattle.qh_core.proofs.StreamsGo.{called, call_follows}
use Rattle.qh_core.specs.Follows.{stop_acts}
use Rattle.qh_core.proofs.connection.Connection.stop.Goals as goal

pub invariant_of-self : goal.invariant_of-self
invariant_of-self g c = called c.self.inside.inner c.stop.new.self (stop_acts c.args.id.0 c.args.code c.stop.result) (stop_call c.self.inside.inner.space.streams c.stop.new.self c.args.id.0 c.args.code c.stop.result c.stop.ensures.ok c.stop.ensures.fault c.stop.ensures.keeps_out) c.self.invariant

pub returns-clause-follows : goal.returns-clause-follows
returns-clause-follows g c = λ t f. call_follows c.self.inside.inner c.stop.new.self (stop_acts c.args.id.0 c.args.code c.stop.result) t (stop_call c.self.inside.inner.space.streams c.stop.new.self c.args.id.0 c.args.code c.stop.result c.stop.ensures.ok c.stop.ensures.fault c.stop.ensures.keeps_out) c.self.invariant (rw c.self.view_is f)
