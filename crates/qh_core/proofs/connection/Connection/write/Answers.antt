use Rattle.qh_core.proofs.StreamsGo.{called, call_follows}
use Rattle.qh_core.proofs.WriterCalls.{write_call}
use Rattle.qh_core.specs.Follows.{write_acts}
use Rattle.qh_core.proofs.connection.Connection.write.Goals as goal

pub invariant_of-self : goal.invariant_of-self
invariant_of-self g c = called c.self.inside.inner c.write.new.self (write_acts c.args.id.0 c.args.payload.now c.write.result) (write_call c.self.inside.inner.space.streams c.write.new.self c.args.id.0 c.args.payload.now c.write.result c.write.ensures.count c.write.ensures.ok c.write.ensures.taken c.write.ensures.fault c.write.ensures.keeps_out) c.self.invariant

pub returns-clause-follows : goal.returns-clause-follows
returns-clause-follows g c = λ t f. call_follows c.self.inside.inner c.write.new.self (write_acts c.args.id.0 c.args.payload.now c.write.result) t (write_call c.self.inside.inner.space.streams c.write.new.self c.args.id.0 c.args.payload.now c.write.result c.write.ensures.count c.write.ensures.ok c.write.ensures.taken c.write.ensures.fault c.write.ensures.keeps_out) c.self.invariant (rw c.self.view_is f)
