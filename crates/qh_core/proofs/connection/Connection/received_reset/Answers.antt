use Rattle.qh_core.proofs.ReaderCalls.{told_call}
use Rattle.qh_core.proofs.StreamsGo.{called, call_follows}
use Rattle.qh_core.specs.Follows.{received_reset_acts}
use Rattle.qh_core.proofs.connection.Connection.received_reset.Goals as goal

pub invariant_of-self : goal.invariant_of-self
invariant_of-self g c = called c.self.inside.inner c.received_reset.new.self (received_reset_acts c.args.id.0 c.received_reset.result) (told_call c.self.inside.inner.space.streams c.received_reset.new.self c.args.id.0 c.received_reset.result c.received_reset.ensures.ok c.received_reset.ensures.fault c.received_reset.ensures.keeps_out) c.self.invariant

pub returns-clause-follows : goal.returns-clause-follows
returns-clause-follows g c = λ t f. call_follows c.self.inside.inner c.received_reset.new.self (received_reset_acts c.args.id.0 c.received_reset.result) t (told_call c.self.inside.inner.space.streams c.received_reset.new.self c.args.id.0 c.received_reset.result c.received_reset.ensures.ok c.received_reset.ensures.fault c.received_reset.ensures.keeps_out) c.self.invariant (rw c.self.view_is f)
