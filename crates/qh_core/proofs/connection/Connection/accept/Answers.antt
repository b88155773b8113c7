use Rattle.std.proofs.Common.{[]}
use Rattle.qh_core.proofs.StreamsGo.{called, quiet_follows}
use Rattle.qh_core.proofs.QuietCalls.{accepted_call}
use Rattle.qh_core.proofs.connection.Connection.accept.Goals as goal

pub invariant_of-self : goal.invariant_of-self
invariant_of-self g c = called c.self.inside.inner c.accept.new.self [] (accepted_call c.self.inside.inner.space.streams c.accept.new.self c.args.dir c.accept.result c.accept.ensures.some c.accept.ensures.none c.accept.ensures.keeps_out) c.self.invariant

pub returns-clause-follows : goal.returns-clause-follows
returns-clause-follows g c = λ t f. quiet_follows c.self.inside.inner c.accept.new.self t (accepted_call c.self.inside.inner.space.streams c.accept.new.self c.args.dir c.accept.result c.accept.ensures.some c.accept.ensures.none c.accept.ensures.keeps_out) c.self.invariant (rw c.self.view_is f)
