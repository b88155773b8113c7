use Rattle.std.proofs.Common.{[]}
use Rattle.qh_core.proofs.StreamsGo.{called, quiet_follows}
use Rattle.qh_core.proofs.QuietCalls.{concurrent_call}
use Rattle.qh_streams.specs.Streams.{is_two_way}
use Rattle.qh_core.proofs.connection.Connection.set_max_concurrent_streams.Goals as goal

pub invariant_of-self : goal.invariant_of-self
invariant_of-self g c = called c.self.inside.inner c.set_max_concurrent.new.self [] (concurrent_call c.self.inside.inner.space.streams c.set_max_concurrent.new.self (is_two_way c.args.dir) c.into_inner.result c.set_max_concurrent.ensures.value c.set_max_concurrent.ensures.keeps_out) c.self.invariant

pub returns-clause-follows : goal.returns-clause-follows
returns-clause-follows g c = λ t f. quiet_follows c.self.inside.inner c.set_max_concurrent.new.self t (concurrent_call c.self.inside.inner.space.streams c.set_max_concurrent.new.self (is_two_way c.args.dir) c.into_inner.result c.set_max_concurrent.ensures.value c.set_max_concurrent.ensures.keeps_out) c.self.invariant (rw c.self.view_is f)
