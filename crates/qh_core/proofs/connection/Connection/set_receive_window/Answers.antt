use Rattle.std.proofs.Common.{[]}
use Rattle.qh_core.proofs.StreamsGo.{called, quiet_follows}
use Rattle.qh_core.proofs.QuietCalls.{receive_window_call}
use Rattle.qh_core.proofs.connection.Connection.set_receive_window.Goals as goal

pub invariant_of-self : goal.invariant_of-self
invariant_of-self g c = called c.self.inside.inner c.set_receive_window.new.self [] (receive_window_call c.self.inside.inner.space.streams c.set_receive_window.new.self c.into_inner.result c.set_receive_window.ensures.value c.set_receive_window.ensures.keeps_out) c.self.invariant

pub returns-clause-follows : goal.returns-clause-follows
returns-clause-follows g c = λ t f. quiet_follows c.self.inside.inner c.set_receive_window.new.self t (receive_window_call c.self.inside.inner.space.streams c.set_receive_window.new.self c.into_inner.result c.set_receive_window.ensures.value c.set_receive_window.ensures.keeps_out) c.self.invariant (rw c.self.view_is f)
