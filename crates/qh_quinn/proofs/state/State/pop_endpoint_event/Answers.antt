use Rattle.std.proofs.Common.{ap}
use Rattle.qh_quinn.proofs.CallLogs.{came_by, tells_endpoint}
use Rattle.qh_quinn.proofs.KeptCalls.{still_kept}
use Rattle.qh_quinn.specs.declared.inner.StateInner.{StateInner}
use Rattle.qh_quinn.proofs.state.State.pop_endpoint_event.Goals as goal

pub invariant_of-self : goal.invariant_of-self
invariant_of-self g c =
    let s = c.self.inside.inner in
    let to = c.pop_endpoint_event.new.self in
    let e = c.pop_endpoint_event.ensures in
    (e.kept.state, still_kept s to c.self.inside.history e.kept.each (came_by s.connection to.connection (tells_endpoint _ s.connection to.connection e.told)) (ap (λ (z : StateInner _). z.handles) e.rest) c.self.invariant.1)
