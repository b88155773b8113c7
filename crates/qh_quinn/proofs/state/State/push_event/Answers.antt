use Rattle.std.proofs.Common.{refl, ap}
use Rattle.qh_conn.specs.Items.{came}
use Rattle.qh_quinn.proofs.KeptCalls.{still_kept}
use Rattle.qh_quinn.proofs.StatesKept.{HasSameRest, kept, kept_state, rest_by}
use Rattle.qh_quinn.specs.declared.inner.StateInner.{StateInner}
use Rattle.qh_quinn.proofs.state.State.push_event.Goals as goal

pub invariant_of-self : goal.invariant_of-self
invariant_of-self g c =
    let s = c.self.inside.inner in
    let to = c.push_event.new.self in
    let is = c.push_event.ensures.rest in
    let rest : HasSameRest s to = rest_by s to (record s { events = to.events; driver = to.driver }) is (record { is_connected = refl; readers = λ k. refl; stable_id = refl; error = refl; handles = refl; interests = λ i. refl }) in
    let same = ap (λ (z : StateInner _). z.connection) is in
    (kept_state s to rest same c.self.invariant.0, still_kept s to c.self.inside.history (kept s to rest same) (ap came same) rest.handles c.self.invariant.1)
