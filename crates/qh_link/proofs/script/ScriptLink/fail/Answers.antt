use Rattle.std.proofs.Common.{arith}
use Rattle.qh_link.proofs.Kept.{kept_fault, sends_below, counts_one}
use Rattle.qh_link.proofs.script.ScriptLink.fail.Goals as goal

pub overflow_add-self : goal.overflow_add-self
overflow_add-self c =
    let v = c.self.inside.events in omega (arith, sends_below c.self.invariant, v.ok.0, v.ok.1, v.small)

pub invariant_of-self-2 : goal.invariant_of-self-2
invariant_of-self-2 c =
    rw c.in_ok-push.ensures.items (kept_fault c.self.invariant (rw (← c.self.view_is) at c.requires))

pub returns-clause-counts : goal.returns-clause-counts
returns-clause-counts c = rw (← c.self.view_is) (counts_one _ _ (omega arith) (omega arith))
