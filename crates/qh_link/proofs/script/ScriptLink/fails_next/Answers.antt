use Rattle.std.proofs.Common.{arith}
use Rattle.qh_link.proofs.Kept.{sends_below}
use Rattle.qh_link.proofs.script.ScriptLink.fails_next.Goals as goal

pub overflow_add-self-inside : goal.overflow_add-self-inside
overflow_add-self-inside c =
    let v = c.self.inside.events in omega (arith, sends_below c.self.invariant, v.ok.0, v.ok.1, v.small)
