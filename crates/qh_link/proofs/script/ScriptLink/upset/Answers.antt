use Rattle.qh_link.proofs.Kept.{kept_upset}
use Rattle.qh_link.proofs.script.ScriptLink.upset.Goals as goal

pub invariant_of-self-2 : goal.invariant_of-self-2
invariant_of-self-2 c =
    rw c.in_ok-push.ensures.items (kept_upset c.self.invariant (rw (← c.self.view_is) at c.requires.unused) c.args.upset c.requires.valid)
