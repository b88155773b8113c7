use Rattle.std.proofs.Common.{arith}
use Rattle.std.proofs.lemmas.Bool.{not-true, not_from_false}
use Rattle.std.proofs.Common.{sym, ◌∙◌}
use Rattle.qh_recovery.proofs.Window.{new_is, new_lacks}
use Rattle.qh_recovery.proofs.spaces.dedup.Dedup.is_new.Goals as goal

pub returns-then-window_start-number : goal.returns-then-window_start-number
returns-then-window_start-number c =
    let kept = c.self.inside.received in
    let n = c.args.number in
    rw (← c.self.view_is) (λ accepted memory. (
      λ h. new_is accepted kept memory c.next_of.result n c.next_of.ensures.next (omega arith) (sym c.contains.ensures ∙ not-true c.contains.result h),
      λ new. not_from_false c.contains.result (c.contains.ensures ∙ new_lacks accepted kept memory n new),
    ))
