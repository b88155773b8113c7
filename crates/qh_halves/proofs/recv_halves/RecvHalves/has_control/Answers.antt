use Rattle.std.proofs.Common.{sym, ◌∙◌}
use Rattle.qh_halves.proofs.RecvHalvesStepped.{none_is_due, of_none}
use Rattle.qh_halves.proofs.recv_halves.RecvHalves.has_control.Goals as goal

pub returns : goal.returns
returns c = λ none. rw (← c.self.view_is) (none_is_due _ _ _ _ _ c.self.invariant (of_none c.first.result _ _ (sym c.is_some.ensures ∙ none) c.first.ensures))
