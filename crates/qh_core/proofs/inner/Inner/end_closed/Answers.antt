use Rattle.std.proofs.Common.{refl, sym, ◌∙◌}
use Rattle.qh_core.proofs.Timeouts.{ended, not_ended}
use Rattle.qh_core.proofs.inner.Inner.end_closed.Goals as goal

pub returns-then-is_due-clause-done : goal.returns-then-is_due-clause-done
returns-then-is_due-clause-done g c =
    let came = c.is_due.ensures.yes c.if-is_due.true in
    ended c.args.now.0 c.args.self.now c.args.self.now.state came.0 refl (sym c.ends_at.ensures ∙ came.1) came.2

pub returns-else-is_due-clause-done : goal.returns-else-is_due-clause-done
returns-else-is_due-clause-done g c =
    not_ended c.args.now.0 c.args.self.now c.args.self.now.state refl c.requires.closed (λ t e. c.is_due.ensures.no c.if-is_due.false t (c.ends_at.ensures ∙ e))
