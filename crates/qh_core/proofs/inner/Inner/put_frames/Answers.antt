use Rattle.std.proofs.Common.{refl, sym, ◌∙◌}
use Rattle.qh_core.proofs.DatagramMade.{silent}
use Rattle.qh_core.proofs.inner.Inner.put_frames.Goals as goal

pub returns-clause-none : goal.returns-clause-none
returns-clause-none g c = λ _.
    silent c.args.self.now c.args.self.now.state refl (sym c.is_open.ensures ∙ c.if-is_open.false) (sym c.is_close_due.ensures ∙ c.if-is_close_due.false)
