use Rattle.std.proofs.Common.{◌∙◌, ap, is_some}
use Rattle.qh_quinn.proofs.Settling.{holds}
use Rattle.qh_quinn.proofs.inner.StateInner.holds.Goals as goal

pub returns : goal.returns
returns g c = λ b shown. c.is_some.ensures ∙ (ap is_some c.get.ensures ∙ holds c.args.self.now c.args.id.0 b shown)
