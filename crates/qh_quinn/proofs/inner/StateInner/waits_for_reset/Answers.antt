use Rattle.qh_quinn.proofs.Settling.{for_reset, held_waits, unheld_waits}
use Rattle.qh_quinn.proofs.inner.StateInner.waits_for_reset.Goals as goal

pub returns-then-not-holds : goal.returns-then-not-holds
returns-then-not-holds g c = λ b shown. unheld_waits c.holds.result (b.readers c.args.id.0) _ c.if-not-holds.true (c.holds.ensures b shown)

pub returns : goal.returns
returns g c = λ b shown. held_waits c.holds.result (b.readers c.args.id.0) c.awaits_reset.result _ c.if-not-holds.false (c.holds.ensures b shown)
    (for_reset c.args.self.now c.args.id.0 c.awaits_reset.result c.requires.state c.requires.none c.awaits_reset.ensures b shown)
