use Rattle.qh_quinn.proofs.Settling.{held_waits, to_read, unheld_waits}
use Rattle.qh_quinn.proofs.inner.StateInner.waits_to_read.Goals as goal

pub returns-then-not-holds : goal.returns-then-not-holds
returns-then-not-holds g c = λ b shown. unheld_waits c.holds.result (b.readers c.args.id.0) _ c.if-not-holds.true (c.holds.ensures b shown)

pub returns : goal.returns
returns g c = λ b shown. held_waits c.holds.result (b.readers c.args.id.0) c.is_read_blocked.result _ c.if-not-holds.false (c.holds.ensures b shown)
    (to_read c.args.self.now c.args.id.0 c.args.is_ordered c.is_read_blocked.result c.requires.state c.requires.none c.is_read_blocked.ensures.yes c.is_read_blocked.ensures.no c.reads_on.ensures b shown)
