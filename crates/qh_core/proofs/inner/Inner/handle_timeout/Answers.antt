use Rattle.std.proofs.Common.{refl, sym, ◌∙◌}
use Rattle.qh_core.specs.Timers.IsTimedOut.{recovery}
use Rattle.qh_core.proofs.Timeouts.{idle_later, recovered}
use Rattle.qh_core.proofs.inner.Inner.handle_timeout.Goals as goal

pub returns-clause-done : goal.returns-clause-done
returns-clause-done g c =
    recovery c.detect_lost.new.space (sym c.is_open.ensures ∙ c.if-not-is_open.false)
    (idle_later c.args.now.0 c.args.self.now c.ends_at.result c.ends_at.ensures (c.is_due.ensures.no c.if-is_due.false)) c.detect_lost.ensures.lost c.probe.ensures.probed refl

pub returns-clause-connection : goal.returns-clause-connection
returns-clause-connection g c =
    recovered c.args.now.0 c.args.self.now c.detect_lost.new.space c.probe.new.space c.requires (sym c.is_open.ensures ∙ c.if-not-is_open.false)
    c.detect_lost.ensures.lost c.probe.ensures.probed c.probe.ensures.space
