use Rattle.qh_core.proofs.Timeouts.{probe_first, probe_due}
use Rattle.qh_core.proofs.inner.timeouts.probe.Goals as goal

pub returns-then-is_due-clause-probed : goal.returns-then-is_due-clause-probed
returns-then-is_due-clause-probed c =
    probe_due c.args.now.0 c.args.space.now c.queue_probe.new.self c.probe_at.result (probe_first c.args.space.now c.probe_at.result c.probe_at.ensures)
    (c.is_due.ensures.yes c.if-is_due.true) c.queue_probe.ensures.due
