use Rattle.std.proofs.Common.{sym, ◌∙◌}
use Rattle.qh_core.proofs.Moments.{earlier_first}
use Rattle.qh_core.proofs.Timeouts.{first_closed, first_open, idle_first, loss_first, probe_first}
use Rattle.qh_core.proofs.inner.Inner.poll_timeout.Goals as goal

pub returns-then-not-is_open : goal.returns-then-not-is_open
returns-then-not-is_open g c = first_closed c.args.self.now c.ends_at.result (sym c.is_open.ensures ∙ c.if-not-is_open.true) c.ends_at.ensures

pub returns : goal.returns
returns g c =
    let self = c.args.self.now in
    let loss = loss_first self.space c.loss_at.result c.loss_at.ensures.none c.loss_at.ensures.some in
    let probe = probe_first self.space c.probe_at.result c.probe_at.ensures in
    let idle = idle_first self.idle self.space.rtt c.ends_at-2.result c.ends_at-2.ensures in
    let recovery = c.earlier-recovery.ensures in
    let all = c.earlier.ensures in
    first_open self c.earlier.result (sym c.is_open.ensures ∙ c.if-not-is_open.false)
    (earlier_first _ _ c.ends_at-2.result c.earlier-recovery.result c.earlier.result idle
    (earlier_first _ _ c.loss_at.result c.probe_at.result c.earlier-recovery.result loss probe recovery.none recovery.one recovery.first)
    all.none all.one all.first)
