use Rattle.std.proofs.Common.{sym, ◌∙◌}
use Rattle.qh_quinn.proofs.Moving.{none_at}
use Rattle.qh_quinn.proofs.Settling.{none_lost, waits_if_open}
use Rattle.qh_quinn.proofs.inner.StateInner.waits.Goals as goal

pub returns-then-is_some : goal.returns-then-is_some
returns-then-is_some g c = none_lost c.args.self.now c.args.interest (sym c.is_some.ensures ∙ c.if-is_some.true)

pub waits_open-requires-clause-none : goal.waits_open-requires-clause-none
waits_open-requires-clause-none g c = none_at c.args.self.now.error (sym c.is_some.ensures ∙ c.if-is_some.false)

pub returns : goal.returns
returns g c = waits_if_open c.args.self.now c.args.interest c.waits_open.result (sym c.is_some.ensures ∙ c.if-is_some.false) c.waits_open.ensures
