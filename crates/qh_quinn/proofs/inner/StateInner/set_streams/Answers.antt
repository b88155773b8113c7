use Rattle.std.proofs.Common.{sym, subst}
use Rattle.qh_quinn.proofs.StatesKept.{rest_self}
use Rattle.qh_quinn.proofs.ValueCalls.{sets_count}
use Rattle.qh_quinn.specs.Acting.{IsChanged}
use Rattle.qh_quinn.specs.declared.inner.StateInner.{StateInner}
use Rattle.qh_quinn.proofs.inner.StateInner.set_streams.Goals as goal

pub returns-clause-changed : goal.returns-clause-changed
returns-clause-changed g c =
    let e = c.set_max_concurrent_streams.ensures in
    subst (λ (z : StateInner _). IsChanged (λ b. b) c.args.self.now z) (sym c.wake.ensures)
    (sets_count c.args.self.now _ c.args.dir c.args.count (λ s notes b shown. c.first_shown.ensures.concurrent s notes b c.args.dir c.args.count shown) c.requires e.whole (rest_self c.args.self.now)
    (record { core = e.core; rest = e.early }))
