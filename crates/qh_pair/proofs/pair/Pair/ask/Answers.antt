use Rattle.std.proofs.Common.{ap, ◌∙◌}
use Rattle.qh_pair.specs.Pair.{PairState}
use Rattle.qh_pair.proofs.PairFirst.{asks_run, asked_running}
use Rattle.qh_pair.proofs.pair.Pair.ask.Goals as goal

pub invariant_of-self : goal.invariant_of-self
invariant_of-self c = (
  c.self.invariant.0,
  asks_run _ _ (ap (λ (z : PairState). z.client_end) c.self.view_is ∙ c.requires.once.1) c.ask.ensures.asking c.ask.ensures.unused.0 c.ask.ensures.places c.self.invariant.1,
)

pub returns-clause-running : goal.returns-clause-running
returns-clause-running c =
    rw (← c.self.view_is)
    (λ events entries run. asked_running _ _ events entries (ap (λ (z : PairState). z.client_end) c.self.view_is ∙ c.requires.once.1) c.ask.ensures.asking c.ask.ensures.unused.0 run)
