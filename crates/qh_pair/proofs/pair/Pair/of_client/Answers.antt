use Rattle.std.proofs.Common.{refl, ap, sym, ◌∙◌}
use Rattle.qh_roles.specs.Server.{PlainServer}
use Rattle.qh_pair.proofs.PairFirst.{first_running, runs_first, run_first, first_soundly}
use Rattle.qh_pair.proofs.pair.Pair.of_client.Goals as goal

pub invariant_of-result : goal.invariant_of-result
invariant_of-result c = (
  c.of.ensures.lengths.1 ∙ sym c.of.ensures.lengths.0,
  run_first _ refl refl c.requires.asking c.requires.unopened c.requires.places c.new.ensures.serving (ap (λ (z : PlainServer). z.accepted) c.new.ensures.value),
)

pub returns-clause-running : goal.returns-clause-running
returns-clause-running c =
    let accepted = ap (λ (z : PlainServer). z.accepted) c.new.ensures.value in
    first_running _
    (runs_first _ _ refl refl c.requires.asking c.requires.unopened c.new.ensures.serving accepted)
    (first_soundly _ c.args.config.now refl refl c.requires.asking c.requires.unopened c.new.ensures.serving accepted c.conn_config.ensures c.requires.fits (c.of.ensures.lengths.1 ∙ sym c.of.ensures.lengths.0))
