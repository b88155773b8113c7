use Rattle.std.proofs.Common.{ap, sym, ◌∙◌}
use Rattle.qh_pair.specs.Pair.{PairState}
use Rattle.qh_pair.proofs.ClockSteps.{client_opens}
use Rattle.qh_pair.proofs.EndsAt.{unset}
use Rattle.qh_pair.proofs.PairEnds.{still_opens_client}
use Rattle.qh_pair.proofs.PairSteps.{run_by_rest}
use Rattle.qh_pair.proofs.pair.Pair.open_client.Goals as goal

pub invariant_of-self : goal.invariant_of-self
invariant_of-self c = (
  c.self.invariant.0,
  run_by_rest _ _ (ap (λ (z : PairState). z.is_over) c.self.view_is ∙ c.requires.over) c.self.invariant.1
      (still_opens_client _ _ c.in_ok-end.end (rw c.self.view_is c.requires.counted) (unset c.self.inside.client_end (sym c.is_some.ensures ∙ c.if-is_some.false)) c.in_ok-end.ensures),
)

pub open_end-requires-clause-ids : goal.open_end-requires-clause-ids
open_end-requires-clause-ids c = c.self.invariant.0

pub returns-clause-still : goal.returns-clause-still
returns-clause-still c =
    rw (← c.self.view_is)
    (still_opens_client _ _ c.in_ok-end.end (rw c.self.view_is c.requires.counted) (unset c.self.inside.client_end (sym c.is_some.ensures ∙ c.if-is_some.false)) c.in_ok-end.ensures)

pub returns-clause-ticking : goal.returns-clause-ticking
returns-clause-ticking c = rw (← c.self.view_is) (client_opens _ _ c.in_ok-end.end c.in_ok-end.ensures)
