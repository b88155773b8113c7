use Rattle.std.proofs.Common.{◌≡◌, refl, ◌∷◌, []}
use Rattle.std.proofs.lemmas.Result.{err_from_is_err_and}
use Rattle.qh_base.specs.declared.time.Moment.{Moment}
use Rattle.qh_spec.specs.declared.link.Event.TheVariants.{Round}
use Rattle.qh_spec.specs.declared.sides.Side.TheVariants.{Client, Server}
use Rattle.qh_link.specs.Link.{fault_events}
use Rattle.qh_pair.proofs.ClockSteps.{fault_tells_nothing, counts_link_fault, is_link_error}
use Rattle.qh_pair.proofs.Faults.{fault_here}
use Rattle.qh_pair.proofs.PairSteps.{step_waits, step_rests, step_fails}
use Rattle.qh_pair.proofs.Turns.{begins_err, begins_ok}
use Rattle.qh_pair.proofs.pair.Pair.begin.Goals as goal

pub returns-in_err-now-clause-step : goal.returns-in_err-now-clause-step
returns-in_err-now-clause-step g c =
    let p = err_from_is_err_and c.from_residual.result c.from_residual.ensures.1 in
    let e = c.in_err-now.field-0.0 in
    rw p.1
    (λ served. step_waits _ _ _ _ _ served (fault_events e) _ c.requires.counted (fault_tells_nothing Client e) (fault_tells_nothing Server e) c.in_err-now.ensures.events tt)

pub returns-in_err-now-clause-clock : goal.returns-in_err-now-clause-clock
returns-in_err-now-clause-clock g c =
    let p = err_from_is_err_and c.from_residual.result c.from_residual.ensures.1 in
    rw p.1 (λ before moments is t. begins_err _ _ _ before moments [] _ c.in_err-now.ensures.moments is)

pub returns-in_err-now-clause-cause : goal.returns-in_err-now-clause-cause
returns-in_err-now-clause-cause g c =
    let p = err_from_is_err_and c.from_residual.result c.from_residual.ensures.1 in
    rw (p.1, p.2) (counts_link_fault _ _ c.in_err-now.field-0.0 c.in_err-now.ensures.cause)

pub returns-in_err-now-clause-fault : goal.returns-in_err-now-clause-fault
returns-in_err-now-clause-fault g c =
    let p = err_from_is_err_and c.from_residual.result c.from_residual.ensures.1 in
    rw (p.1, p.2) (fault_here Moment c.in_err-now.field-0.0 _ _ c.in_err-now.ensures.events)

pub returns-in_err-now-clause-errors : goal.returns-in_err-now-clause-errors
returns-in_err-now-clause-errors g c =
    let p = err_from_is_err_and c.from_residual.result c.from_residual.ensures.1 in rw (p.1, p.2) (is_link_error c.in_err-now.field-0.0)

pub returns-in_err-open_client-clause-step : goal.returns-in_err-open_client-clause-step
returns-in_err-open_client-clause-step g c =
    let p = err_from_is_err_and c.from_residual-in_err-open_client.result c.from_residual-in_err-open_client.ensures.1 in
    rw p.1
    (λ served. step_fails _ _ _ _ _ _ _ _ _ _ _
    (step_rests 0 _ _ _ _ _ _ _ (λ more. more ≡ more) (step_waits _ _ _ _ _ served (Round c.in_ok-now.now.0 ∷ []) _ c.requires.counted refl refl c.in_ok-now.ensures.events refl) c.open_client.ensures.still)
    (λ x k. tt))

pub returns-in_err-open_client-clause-clock : goal.returns-in_err-open_client-clause-clock
returns-in_err-open_client-clause-clock g c =
    let p = err_from_is_err_and c.from_residual-in_err-open_client.result c.from_residual-in_err-open_client.ensures.1 in
    rw p.1 (λ before moments is t. begins_err _ _ _ before moments (c.in_ok-now.now.0 ∷ []) _ c.in_ok-now.ensures.moments is)

pub returns-clause-step : goal.returns-clause-step
returns-clause-step g c =
    λ served. step_rests _ _ _ _ _ _ _ _ _ (step_waits _ _ _ _ _ served (Round c.in_ok-now.now.0 ∷ []) _ c.requires.counted refl refl c.in_ok-now.ensures.events refl) c.in_ok-open_client.ensures.still

pub returns-clause-clock : goal.returns-clause-clock
returns-clause-clock g c =
    λ before moments is t. begins_ok _ _ _ _ before moments _ c.in_ok-now.ensures.moments is c.in_ok-now.ensures.order t c.in_ok-open_client.ensures.ticking
