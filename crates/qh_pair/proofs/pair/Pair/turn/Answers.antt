use Rattle.std.proofs.Common.{Bool, false, ◌∙◌, ap}
use Rattle.std.proofs.lemmas.Result.{err_from_is_err_and}
use Rattle.qh_base.specs.declared.connection_error.ConnectionError.{ConnectionError}
use Rattle.qh_pair.specs.Full.{IsFullTurn}
use Rattle.qh_pair.specs.Pair.{PairState}
use Rattle.qh_pair.specs.Turn.{IsProtocolLoss}
use Rattle.qh_pair.proofs.ClockSteps.{both_ticking}
use Rattle.qh_pair.proofs.Fairness.{fair_turn, told_by}
use Rattle.qh_pair.proofs.Faults.{fault_again}
use Rattle.qh_pair.proofs.FullTurns.{full_as}
use Rattle.qh_pair.proofs.Turns.{goes_well_as, goes_ill, clocked_well_as, clocked_ill, known_well_as, known_ill, adds, protocol_again}
use Rattle.qh_pair.proofs.pair.Pair.turn.Goals as goal

pub returns-in_err-advance-clause-goes_on : goal.returns-in_err-advance-clause-goes_on
returns-in_err-advance-clause-goes_on g c = rw (← c.self.view_is) (goes_ill _ _ _ _ _ _ _ _ (ap (λ (z : PairState). z.is_over) c.self.view_is ∙ c.requires.going) c.in_err-advance.ensures.step)

pub returns-in_err-advance-clause-cause : goal.returns-in_err-advance-clause-cause
returns-in_err-advance-clause-cause g c =
    let p = err_from_is_err_and c.from_residual.result c.from_residual.ensures.1 in rw (p.1, p.2) c.in_err-advance.ensures.cause

pub returns-in_err-advance-clause-fault : goal.returns-in_err-advance-clause-fault
returns-in_err-advance-clause-fault g c =
    let p = err_from_is_err_and c.from_residual.result c.from_residual.ensures.1 in rw (p.1, p.2) (fault_again (Unit {0}) Bool c.in_err-advance.field-0.0 _ _ (λ z. z) c.in_err-advance.ensures.fault)

pub returns-in_err-advance-clause-errors : goal.returns-in_err-advance-clause-errors
returns-in_err-advance-clause-errors g c =
    let p = err_from_is_err_and c.from_residual.result c.from_residual.ensures.1 in rw (p.1, p.2) c.in_err-advance.ensures.errors

pub returns-in_err-advance-clause-lost : goal.returns-in_err-advance-clause-lost
returns-in_err-advance-clause-lost g c =
    let p = err_from_is_err_and c.from_residual.result c.from_residual.ensures.1 in rw (p.1, p.2) (protocol_again (Unit {0}) Bool c.in_err-advance.field-0.0 (λ (e : ConnectionError). IsProtocolLoss e c.advance.new.self) c.in_err-advance.ensures.lost)

pub returns-clause-turned : goal.returns-clause-turned
returns-clause-turned g c = adds _ _ _ _ _ _ _ _ _ (IsFullTurn _) c.in_ok-advance.ensures.step (λ x k. full_as _ _ false x c.self-2.view_is k)

pub returns-in_err-advance-clause-clock : goal.returns-in_err-advance-clause-clock
returns-in_err-advance-clause-clock g c =
    let p = err_from_is_err_and c.from_residual.result c.from_residual.ensures.1 in
    rw (p.1, p.2, ← c.self.view_is)
    (λ before moments is t. clocked_ill _ _ _ _ _ _ (c.in_err-advance.ensures.clock before moments is (both_ticking _ _ moments t)))

pub returns-in_err-advance-clause-known : goal.returns-in_err-advance-clause-known
returns-in_err-advance-clause-known g c = rw (← c.self.view_is) (known_ill _ _ c.in_err-advance.ensures.step.same.known)

pub returns-clause-known : goal.returns-clause-known
returns-clause-known g c = rw (← c.self.view_is) (known_well_as _ _ _ c.self-2.view_is c.in_ok-advance.ensures.step.same.known)

pub returns-clause-goes_on : goal.returns-clause-goes_on
returns-clause-goes_on g c =
    rw (← c.self.view_is)
    (goes_well_as _ _ _ _ _ _ _ _ _ c.self-2.view_is (ap (λ (z : PairState). z.is_over) c.self.view_is ∙ c.requires.going)
    (λ es e. told_by _ _ es c.in_ok-advance.ensures.order (g.met.L.Link.same_rounds _ es e)) c.in_ok-advance.ensures.step)

pub returns-clause-clock : goal.returns-clause-clock
returns-clause-clock g c =
    rw (← c.self.view_is)
    (λ before moments is t. clocked_well_as _ _ _ _ _ _ _ _ c.self-2.view_is (c.in_ok-advance.ensures.clock before moments is (both_ticking _ _ moments t)))

pub returns-in_err-advance-clause-fair : goal.returns-in_err-advance-clause-fair
returns-in_err-advance-clause-fair g c =
    let p = err_from_is_err_and c.from_residual.result c.from_residual.ensures.1 in
    rw (p.1, p.2)
    (fair_turn _ _ _ _ _ c.self.view_is (ap (λ (z : PairState). z.is_over) c.self.view_is ∙ c.requires.going) c.in_err-advance.ensures.fair)

pub returns-clause-fair : goal.returns-clause-fair
returns-clause-fair g c = λ earlier events more entries run told_old told_new honest. tt
