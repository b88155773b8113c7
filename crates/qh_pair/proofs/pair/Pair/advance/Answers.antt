use Rattle.std.specs.Prelude.{is_some}
use Rattle.std.proofs.Common.{◌≡◌, refl, ◌∙◌, ap, ◌++◌, ◌∷◌, [], List, Err, Some}
use Rattle.std.proofs.lemmas.Result.{err_from_is_err_and, IfErr-weaker}
use Rattle.qh_base.specs.declared.time.Moment.{Moment}
use Rattle.qh_spec.specs.declared.link.Event.{Event}
use Rattle.qh_spec.specs.declared.link.Event.TheVariants.{Round}
use Rattle.qh_pair.specs.Steps.{AreIntakes, IsLinkError}
use Rattle.qh_pair.specs.Turn.{IsTurnError}
use Rattle.qh_pair.proofs.ClockSteps.{is_turn_error, link_no_protocol}
use Rattle.qh_pair.proofs.Fairness.{fair_last, fair_link, fair_tick, in_order}
use Rattle.qh_pair.proofs.Faults.{fault_again, fault_behind, fault_last, no_fault}
use Rattle.qh_pair.proofs.FullTurns.{turned_full}
use Rattle.qh_pair.proofs.PairSteps.{step_fails, step_kind, step_trans}
use Rattle.qh_pair.proofs.EndCounts.{counts_more as counts_after}
use Rattle.qh_pair.proofs.Turns.{begun, ended_at, ticks_link, ticks_lost, ticks_last, ok_always, no_protocol, never_failed, grew_none, grew_same}
use Rattle.qh_pair.proofs.pair.Pair.advance.Goals as goal

-- what each step asks

pub receive-requires-clause-open : goal.receive-requires-clause-open
receive-requires-clause-open g c = c.in_ok-now.ensures.open

pub receive-requires-clause-over : goal.receive-requires-clause-over
receive-requires-clause-over g c = (c.in_ok-now.ensures.step []).same.over ∙ c.requires.over

pub receive-requires-clause-counted : goal.receive-requires-clause-counted
receive-requires-clause-counted g c = (c.in_ok-now.ensures.step []).counted refl

pub tick-requires-clause-open : goal.tick-requires-clause-open
tick-requires-clause-open g c = c.in_ok-receive.ensures.open

pub tick-requires-clause-over : goal.tick-requires-clause-over
tick-requires-clause-over g c = (c.in_ok-receive.ensures.step []).same.over ∙ (c.in_ok-now.ensures.step []).same.over ∙ c.requires.over

pub tick-requires-clause-bound : goal.tick-requires-clause-bound
tick-requires-clause-bound g c = c.in_ok-now.ensures.bound

pub tick-requires-clause-counted : goal.tick-requires-clause-counted
tick-requires-clause-counted g c = (c.in_ok-receive.ensures.step []).counted refl

pub converse-requires-clause-open : goal.converse-requires-clause-open
converse-requires-clause-open g c = c.tick.ensures.open

pub converse-requires-clause-going : goal.converse-requires-clause-going
converse-requires-clause-going g c = c.in_ok-tick.ensures.going

pub converse-requires-clause-over : goal.converse-requires-clause-over
converse-requires-clause-over g c =
    (c.tick.ensures.step (Some []) []).same.over ∙ (c.in_ok-receive.ensures.step []).same.over ∙ (c.in_ok-now.ensures.step []).same.over ∙ c.requires.over

pub converse-requires-clause-counted : goal.converse-requires-clause-counted
converse-requires-clause-counted g c = (c.in_ok-tick.ensures.step (Some []) []).counted refl

pub is_up-requires : goal.is_up-requires
is_up-requires g c = c.converse.ensures.going

pub transmit-requires-clause-open : goal.transmit-requires-clause-open
transmit-requires-clause-open g c = c.converse.ensures.open

pub transmit-requires-clause-going : goal.transmit-requires-clause-going
transmit-requires-clause-going g c = c.converse.ensures.going

pub transmit-requires-clause-over : goal.transmit-requires-clause-over
transmit-requires-clause-over g c =
    (c.converse.ensures.step 0 (Some [])).same.over ∙ (c.tick.ensures.step (Some []) []).same.over ∙ (c.in_ok-receive.ensures.step []).same.over ∙ (c.in_ok-now.ensures.step []).same.over ∙ c.requires.over

pub transmit-requires-clause-counted : goal.transmit-requires-clause-counted
transmit-requires-clause-counted g c = (c.converse.ensures.step 0 (Some [])).counted refl

-- where the round didn't begin

pub returns-in_err-now-clause-step : goal.returns-in_err-now-clause-step
returns-in_err-now-clause-step g c =
    let p = err_from_is_err_and c.from_residual.result c.from_residual.ensures.1 in
    rw p.1 (step_kind _ _ _ _ _ _ _ _ _ _ (c.in_err-now.ensures.step _) (λ x k. tt))

pub returns-in_err-now-clause-clock : goal.returns-in_err-now-clause-clock
returns-in_err-now-clause-clock g c =
    let p = err_from_is_err_and c.from_residual.result c.from_residual.ensures.1 in
    rw (p.1, p.2)
    (λ before moments is t. let b = c.in_err-now.ensures.clock before moments is t in ticks_link _ _ _ _ _ _ b.more _ c.in_err-now.ensures.errors b.are)

pub returns-in_err-now-clause-cause : goal.returns-in_err-now-clause-cause
returns-in_err-now-clause-cause g c =
    let p = err_from_is_err_and c.from_residual.result c.from_residual.ensures.1 in rw (p.1, p.2) c.in_err-now.ensures.cause

pub returns-in_err-now-clause-fault : goal.returns-in_err-now-clause-fault
returns-in_err-now-clause-fault g c =
    let p = err_from_is_err_and c.from_residual.result c.from_residual.ensures.1 in
    rw (p.1, p.2) (fault_again Moment (Unit {0}) c.in_err-now.field-0.0 _ _ (λ z. z) c.in_err-now.ensures.fault)

pub returns-in_err-now-clause-fair : goal.returns-in_err-now-clause-fair
returns-in_err-now-clause-fair g c =
    let p = err_from_is_err_and c.from_residual.result c.from_residual.ensures.1 in
    rw (p.1, p.2) (λ earlier events more entries sound told_old told_new honest. fair_link (Unit {0}) _ _ _ _ c.in_err-now.ensures.errors)

pub returns-in_err-now-clause-lost : goal.returns-in_err-now-clause-lost
returns-in_err-now-clause-lost g c =
    let p = err_from_is_err_and c.from_residual.result c.from_residual.ensures.1 in rw (p.1, p.2) (link_no_protocol (Unit {0}) _ _ c.in_err-now.ensures.errors)

pub returns-in_err-now-clause-errors : goal.returns-in_err-now-clause-errors
returns-in_err-now-clause-errors g c =
    let p = err_from_is_err_and c.from_residual.result c.from_residual.ensures.1 in rw (p.1, p.2) (is_turn_error _ c.in_err-now.ensures.errors)

pub returns-in_err-now-clause-answered : goal.returns-in_err-now-clause-answered
returns-in_err-now-clause-answered g c = grew_none _ _

-- where a datagram wasn't taken

pub returns-in_err-receive-clause-step : goal.returns-in_err-receive-clause-step
returns-in_err-receive-clause-step g c =
    let p = err_from_is_err_and c.from_residual-in_err-receive.result c.from_residual-in_err-receive.ensures.1 in
    rw p.1
    (step_fails _ _ _ _ _ _ _ _ _ (λ (more : List Event). Unit {0}) _
    (step_trans _ _ _ _ _ _ _ _ _ _ _ _ _ (λ (more : List Event). Unit {0}) (begun _ _ _ _ _ _ _ _ _ _ _ c.in_ok-now.ensures.round (c.in_ok-now.ensures.step _)) (c.in_err-receive.ensures.step _) (λ x y k m. tt))
    (λ x k. tt))

pub returns-in_err-receive-clause-clock : goal.returns-in_err-receive-clause-clock
returns-in_err-receive-clause-clock g c =
    let p = err_from_is_err_and c.from_residual-in_err-receive.result c.from_residual-in_err-receive.ensures.1 in
    rw (p.1, p.2)
    (λ before moments is t.
    let b = c.in_ok-now.ensures.clock before moments is t in ticks_link _ _ _ _ _ _ b.more _ c.in_err-receive.ensures.errors (c.receive.ensures.moments ∙ b.are))

pub returns-in_err-receive-clause-cause : goal.returns-in_err-receive-clause-cause
returns-in_err-receive-clause-cause g c =
    let p = err_from_is_err_and c.from_residual-in_err-receive.result c.from_residual-in_err-receive.ensures.1 in
    rw (p.1, p.2) (counts_after _ _ _ _ (c.in_ok-now.ensures.cause.still refl) c.in_err-receive.ensures.cause)

pub returns-in_err-receive-clause-fault : goal.returns-in_err-receive-clause-fault
returns-in_err-receive-clause-fault g c =
    let p = err_from_is_err_and c.from_residual-in_err-receive.result c.from_residual-in_err-receive.ensures.1 in
    let begun = c.in_ok-now.ensures.step [] in
    rw (p.1, p.2) (fault_again (Unit {0}) (Unit {0}) c.in_err-receive.field-0.0 _ _ (fault_behind _ _ _ begun.more begun.told_is) c.in_err-receive.ensures.fault)

pub returns-in_err-receive-clause-fair : goal.returns-in_err-receive-clause-fair
returns-in_err-receive-clause-fair g c =
    let p = err_from_is_err_and c.from_residual-in_err-receive.result c.from_residual-in_err-receive.ensures.1 in
    rw (p.1, p.2) (λ earlier events more entries sound told_old told_new honest. fair_link (Unit {0}) _ _ _ _ c.in_err-receive.ensures.errors)

pub returns-in_err-receive-clause-lost : goal.returns-in_err-receive-clause-lost
returns-in_err-receive-clause-lost g c =
    let p = err_from_is_err_and c.from_residual-in_err-receive.result c.from_residual-in_err-receive.ensures.1 in
    rw (p.1, p.2) (link_no_protocol (Unit {0}) _ _ c.in_err-receive.ensures.errors)

pub returns-in_err-receive-clause-errors : goal.returns-in_err-receive-clause-errors
returns-in_err-receive-clause-errors g c =
    let p = err_from_is_err_and c.from_residual-in_err-receive.result c.from_residual-in_err-receive.ensures.1 in
    rw (p.1, p.2) (is_turn_error _ c.in_err-receive.ensures.errors)

pub returns-in_err-receive-clause-answered : goal.returns-in_err-receive-clause-answered
returns-in_err-receive-clause-answered g c = grew_none _ _

-- where an end was lost

pub returns-in_err-tick-clause-step : goal.returns-in_err-tick-clause-step
returns-in_err-tick-clause-step g c =
    let p = err_from_is_err_and c.from_residual-in_err-tick.result c.from_residual-in_err-tick.ensures.1 in
    rw p.1
    (step_fails _ _ _ _ _ _ _ _ _ (λ (more : List Event). Unit {0}) _
    (step_trans _ _ _ _ _ _ _ _ _ _ _ (λ (more : List Event). Unit {0}) _ (λ (more : List Event). Unit {0})
    (step_trans _ _ _ _ _ _ _ _ _ _ _ _ _ (λ (more : List Event). Unit {0}) (begun _ _ _ _ _ _ _ _ _ _ _ c.in_ok-now.ensures.round (c.in_ok-now.ensures.step _)) (c.in_ok-receive.ensures.step _) (λ x y k m. tt))
    (c.in_err-tick.ensures.step _ _) (λ x y k m. tt))
    (λ x k. tt))

pub returns-in_err-tick-clause-fair : goal.returns-in_err-tick-clause-fair
returns-in_err-tick-clause-fair g c =
    let p = err_from_is_err_and c.from_residual-in_err-tick.result c.from_residual-in_err-tick.ensures.1 in
    rw (p.1, p.2)
    (fair_tick _ _ _ _ _ [] _ (λ (more : List Event). Unit {0}) _ (Err c.in_err-tick.field-0.0)
    (step_trans _ _ _ _ _ _ _ _ _ _ _ _ _ (λ (more : List Event). Unit {0})
    (begun _ _ _ _ _ _ _ _ _ _ _ c.in_ok-now.ensures.round (c.in_ok-now.ensures.step [])) (c.in_ok-receive.ensures.step []) (λ x y k m. tt))
    (g.met.L.Link.same_rounds _) (λ es e. g.met.L.Link.same_rounds _ es e ∙ (c.receive.ensures.moments ∙ c.in_ok-now.ensures.round)) c.in_ok-now.ensures.order c.in_err-tick.ensures.fair)

pub returns-in_err-tick-clause-clock : goal.returns-in_err-tick-clause-clock
returns-in_err-tick-clause-clock g c =
    let p = err_from_is_err_and c.from_residual-in_err-tick.result c.from_residual-in_err-tick.ensures.1 in
    rw (p.1, p.2)
    (λ before moments is t.
    let b = c.in_ok-now.ensures.clock before moments is t in
    let last = b.begun.0 in
    let taken = c.in_ok-receive.ensures.ticking _ last b.begun.1 in
    ticks_lost _ _ _ _ _ b.more _ (c.receive.ensures.moments ∙ b.are) (c.in_err-tick.ensures.timed_out _ last taken))

pub returns-in_err-tick-clause-cause : goal.returns-in_err-tick-clause-cause
returns-in_err-tick-clause-cause g c =
    let p = err_from_is_err_and c.from_residual-in_err-tick.result c.from_residual-in_err-tick.ensures.1 in
    rw (p.1, p.2) (counts_after _ _ _ _ (c.in_ok-now.ensures.cause.still refl) (never_failed _ _ _ c.in_err-tick.ensures.cause (c.in_ok-receive.ensures.cause.still refl)))

pub returns-in_err-tick-clause-fault : goal.returns-in_err-tick-clause-fault
returns-in_err-tick-clause-fault g c =
    let p = err_from_is_err_and c.from_residual-in_err-tick.result c.from_residual-in_err-tick.ensures.1 in
    rw (p.1, p.2) (no_fault (Unit {0}) _ _ c.in_err-tick.ensures.cause)

pub returns-in_err-tick-clause-lost : goal.returns-in_err-tick-clause-lost
returns-in_err-tick-clause-lost g c =
    let p = err_from_is_err_and c.from_residual-in_err-tick.result c.from_residual-in_err-tick.ensures.1 in rw (p.1, p.2) c.in_err-tick.ensures.lost

pub returns-in_err-tick-clause-errors : goal.returns-in_err-tick-clause-errors
returns-in_err-tick-clause-errors g c =
    let p = err_from_is_err_and c.from_residual-in_err-tick.result c.from_residual-in_err-tick.ensures.1 in rw (p.1, p.2) c.in_err-tick.ensures.errors

pub returns-in_err-tick-clause-answered : goal.returns-in_err-tick-clause-answered
returns-in_err-tick-clause-answered g c = grew_none _ _

-- where there was no memory to ask or serve

pub returns-in_err-converse-clause-step : goal.returns-in_err-converse-clause-step
returns-in_err-converse-clause-step g c =
    let p = err_from_is_err_and c.from_residual-in_err-converse.result c.from_residual-in_err-converse.ensures.1 in
    rw p.1
    (step_fails _ _ _ _ _ _ _ _ _ (λ (more : List Event). Unit {0}) _
    (step_trans _ _ _ _ _ _ _ _ _ _ _ (λ (more : List Event). Unit {0}) _ (λ (more : List Event). Unit {0})
    (step_trans _ _ _ _ _ _ _ _ _ _ _ (λ (more : List Event). Unit {0}) _ (λ (more : List Event). Unit {0})
    (step_trans _ _ _ _ _ _ _ _ _ _ _ _ _ (λ (more : List Event). Unit {0}) (begun _ _ _ _ _ _ _ _ _ _ _ c.in_ok-now.ensures.round (c.in_ok-now.ensures.step _)) (c.in_ok-receive.ensures.step _) (λ x y k m. tt))
    (c.in_ok-tick.ensures.step _ _) (λ x y k m. tt))
    (c.converse.ensures.step _ _) (λ x y k m. tt))
    (λ x k. tt))

pub returns-in_err-converse-clause-clock : goal.returns-in_err-converse-clause-clock
returns-in_err-converse-clause-clock g c =
    let p = err_from_is_err_and c.from_residual-in_err-converse.result c.from_residual-in_err-converse.ensures.1 in
    rw (p.1, p.2) (λ before moments is t. let b = c.in_ok-now.ensures.clock before moments is t in ticks_link _ _ _ _ _ _ b.more _ tt (c.receive.ensures.moments ∙ b.are))

pub returns-in_err-converse-clause-cause : goal.returns-in_err-converse-clause-cause
returns-in_err-converse-clause-cause g c =
    let p = err_from_is_err_and c.from_residual-in_err-converse.result c.from_residual-in_err-converse.ensures.1 in
    rw (p.1, p.2) (counts_after _ _ _ _ (c.in_ok-now.ensures.cause.still refl) (never_failed _ _ _ refl (c.in_ok-receive.ensures.cause.still refl)))

pub returns-in_err-converse-clause-fault : goal.returns-in_err-converse-clause-fault
returns-in_err-converse-clause-fault g c =
    let p = err_from_is_err_and c.from_residual-in_err-converse.result c.from_residual-in_err-converse.ensures.1 in rw (p.1, p.2) tt

pub returns-in_err-converse-clause-fair : goal.returns-in_err-converse-clause-fair
returns-in_err-converse-clause-fair g c =
    let p = err_from_is_err_and c.from_residual-in_err-converse.result c.from_residual-in_err-converse.ensures.1 in
    rw (p.1, p.2) (λ earlier events more entries sound told_old told_new honest. tt)

pub returns-in_err-converse-clause-lost : goal.returns-in_err-converse-clause-lost
returns-in_err-converse-clause-lost g c =
    let p = err_from_is_err_and c.from_residual-in_err-converse.result c.from_residual-in_err-converse.ensures.1 in rw (p.1, p.2) tt

pub returns-in_err-converse-clause-errors : goal.returns-in_err-converse-clause-errors
returns-in_err-converse-clause-errors g c =
    let p = err_from_is_err_and c.from_residual-in_err-converse.result c.from_residual-in_err-converse.ensures.1 in rw (p.1, p.2) tt

pub returns-in_err-converse-clause-answered : goal.returns-in_err-converse-clause-answered
returns-in_err-converse-clause-answered g c =
    grew_same g.V.Service.may_answer _ _ _ _ ((c.tick.ensures.step (Some []) []).same.limits ∙ (c.in_ok-receive.ensures.step []).same.limits ∙ (c.in_ok-now.ensures.step []).same.limits) c.converse.ensures.answered

-- where the ends sent

pub returns-clause-step : goal.returns-clause-step
returns-clause-step g c =
    ended_at _ _ _ _ _ _ _ _ _ _ _ (c.transmit.ensures.moments ∙ c.receive.ensures.moments ∙ c.in_ok-now.ensures.round)
    (step_trans _ _ _ _ _ _ _ _ _ _ _ _ _ _
    (step_trans _ _ _ _ _ _ _ _ _ _ _ _ _ (λ (more : List Event). (b1 b2 : List Event) × (more ≡ ((b1 ++ b2) ++ []) ++ []) × (b1 ≡ Round c.in_ok-now.now.0 ∷ []) × AreIntakes c.receive.new.self.ids (is_some c.receive.new.self.server_end) b2)
    (step_trans _ _ _ _ _ _ _ _ _ _ _ _ _ (λ (more : List Event). (b1 b2 : List Event) × (more ≡ (b1 ++ b2) ++ []) × (b1 ≡ Round c.in_ok-now.now.0 ∷ []) × AreIntakes c.receive.new.self.ids (is_some c.receive.new.self.server_end) b2)
    (step_trans _ _ _ _ _ _ _ _ _ _ _ _ _ (λ (more : List Event). (b1 b2 : List Event) × (more ≡ b1 ++ b2) × (b1 ≡ Round c.in_ok-now.now.0 ∷ []) × AreIntakes c.receive.new.self.ids (is_some c.receive.new.self.server_end) b2)
    (begun _ _ _ _ _ _ _ _ _ _ _ c.in_ok-now.ensures.round (c.in_ok-now.ensures.step _)) (c.in_ok-receive.ensures.step _) (λ x y k m. (x, y, refl, k, m)))
    (c.in_ok-tick.ensures.step _ _)
    (λ x y k m. (k.0, k.1, ap (λ (z : List Event). z ++ y) k.2 ∙ ap (λ (z : List Event). (k.0 ++ k.1) ++ z) m, k.3, k.4)))
    (c.converse.ensures.step _ _)
    (λ x y k m. (k.0, k.1, ap (λ (z : List Event). z ++ y) k.2 ∙ ap (λ (z : List Event). ((k.0 ++ k.1) ++ []) ++ z) m, k.3, k.4)))
    (c.transmit.ensures.step _)
    (λ x y k m. turned_full c.transmit.result c.receive.new.self c.converse.new.self c.transmit.new.self c.in_ok-now.now.0 k.0 k.1 y x k.2 k.3 k.4
    ((c.transmit.ensures.step []).same.ids ∙ (c.converse.ensures.step 0 (Some [])).same.ids ∙ (c.tick.ensures.step (Some []) []).same.ids)
    (λ there. c.transmit.ensures.there ∙ c.converse.ensures.there (c.tick.ensures.there ∙ there)) m c.transmit.ensures.told c.transmit.ensures.roles
    ((c.converse.ensures.step 0 (Some [])).counted refl) (c.transmit.ensures.step []).counted c.is_up.ensures c.in_ok-converse.ensures.asks c.in_ok-converse.ensures.accepts))

pub returns-clause-fault : goal.returns-clause-fault
returns-clause-fault g c =
    let begun = c.in_ok-now.ensures.step [] in
    let taken = c.in_ok-receive.ensures.step [] in
    fault_last c.transmit.result _ _ (λ z. fault_behind _ _ _ begun.more begun.told_is (fault_behind _ _ _ taken.more taken.told_is z)) c.transmit.ensures.fault

pub returns-clause-order : goal.returns-clause-order
returns-clause-order g c =
    ok_always c.transmit.result _ (in_order _ _ _ (c.transmit.ensures.moments ∙ c.receive.ensures.moments ∙ c.in_ok-now.ensures.round) c.in_ok-now.ensures.order)

pub returns-clause-fair : goal.returns-clause-fair
returns-clause-fair g c = λ earlier events more entries sound told_old told_new honest. fair_last _ _ _ c.transmit.result c.transmit.ensures.errors

pub returns-clause-clock : goal.returns-clause-clock
returns-clause-clock g c = λ before moments is t.
    let b = c.in_ok-now.ensures.clock before moments is t in
    let last = b.begun.0 in
    let taken = c.in_ok-receive.ensures.ticking _ last b.begun.1 in
    let ticked = c.in_ok-tick.ensures.ticking _ last taken in
    ticks_last _ _ _ _ _ _ _ b.more c.transmit.result (c.transmit.ensures.moments ∙ c.receive.ensures.moments ∙ b.are) c.transmit.ensures.errors c.transmit.ensures.ticking last (c.converse.ensures.ticking _ ticked)

pub returns-clause-round : goal.returns-clause-round
returns-clause-round g c = ok_always c.transmit.result _ (c.in_ok-now.now.0, c.transmit.ensures.moments ∙ c.receive.ensures.moments ∙ c.in_ok-now.ensures.round)

pub returns-clause-cause : goal.returns-clause-cause
returns-clause-cause g c = counts_after _ _ _ _ (c.in_ok-now.ensures.cause.still refl) (counts_after _ _ _ _ (c.in_ok-receive.ensures.cause.still refl) c.transmit.ensures.cause)

pub returns-clause-lost : goal.returns-clause-lost
returns-clause-lost g c = no_protocol c.transmit.result _ c.transmit.ensures.errors

pub returns-clause-errors : goal.returns-clause-errors
returns-clause-errors g c = IfErr-weaker c.transmit.result IsLinkError IsTurnError is_turn_error c.transmit.ensures.errors

pub returns-clause-answered : goal.returns-clause-answered
returns-clause-answered g c =
    grew_same g.V.Service.may_answer _ _ _ _ ((c.tick.ensures.step (Some []) []).same.limits ∙ (c.in_ok-receive.ensures.step []).same.limits ∙ (c.in_ok-now.ensures.step []).same.limits) c.converse.ensures.answered
