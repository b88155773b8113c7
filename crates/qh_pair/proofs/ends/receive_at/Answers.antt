use Rattle.std.proofs.Common.{◌≡◌, refl, ◌∙◌, ap, subst, Option, Ok, ℕ, take, ◌∷◌, [], ◌+◌, arith, true, false}
use Rattle.std.specs.Prelude.{is_some}
use Rattle.std.proofs.lemmas.Result.{err_from_is_err_and}
use Rattle.qh_spec.specs.Link.{told}
use Rattle.qh_spec.specs.Turns.{IsIntake}
use Rattle.qh_spec.specs.declared.link.Event.TheVariants.{Given, Dry}
use Rattle.qh_link.specs.Link.{take_events, fault_events}
use Rattle.qh_pair.specs.EndCalls.{AreGiven}
use Rattle.qh_pair.specs.Full.{OpensBy}
use Rattle.qh_pair.proofs.ClockSteps.{counts_link_fault, is_link_error}
use Rattle.qh_pair.proofs.EndCounts.{given_none, given_more, given_dry, given_full, counts_more, opens_none, opens_more, opens_dry}
use Rattle.qh_pair.proofs.EndSteps.{end_trans, end_fails, end_kind, end_idle, end_given, end_refl}
use Rattle.qh_pair.proofs.Faults.{fault_again, fault_behind, fault_here}
use Rattle.qh_pair.proofs.Wire.{silent_fault}
use Rattle.qh_pair.proofs.ends.receive_at.Goals as goal

pub loop-datagram-init : goal.loop-datagram-init
loop-datagram-init g c = record { step = end_refl c.args.now c.args.side _ _ _ _ _ (given_none c.args.side, opens_none c.args.opening.now.ids c.args.side _); whole = c.requires.whole; there = λ there. there; moments = refl; faults = refl; plan = refl }

pub returns-in_err-len-clause-step : goal.returns-in_err-len-clause-step
returns-in_err-len-clause-step g c =
    let p = err_from_is_err_and c.from_residual.result c.from_residual.ensures.1 in
    let e = c.in_err-len.field-0.0 in
    rw p.1
    (end_fails c.args.now c.args.side _ _ _ _ _ _ _ _ _ (λ more. Unit {0}) c.loop-datagram.invariant.step
    (end_idle false c.args.now c.args.side _ _ _ _ _ (fault_events e) (λ more. Unit {0}) c.in_err-len.ensures.events tt (silent_fault _ e) (silent_fault _ e)))

pub returns-in_err-len-clause-cause : goal.returns-in_err-len-clause-cause
returns-in_err-len-clause-cause g c =
    let p = err_from_is_err_and c.from_residual.result c.from_residual.ensures.1 in
    rw (p.1, p.2) (counts_more _ _ _ _ c.loop-datagram.invariant.faults (counts_link_fault _ _ c.in_err-len.field-0.0 c.in_err-len.ensures.cause))

pub returns-in_err-len-clause-fault : goal.returns-in_err-len-clause-fault
returns-in_err-len-clause-fault g c =
    let p = err_from_is_err_and c.from_residual.result c.from_residual.ensures.1 in
    let e = c.in_err-len.field-0.0 in
    rw (p.1, p.2) (fault_again (Unit {0}) (Unit {0}) _ _ _ (fault_behind _ _ _ c.loop-datagram.invariant.step.more c.loop-datagram.invariant.step.told_is) (fault_here (Unit {0}) e _ _ c.in_err-len.ensures.events))

pub returns-in_err-len-clause-errors : goal.returns-in_err-len-clause-errors
returns-in_err-len-clause-errors g c =
    let p = err_from_is_err_and c.from_residual.result c.from_residual.ensures.1 in rw (p.1, p.2) (is_link_error c.in_err-len.field-0.0)

pub returns-in_default-clause-step : goal.returns-in_default-clause-step
returns-in_default-clause-step g c =
    let dry : g.L.Link.events c.take.new.self ≡ told (g.L.Link.events c.loop-datagram.link) (Dry c.args.side ∷ []) =
    c.in_ok-len.ensures.events ∙ ap (λ (r : Option ℕ). told (g.L.Link.events c.loop-datagram.link) (take_events c.args.side c.take.new.buf (Ok r))) c.in_default.is in
    end_trans true c.args.now c.args.side _ _ _ _ _ _ _ _ _ (λ more. more ≡ Dry c.args.side ∷ []) (λ more. IsIntake c.args.side more × OpensBy c.args.opening.now.ids c.args.side more _) c.loop-datagram.invariant.step
    (end_idle true c.args.now c.args.side _ _ _ _ _ (Dry c.args.side ∷ []) (λ more. more ≡ Dry c.args.side ∷ []) dry refl refl refl)
    (λ x y k m. rw m (given_dry c.args.side c.loop-datagram._datagram x (omega arith) k.0, opens_dry c.args.opening.now.ids c.args.side x _ k.1))

pub hand_in-requires-clause-client : goal.hand_in-requires-clause-client
hand_in-requires-clause-client g c is = c.loop-datagram.invariant.there (c.requires.client is)

pub returns-in_err-hand_in-clause-step : goal.returns-in_err-hand_in-clause-step
returns-in_err-hand_in-clause-step g c =
    let p = err_from_is_err_and c.from_residual-in_err-hand_in.result c.from_residual-in_err-hand_in.ensures.1 in
    let given : g.L.Link.events c.take.new.self ≡ told (g.L.Link.events c.loop-datagram.link) (Given c.args.side (take c.in-Some.len c.take.new.buf) ∷ []) =
    c.in_ok-len.ensures.events ∙ ap (λ (r : Option ℕ). told (g.L.Link.events c.loop-datagram.link) (take_events c.args.side c.take.new.buf (Ok r))) c.in-Some.is in
    rw p.1
    (end_fails c.args.now c.args.side _ _ _ _ _ _ _ _ _ (λ more. Unit {0}) c.loop-datagram.invariant.step
    (end_given false c.args.now c.args.side _ _ _ _ _ _ (take c.in-Some.len c.take.new.buf) (λ more. Unit {0}) given tt c.in_err-hand_in.ensures.does c.in_err-hand_in.ensures.undisturbed c.in_err-hand_in.ensures.known))

pub returns-in_err-hand_in-clause-open : goal.returns-in_err-hand_in-clause-open
returns-in_err-hand_in-clause-open g c there = c.in_err-hand_in.ensures.open (c.loop-datagram.invariant.there there)

pub loop-datagram-preserved : goal.loop-datagram-preserved
loop-datagram-preserved g c =
    let given : g.L.Link.events c.take.new.self ≡ told (g.L.Link.events c.loop-datagram.link) (Given c.args.side (take c.in-Some.len c.take.new.buf) ∷ []) =
    c.in_ok-len.ensures.events ∙ ap (λ (r : Option ℕ). told (g.L.Link.events c.loop-datagram.link) (take_events c.args.side c.take.new.buf (Ok r))) c.in-Some.is in
    let handed = c.in_ok-hand_in.ensures in
    record {
      step = end_trans true c.args.now c.args.side _ _ _ _ _ _ _ _ _ (λ more. more ≡ Given c.args.side (take c.in-Some.len c.take.new.buf) ∷ [])
          (λ more. AreGiven c.args.side (c.loop-datagram._datagram + 1) more × OpensBy c.args.opening.now.ids c.args.side more (is_some c.hand_in.new.slot ≡ true)) c.loop-datagram.invariant.step
          (end_given true c.args.now c.args.side _ _ _ _ _ _ (take c.in-Some.len c.take.new.buf) (λ more. more ≡ Given c.args.side (take c.in-Some.len c.take.new.buf) ∷ []) given refl handed.does handed.undisturbed handed.known)
          (λ x y k m. rw m (
            given_more c.args.side c.loop-datagram._datagram (take c.in-Some.len c.take.new.buf) x k.0,
            opens_more c.args.opening.now.ids c.args.side x (take c.in-Some.len c.take.new.buf) _ _ handed.open (handed.opens refl) k.1,
          ));
      whole = handed.whole;
      there = λ there. handed.open (c.loop-datagram.invariant.there there);
      moments = c.in_ok-len.ensures.moments ∙ c.loop-datagram.invariant.moments;
      faults = c.in_ok-len.ensures.cause.still refl ∙ c.loop-datagram.invariant.faults;
      plan = c.in_ok-len.ensures.plan ∙ c.loop-datagram.invariant.plan;
    }

pub returns-clause-step : goal.returns-clause-step
returns-clause-step g c =
    end_kind true c.args.now c.args.side _ _ _ _ _ _ _ (λ more. IsIntake c.args.side more × OpensBy c.args.opening.now.ids c.args.side more _) c.loop-datagram.invariant.step
    (λ x k. (given_full c.args.side x (let e : c.loop-datagram._datagram ≡ 65536 = omega arith in subst (λ (n : ℕ). AreGiven c.args.side n x) e k.0), k.1))
