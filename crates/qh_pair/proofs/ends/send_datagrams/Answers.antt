use Rattle.std.proofs.Common.{◌≡◌, refl, ◌∙◌, ap, subst, ℕ, List, ◌∷◌, [], append-nil, ◌+◌, arith, inr, Some, true, false}
use Rattle.std.proofs.lemmas.Result.{err_from_is_err_and}
use Rattle.qh_spec.specs.Link.{told}
use Rattle.qh_spec.specs.Turns.{IsOutput}
use Rattle.qh_spec.specs.declared.link.Event.TheVariants.{Sent}
use Rattle.qh_pair.specs.EndCalls.{AreSent}
use Rattle.qh_pair.specs.Full.{IsSentOut, ToldAsBefore}
use Rattle.qh_pair.specs.declared.ends.Ids.{Ids}
use Rattle.qh_pair.proofs.ClockSteps.{counts_link_fault, is_link_error}
use Rattle.qh_pair.proofs.EndCounts.{sent_none, sent_more, sent_all, sent_full, counts_more, told_same, told_trans}
use Rattle.qh_pair.proofs.EndNext.{firsts_next, made_next, names_next}
use Rattle.qh_pair.proofs.EndSteps.{end_trans, end_fails, end_kind, end_rests, end_sent, end_unsent, end_wants, end_refl}
use Rattle.qh_pair.proofs.Faults.{fault_again, fault_behind, fault_here}
use Rattle.qh_pair.proofs.ends.send_datagrams.Goals as goal

-- any ids
no_ids : Ids
no_ids = record { client = []; server = []; key = [] }

pub loop-datagram-init : goal.loop-datagram-init
loop-datagram-init g c = record {
  step = λ ids config. end_refl c.args.now c.args.side ids config _ _ _ (sent_none c.args.side);
  up = c.requires.open;
  whole = c.requires.whole;
  told = (refl, told_same c.args.end.now.core.space.streams);
  moments = refl;
  faults = refl;
  plan = refl;
}

pub returns-in_err-found-clause-step : goal.returns-in_err-found-clause-step
returns-in_err-found-clause-step g c =
    let p = err_from_is_err_and c.from_residual.result c.from_residual.ensures.1 in
    let next = c.in_err-found.ensures in
    rw p.1
    (λ ids config. end_fails c.args.now c.args.side ids config _ _ _ _ _ _ _ (λ more. Unit {0}) (c.loop-datagram.invariant.step ids config)
    (end_wants c.args.now c.args.side ids config _ _ _ (λ more. Unit {0}) tt next.made next.lost))

pub returns-then-not-found-clause-step : goal.returns-then-not-found-clause-step
returns-then-not-found-clause-step g c ids config =
    let next = c.in_ok-found.ensures in
    end_trans true c.args.now c.args.side ids config _ _ _ _ _ _ _ (λ more. more ≡ [])
    (λ more. IsOutput c.args.side more × IsSentOut c.args.side (Some c.has_next.new.end) more × ToldAsBefore (Some c.args.end.now) (Some c.has_next.new.end)) (c.loop-datagram.invariant.step ids config)
    (end_rests c.args.now c.args.side ids config _ _ _ (λ more. more ≡ []) refl (made_next _ _ c.has_next.new.datagram.items _ false c.if-not-found.true next.made) next.undisturbed
    (names_next _ _ c.has_next.new.datagram.items _ false c.if-not-found.true next.made next.names next.honest next.greets))
    (λ x y k m. (
      rw (m, append-nil) (sent_all c.args.side c.loop-datagram._datagram x (omega arith) k),
      inr (c.loop-datagram.end, (next.none c.if-not-found.true).0, (next.none c.if-not-found.true).1),
      (
        next.names.0 ∙ c.loop-datagram.invariant.told.0,
        told_trans c.args.end.now.core.space.streams c.loop-datagram.end.core.space.streams c.has_next.new.end.core.space.streams c.loop-datagram.invariant.told.1 next.told,
      ),
    ))

pub returns-in_err-send-clause-step : goal.returns-in_err-send-clause-step
returns-in_err-send-clause-step g c =
    let p = err_from_is_err_and c.from_residual-in_err-send.result c.from_residual-in_err-send.ensures.1 in
    let next = c.in_ok-found.ensures in
    rw p.1
    (λ ids config. end_fails c.args.now c.args.side ids config _ _ _ _ _ _ _ (λ more. Unit {0}) (c.loop-datagram.invariant.step ids config)
    (end_unsent c.args.now c.args.side ids config _ _ _ _ c.has_next.new.datagram.items c.in_err-send.field-0.0 (λ more. Unit {0}) c.in_err-send.ensures.events tt
    (made_next _ _ c.has_next.new.datagram.items _ true c.if-not-found.false next.made) next.undisturbed))

pub returns-in_err-send-clause-cause : goal.returns-in_err-send-clause-cause
returns-in_err-send-clause-cause g c =
    let p = err_from_is_err_and c.from_residual-in_err-send.result c.from_residual-in_err-send.ensures.1 in
    rw (p.1, p.2) (counts_more _ _ _ _ c.loop-datagram.invariant.faults (counts_link_fault _ _ c.in_err-send.field-0.0 c.in_err-send.ensures.cause))

pub returns-in_err-send-clause-fault : goal.returns-in_err-send-clause-fault
returns-in_err-send-clause-fault g c =
    let p = err_from_is_err_and c.from_residual-in_err-send.result c.from_residual-in_err-send.ensures.1 in
    let step = c.loop-datagram.invariant.step no_ids c.args.end.now.config in
    rw (p.1, p.2) (fault_again (Unit {0}) (Unit {0}) _ _ _ (fault_behind _ _ _ step.more step.told_is) (fault_here (Unit {0}) c.in_err-send.field-0.0 _ _ c.in_err-send.ensures.events))

pub returns-in_err-send-clause-errors : goal.returns-in_err-send-clause-errors
returns-in_err-send-clause-errors g c =
    let p = err_from_is_err_and c.from_residual-in_err-send.result c.from_residual-in_err-send.ensures.1 in rw (p.1, p.2) (is_link_error c.in_err-send.field-0.0)

pub loop-datagram-preserved : goal.loop-datagram-preserved
loop-datagram-preserved g c =
    let next = c.in_ok-found.ensures in
    let datagram = c.has_next.new.datagram.items in
    let sent : g.L.Link.events c.send.new.self ≡ told (g.L.Link.events c.loop-datagram.link) (Sent c.args.side datagram ∷ []) =
    c.in_ok-send.ensures.events ∙ ap (λ (d : List ℕ). told (g.L.Link.events c.loop-datagram.link) (Sent c.args.side d ∷ [])) c.deref.ensures.value in
    record {
      step = λ ids config. end_trans true c.args.now c.args.side ids config _ _ _ _ _ _ _ (λ more. more ≡ Sent c.args.side datagram ∷ []) (AreSent c.args.side (c.loop-datagram._datagram + 1)) (c.loop-datagram.invariant.step ids config)
          (end_sent c.args.now c.args.side ids config _ _ _ _ datagram (λ more. more ≡ Sent c.args.side datagram ∷ []) sent refl (made_next _ _ datagram _ true c.if-not-found.false next.made) next.undisturbed
          (names_next _ _ datagram _ true c.if-not-found.false next.made next.names next.honest next.greets) (firsts_next c.args.side ids config _ datagram (next.first c.if-not-found.false)))
          (λ x y k m. rw m (sent_more c.args.side c.loop-datagram._datagram datagram x k));
      up = next.open;
      whole = next.made.whole;
      told = (
        next.names.0 ∙ c.loop-datagram.invariant.told.0,
        told_trans c.args.end.now.core.space.streams c.loop-datagram.end.core.space.streams c.has_next.new.end.core.space.streams c.loop-datagram.invariant.told.1 next.told,
      );
      moments = c.in_ok-send.ensures.moments ∙ c.loop-datagram.invariant.moments;
      faults = c.in_ok-send.ensures.cause.still refl ∙ c.loop-datagram.invariant.faults;
      plan = c.in_ok-send.ensures.plan ∙ c.loop-datagram.invariant.plan;
    }

pub returns-clause-step : goal.returns-clause-step
returns-clause-step g c ids config =
    end_kind true c.args.now c.args.side ids config _ _ _ _ _
    (λ more. IsOutput c.args.side more × IsSentOut c.args.side (Some c.loop-datagram.end) more × ToldAsBefore (Some c.args.end.now) (Some c.loop-datagram.end)) (c.loop-datagram.invariant.step ids config)
    (λ x k.
    let all : c.loop-datagram._datagram ≡ 4096 = omega arith in
    (sent_all c.args.side c.loop-datagram._datagram x (omega arith) k, sent_full c.args.side c.loop-datagram.end x (subst (λ (n : ℕ). AreSent c.args.side n x) all k), c.loop-datagram.invariant.told))
