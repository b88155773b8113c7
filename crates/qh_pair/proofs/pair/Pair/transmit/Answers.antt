use Rattle.std.proofs.Common.{refl, ◌++◌, [], ap, ◌∙◌, subst, sym}
use Rattle.std.specs.Prelude.{is_some}
use Rattle.std.proofs.lemmas.Result.{err_from_is_err_and, IfOk-weaker}
use Rattle.qh_spec.specs.Turns.{IsOutput}
use Rattle.qh_spec.specs.declared.sides.Side.TheVariants.{Client, Server}
use Rattle.qh_pair.specs.Full.{IsSentOut, ToldAsBefore}
use Rattle.qh_pair.specs.Pair.{PairState}
use Rattle.qh_pair.specs.Steps.{AreOutputs}
use Rattle.qh_pair.specs.Turn.{IsNotLost}
use Rattle.qh_pair.proofs.ClockSteps.{both_keep}
use Rattle.qh_pair.proofs.EndsAt.{whole_at}
use Rattle.qh_pair.proofs.Faults.{fault_behind, fault_last}
use Rattle.qh_pair.proofs.PairEnds.{step_client, step_server}
use Rattle.qh_pair.proofs.PairSteps.{run_by_step, step_kind, step_trans}
use Rattle.qh_pair.proofs.Turns.{ok_always}
use Rattle.qh_pair.proofs.pair.Pair.transmit.Goals as goal

pub transmit_at-requires-clause-whole : goal.transmit_at-requires-clause-whole
transmit_at-requires-clause-whole g c = whole_at Client _ _ _ _ c.self.invariant.1.running.client.at.stands

pub transmit_at-requires-2-clause-whole : goal.transmit_at-requires-2-clause-whole
transmit_at-requires-2-clause-whole g c = whole_at Server _ _ _ _ c.self.invariant.1.running.server.at.stands

pub transmit_at-requires-clause-going : goal.transmit_at-requires-clause-going
transmit_at-requires-clause-going g c = subst (λ (z : PairState). IsNotLost z.client_end) (sym c.self.view_is) c.requires.going.client

pub transmit_at-requires-2-clause-going : goal.transmit_at-requires-2-clause-going
transmit_at-requires-2-clause-going g c = subst (λ (z : PairState). IsNotLost z.server_end) (sym c.self.view_is) c.requires.going.server

pub invariant_of-self : goal.invariant_of-self
invariant_of-self g c = (
  c.self.invariant.0,
  run_by_step _ _ _ _ _ _ [] [] _ (ap (λ (z : PairState). z.is_over) c.self.view_is ∙ c.requires.over) c.self.invariant.1
      (step_client _ _ _ _ _ _ [] _ (rw c.self.view_is c.requires.counted) (c.in_err-transmit_at.ensures.step _ _)),
)

pub invariant_of-self-2 : goal.invariant_of-self-2
invariant_of-self-2 g c =
    let over = ap (λ (z : PairState). z.is_over) c.self.view_is ∙ c.requires.over in
    let first = step_client _ _ _ _ _ _ [] _ (rw c.self.view_is c.requires.counted) (c.in_ok-transmit_at.ensures.step _ _) in (
      c.self.invariant.0,
      run_by_step _ _ _ _ _ _ [] [] _ over (run_by_step _ _ _ _ _ _ [] [] _ over c.self.invariant.1 first)
          (step_server _ _ _ _ _ _ [] _ (first.counted refl) (c.transmit_at-2.ensures.step _ _)),
    )

pub returns-in_err-transmit_at-clause-step : goal.returns-in_err-transmit_at-clause-step
returns-in_err-transmit_at-clause-step g c =
    let p = err_from_is_err_and c.from_residual.result c.from_residual.ensures.1 in
    rw (← c.self.view_is, p.1)
    (λ served. step_kind _ _ _ _ _ _ _ _ _ _ (step_client _ _ _ _ _ _ served _ (rw c.self.view_is c.requires.counted) (c.in_err-transmit_at.ensures.step _ _)) (λ x k. tt))

pub returns-clause-step : goal.returns-clause-step
returns-clause-step g c =
    let first = step_client _ _ _ _ _ _ [] _ (rw c.self.view_is c.requires.counted) (c.in_ok-transmit_at.ensures.step _ _) in
    rw (← c.self.view_is)
    (λ served. step_trans _ _ _ _ _ _ _ _ _ _ _ _ _ _ (step_client _ _ _ _ _ _ served _ (rw c.self.view_is c.requires.counted) (c.in_ok-transmit_at.ensures.step _ _))
    (step_server _ _ _ _ _ _ served _ (first.counted refl) (c.transmit_at-2.ensures.step _ _))
    (λ x y k m. IfOk-weaker c.transmit_at-2.result (λ z. IsOutput Server y × IsSentOut Server c.transmit_at-2.new.slot y × ToldAsBefore _ _) (λ z. AreOutputs _ (x ++ y))
    (λ z i. record { by_client = x; by_server = y; are = refl; client_sends = k.0; server_sends = i.0; client_is_done = k.1; server_is_done = i.1 }) m))

pub returns-clause-told : goal.returns-clause-told
returns-clause-told g c =
    let first = c.in_ok-transmit_at.ensures.step c.self.inside.ids c.self.inside.config in
    let second = c.transmit_at-2.ensures.step c.self.inside.ids c.self.inside.config in
    rw (← c.self.view_is) (IfOk-weaker c.transmit_at-2.result _ _ (λ z i. (first.kind.2, i.2)) second.kind)

pub returns-clause-open : goal.returns-clause-open
returns-clause-open g c = ok_always c.transmit_at-2.result _ (c.in_ok-transmit_at.ensures.open ∙ (ap (λ (z : PairState). is_some z.client_end) c.self.view_is ∙ c.requires.open))

pub returns-clause-fault : goal.returns-clause-fault
returns-clause-fault g c =
    fault_last c.transmit_at-2.result _ _ (let first = c.in_ok-transmit_at.ensures.step c.self.inside.ids c.self.inside.config in fault_behind _ _ _ first.more first.told_is) c.transmit_at-2.ensures.fault

pub returns-clause-ticking : goal.returns-clause-ticking
returns-clause-ticking g c = rw (← c.self.view_is) (both_keep _ _ _ _ _ (c.in_ok-transmit_at.ensures.step c.self.inside.ids c.self.inside.config).undisturbed (c.transmit_at-2.ensures.step c.self.inside.ids c.self.inside.config).undisturbed)

pub returns-in_err-transmit_at-clause-there : goal.returns-in_err-transmit_at-clause-there
returns-in_err-transmit_at-clause-there g c = ap (λ (z : PairState). is_some z.server_end) c.self.view_is

pub returns-clause-there : goal.returns-clause-there
returns-clause-there g c = c.transmit_at-2.ensures.open ∙ ap (λ (z : PairState). is_some z.server_end) c.self.view_is
