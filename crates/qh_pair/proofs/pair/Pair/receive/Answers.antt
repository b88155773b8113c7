use Rattle.std.proofs.Common.{◌≡◌, true, refl, ◌++◌, [], ap, ◌∙◌}
use Rattle.std.specs.Prelude.{is_some}
use Rattle.std.proofs.lemmas.Result.{err_from_is_err_and, IfOk-weaker}
use Rattle.qh_spec.specs.Turns.{IsIntake}
use Rattle.qh_spec.specs.declared.sides.Side.TheVariants.{Client, Server}
use Rattle.qh_pair.specs.Full.{OpensBy}
use Rattle.qh_pair.specs.Pair.{PairState}
use Rattle.qh_pair.specs.Steps.{AreIntakes}
use Rattle.qh_pair.proofs.ClockSteps.{both_keep}
use Rattle.qh_pair.proofs.EndsAt.{whole_at}
use Rattle.qh_pair.proofs.Faults.{fault_behind, fault_last}
use Rattle.qh_pair.proofs.PairEnds.{step_client, step_server}
use Rattle.qh_pair.proofs.PairSteps.{run_by_step, step_kind, step_trans}
use Rattle.qh_pair.proofs.Turns.{ok_always}
use Rattle.qh_pair.proofs.pair.Pair.receive.Goals as goal

pub receive_at-requires-clause-client : goal.receive_at-requires-clause-client
receive_at-requires-clause-client g c = λ is. ap (λ (z : PairState). is_some z.client_end) c.self.view_is ∙ c.requires.open

pub receive_at-requires-clause-whole : goal.receive_at-requires-clause-whole
receive_at-requires-clause-whole g c = whole_at Client _ _ _ _ c.self.invariant.1.running.client.at.stands

pub receive_at-requires-2-clause-whole : goal.receive_at-requires-2-clause-whole
receive_at-requires-2-clause-whole g c = whole_at Server _ _ _ _ c.self.invariant.1.running.server.at.stands

pub invariant_of-self : goal.invariant_of-self
invariant_of-self g c = (
  c.self.invariant.0,
  run_by_step _ _ _ _ _ _ [] [] _ (ap (λ (z : PairState). z.is_over) c.self.view_is ∙ c.requires.over) c.self.invariant.1
      (step_client _ _ _ _ _ _ [] _ (rw c.self.view_is c.requires.counted) c.in_err-receive_at.ensures.step),
)

pub invariant_of-self-2 : goal.invariant_of-self-2
invariant_of-self-2 g c =
    let over = ap (λ (z : PairState). z.is_over) c.self.view_is ∙ c.requires.over in
    let first = step_client _ _ _ _ _ _ [] _ (rw c.self.view_is c.requires.counted) c.in_ok-receive_at.ensures.step in (
      c.self.invariant.0,
      run_by_step _ _ _ _ _ _ [] [] _ over (run_by_step _ _ _ _ _ _ [] [] _ over c.self.invariant.1 first)
          (step_server _ _ _ _ _ _ [] _ (first.counted refl) c.receive_at-2.ensures.step),
    )

pub returns-in_err-receive_at-clause-step : goal.returns-in_err-receive_at-clause-step
returns-in_err-receive_at-clause-step g c =
    let p = err_from_is_err_and c.from_residual.result c.from_residual.ensures.1 in
    rw (← c.self.view_is, p.1)
    (λ served. step_kind _ _ _ _ _ _ _ _ _ _ (step_client _ _ _ _ _ _ served _ (rw c.self.view_is c.requires.counted) c.in_err-receive_at.ensures.step) (λ x k. tt))

pub returns-clause-step : goal.returns-clause-step
returns-clause-step g c =
    let first = step_client _ _ _ _ _ _ [] _ (rw c.self.view_is c.requires.counted) c.in_ok-receive_at.ensures.step in
    rw (← c.self.view_is)
    (λ served. step_trans _ _ _ _ _ _ _ _ _ _ _ _ _ _ (step_client _ _ _ _ _ _ served _ (rw c.self.view_is c.requires.counted) c.in_ok-receive_at.ensures.step)
    (step_server _ _ _ _ _ _ served _ (first.counted refl) c.receive_at-2.ensures.step)
    (λ x y k m. IfOk-weaker c.receive_at-2.result (λ z. IsIntake Server y × OpensBy c.self.inside.ids Server y (is_some c.receive_at-2.new.slot ≡ true)) (λ z. AreIntakes c.self.inside.ids (is_some c.receive_at-2.new.slot) (x ++ y))
    (λ z i. record { to_client = x; to_server = y; are = refl; client_takes = k.0; server_takes = i.0; opened = i.1 }) m))

pub returns-clause-open : goal.returns-clause-open
returns-clause-open g c = ok_always c.receive_at-2.result _ (c.in_ok-receive_at.ensures.open (ap (λ (z : PairState). is_some z.client_end) c.self.view_is ∙ c.requires.open))

pub returns-clause-fault : goal.returns-clause-fault
returns-clause-fault g c =
    fault_last c.receive_at-2.result _ _ (fault_behind _ _ _ c.in_ok-receive_at.ensures.step.more c.in_ok-receive_at.ensures.step.told_is) c.receive_at-2.ensures.fault

pub returns-clause-ticking : goal.returns-clause-ticking
returns-clause-ticking g c = rw (← c.self.view_is) (both_keep _ _ _ _ _ c.in_ok-receive_at.ensures.step.undisturbed c.receive_at-2.ensures.step.undisturbed)
