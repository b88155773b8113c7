use Rattle.std.proofs.Common.{◌≡◌, refl, [], ◌++◌, ap, sym, subst, ◌∙◌, Some, List}
use Rattle.qh_spec.specs.declared.link.Event.{Event}
use Rattle.std.specs.Prelude.{is_some}
use Rattle.qh_pair.specs.Pair.{PairState}
use Rattle.qh_pair.specs.Turn.{IsNotLost}
use Rattle.qh_pair.proofs.ClockSteps.{client_rests, roles_rest}
use Rattle.qh_pair.proofs.PairRoles.{client_asks, client_side, client_still_goes, server_there, client_there, server_serves, server_side, server_still_goes}
use Rattle.qh_pair.proofs.PairSteps.{run_by_rest, run_by_step, step_still, step_trans}
use Rattle.qh_pair.proofs.RoleCalls.{CallLaws}
use Rattle.qh_pair.proofs.pair.Pair.converse.Goals as goal

pub ask_at-requires-clause-open : goal.ask_at-requires-clause-open
ask_at-requires-clause-open g c = ap (λ (z : PairState). is_some z.client_end) c.self.view_is ∙ c.requires.open

pub ask_at-requires-clause-side : goal.ask_at-requires-clause-side
ask_at-requires-clause-side g c = client_side _ c.self.invariant.1

pub ask_at-requires-clause-going : goal.ask_at-requires-clause-going
ask_at-requires-clause-going g c = subst (λ (z : PairState). IsNotLost z.client_end) (sym c.self.view_is) c.requires.going.client

pub serve_at-requires-clause-side : goal.serve_at-requires-clause-side
serve_at-requires-clause-side g c = server_side _ c.self.invariant.1

pub serve_at-requires-clause-going : goal.serve_at-requires-clause-going
serve_at-requires-clause-going g c = subst (λ (z : PairState). IsNotLost z.server_end) (sym c.self.view_is) c.requires.going.server

pub invariant_of-self : goal.invariant_of-self
invariant_of-self g c =
    let laws : CallLaws = (record { called = c.sends.ensures.called; honest = c.honest_ends.ensures.called; same = c.same_connection.ensures.called; lawful = c.converses.ensures.lawful_open }) in
    let going = subst (λ (z : PairState). IsNotLost z.client_end) (sym c.self.view_is) c.requires.going.client in (
      c.self.invariant.0,
      run_by_rest _ _ (ap (λ (z : PairState). z.is_over) c.self.view_is ∙ c.requires.over) c.self.invariant.1
          (client_asks laws _ _ (rw c.self.view_is c.requires.counted) going c.in_err-ask_at.ensures.up c.in_err-ask_at.ensures.polled refl),
    )

pub invariant_of-self-2 : goal.invariant_of-self-2
invariant_of-self-2 g c =
    let laws : CallLaws = (record { called = c.sends.ensures.called; honest = c.honest_ends.ensures.called; same = c.same_connection.ensures.called; lawful = c.converses.ensures.lawful_open }) in
    let over = ap (λ (z : PairState). z.is_over) c.self.view_is ∙ c.requires.over in
    let client = subst (λ (z : PairState). IsNotLost z.client_end) (sym c.self.view_is) c.requires.going.client in
    let server = subst (λ (z : PairState). IsNotLost z.server_end) (sym c.self.view_is) c.requires.going.server in
    let first = client_asks laws _ _ (rw c.self.view_is c.requires.counted) client c.in_ok-ask_at.ensures.up c.in_ok-ask_at.ensures.polled refl in (
      c.self.invariant.0,
      run_by_step 0 _ _ _ _ _ _ _ _ over (run_by_rest _ _ over c.self.invariant.1 first)
          (server_serves laws _ _ _ (Some []) _ _ first.counted server c.serve_at.ensures.up c.serve_at.ensures.polled refl),
    )

pub returns-in_err-ask_at-clause-step : goal.returns-in_err-ask_at-clause-step
returns-in_err-ask_at-clause-step g c =
    let laws : CallLaws = (record { called = c.sends.ensures.called; honest = c.honest_ends.ensures.called; same = c.same_connection.ensures.called; lawful = c.converses.ensures.lawful_open }) in
    let going = subst (λ (z : PairState). IsNotLost z.client_end) (sym c.self.view_is) c.requires.going.client in
    rw (← c.self.view_is)
    (λ now told. step_still now _ _ told _ _ (client_asks laws _ _ (rw c.self.view_is c.requires.counted) going c.in_err-ask_at.ensures.up c.in_err-ask_at.ensures.polled refl) refl)

pub returns-in_err-ask_at-clause-open : goal.returns-in_err-ask_at-clause-open
returns-in_err-ask_at-clause-open g c = client_there _ _ _ _ c.in_err-ask_at.ensures.polled (ap (λ (z : PairState). is_some z.client_end) c.self.view_is ∙ c.requires.open)

pub returns-in_err-ask_at-clause-going : goal.returns-in_err-ask_at-clause-going
returns-in_err-ask_at-clause-going g c = record {
  client = client_still_goes _ _ _ _ c.in_err-ask_at.ensures.polled (subst (λ (z : PairState). IsNotLost z.client_end) (sym c.self.view_is) c.requires.going.client);
  server = subst (λ (z : PairState). IsNotLost z.server_end) (sym c.self.view_is) c.requires.going.server;
}

pub returns-in_err-ask_at-clause-ticking : goal.returns-in_err-ask_at-clause-ticking
returns-in_err-ask_at-clause-ticking g c = rw (← c.self.view_is) (λ moments t. client_rests _ _ moments c.in_err-ask_at.ensures.polled refl refl t)

pub returns-clause-step : goal.returns-clause-step
returns-clause-step g c =
    let laws : CallLaws = (record { called = c.sends.ensures.called; honest = c.honest_ends.ensures.called; same = c.same_connection.ensures.called; lawful = c.converses.ensures.lawful_open }) in
    let client = subst (λ (z : PairState). IsNotLost z.client_end) (sym c.self.view_is) c.requires.going.client in
    let server = subst (λ (z : PairState). IsNotLost z.server_end) (sym c.self.view_is) c.requires.going.server in
    let first = client_asks laws _ _ (rw c.self.view_is c.requires.counted) client c.in_ok-ask_at.ensures.up c.in_ok-ask_at.ensures.polled refl in
    rw (← c.self.view_is)
    (λ now told. step_trans now _ _ _ _ _ _ _ _ _ _ (λ more. more ≡ []) (λ more. more ≡ []) (λ more. more ≡ []) (step_still now _ _ told _ (λ more. more ≡ []) first refl)
    (server_serves laws now _ _ told _ _ first.counted server c.serve_at.ensures.up c.serve_at.ensures.polled refl) (λ x y k m. ap (λ (z : List Event). z ++ y) k ∙ m))

pub returns-clause-open : goal.returns-clause-open
returns-clause-open g c = client_there _ _ _ _ c.in_ok-ask_at.ensures.polled (ap (λ (z : PairState). is_some z.client_end) c.self.view_is ∙ c.requires.open)

pub returns-clause-going : goal.returns-clause-going
returns-clause-going g c = record {
  client = client_still_goes _ _ _ _ c.in_ok-ask_at.ensures.polled (subst (λ (z : PairState). IsNotLost z.client_end) (sym c.self.view_is) c.requires.going.client);
  server = server_still_goes _ _ _ _ _ _ c.serve_at.ensures.polled (subst (λ (z : PairState). IsNotLost z.server_end) (sym c.self.view_is) c.requires.going.server);
}

pub returns-clause-ticking : goal.returns-clause-ticking
returns-clause-ticking g c = rw (← c.self.view_is) (λ moments t. roles_rest _ _ moments c.in_ok-ask_at.ensures.polled c.serve_at.ensures.polled refl t)

pub returns-in_err-ask_at-clause-there : goal.returns-in_err-ask_at-clause-there
returns-in_err-ask_at-clause-there g c there = ap (λ (z : PairState). is_some z.server_end) c.self.view_is ∙ there

pub returns-clause-there : goal.returns-clause-there
returns-clause-there g c there = server_there _ _ _ _ _ _ c.serve_at.ensures.polled (ap (λ (z : PairState). is_some z.server_end) c.self.view_is ∙ there)
