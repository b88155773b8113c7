use Rattle.std.proofs.Common.{◌≡◌, ◌++◌, Ok, None, ap, ◌∙◌, subst}
use Rattle.qh_roles.proofs.ClientLaws.{advanced_err, advances_as, advances_after}
use Rattle.qh_roles.specs.ClientSteps.{IsAdvanced, IsSent}
use Rattle.qh_roles.specs.declared.client.RequestState.TheVariants.{Receiving}
use Rattle.qh_roles.proofs.client.RequestState.advance.Goals as goal

pub returns-in_err-state-clause-advances : goal.returns-in_err-state-clause-advances
returns-in_err-state-clause-advances g c = λ requests index start before t f is.
    advances_as start before (IsAdvanced requests index c.from_residual.result) (IsSent requests index c.send.result) requests index c.send.new.connection t
    (λ u h. advanced_err requests index c.from_residual.result u c.from_residual.ensures.0) (c.send.ensures.sends requests index start before t f is)

pub returns-in-Receiving-clause-advances : goal.returns-in-Receiving-clause-advances
returns-in-Receiving-clause-advances g c = λ requests index start before t f is.
    let first = c.send.ensures.sends requests index start before t f is in
    let sent : c.send.result ≡ Ok (Receiving c.in-Receiving.incoming) = c.in_ok-state.was ∙ ap Ok c.in-Receiving.is in
    let reading = subst (λ r. IsSent requests index r (t ++ first.acts)) sent first.is in
    advances_after start before (IsAdvanced requests index c.receive.result) (IsSent requests index c.send.result) requests index c.send.new.connection c.receive.new.connection t first
    (c.receive.ensures.receives requests index start before (t ++ first.acts) first.follows reading.0 reading.1)

pub returns-in_default : goal.returns-in_default
returns-in_default g c = record {
  stirred = c.send.ensures.stirred;
  advances = λ requests index start before t f is.
      advances_as start before (IsAdvanced requests index (Ok (c.in_ok-state.state, None))) (IsSent requests index c.send.result) requests index c.send.new.connection t
      (λ u h. (subst (λ r. IsSent requests index r u) c.in_ok-state.was h, tt)) (c.send.ensures.sends requests index start before t f is);
}
