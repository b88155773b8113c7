use Rattle.std.proofs.Common.{rules, refl}
use Rattle.std.proofs.lemmas.Fn.{filter_same}
use Rattle.qh_roles.proofs.ClientGoes.{client_filter}
use Rattle.qh_roles.specs.ClientSteps.{is_left}
use Rattle.qh_roles.proofs.client.Client.forget_done.Goals as goal

pub invariant_of-self : goal.invariant_of-self
invariant_of-self c =
    let kept = filter_same _ is_left _ (λ x b f k. search rules) _ _ c.retain.ensures.filtered in
    rw kept (client_filter (record { requests = c.self.inside.requests.items; next = c.self.inside.next; streams = c.self.inside.streams.items; answers = c.self.inside.answers.items }) is_left c.self.invariant.0, c.self.invariant.1)

pub returns : goal.returns
returns c =
    let kept = filter_same _ is_left _ (λ x b f k. search rules) _ _ c.retain.ensures.filtered in
    rw (← c.self.view_is, kept) refl
