use Rattle.std.proofs.Common.{length, refl, sym, ap, subst, ◌∙◌}
use Rattle.qh_roles.proofs.ClientLists.{held_none}
use Rattle.qh_roles.proofs.ClientGoes.{unused, unused_asking, asked_client, asked_asking}
use Rattle.qh_roles.specs.Client.{PlainClient, IsClient, held}
use Rattle.qh_roles.proofs.client.Client.ask.Goals as goal

pub returns-in_err-copies-clause-unused : goal.returns-in_err-copies-clause-unused
returns-in_err-copies-clause-unused c = unused c.args.self.now (subst IsClient c.self.view_is c.self.invariant.0) c.requires.once

pub returns-in_err-copies-clause-asking : goal.returns-in_err-copies-clause-asking
returns-in_err-copies-clause-asking c = unused_asking c.args.self.now (subst IsClient c.self.view_is c.self.invariant.0) c.requires.once

pub returns-in_err-answers-clause-unused : goal.returns-in_err-answers-clause-unused
returns-in_err-answers-clause-unused c = unused c.args.self.now (subst IsClient c.self.view_is c.self.invariant.0) c.requires.once

pub returns-in_err-answers-clause-asking : goal.returns-in_err-answers-clause-asking
returns-in_err-answers-clause-asking c = unused_asking c.args.self.now (subst IsClient c.self.view_is c.self.invariant.0) c.requires.once

pub invariant_of-self : goal.invariant_of-self
invariant_of-self c =
    let next = ap (λ (p : PlainClient). p.next) c.self.view_is ∙ c.requires.once.0 in
    let streams = ap (λ (p : PlainClient). p.streams) c.self.view_is ∙ c.requires.once.1 in (
      asked_client (record { requests = c.in_ok-copies.copies.items; next = c.self.inside.next; streams = c.self.inside.streams.items; answers = c.in_ok-answers.answers.items }) c.args.requests.now (length c.args.requests.now)
          c.in_ok-copies.ensures c.in_ok-answers.ensures refl next streams c.requires.askable,
      sym (ap held c.in_ok-answers.ensures ∙ held_none (length c.args.requests.now)),
    )

pub returns-clause-unused : goal.returns-clause-unused
returns-clause-unused c = (
  ap (λ (p : PlainClient). p.next) c.self.view_is ∙ c.requires.once.0,
  ap (λ (p : PlainClient). p.streams) c.self.view_is ∙ c.requires.once.1,
  ap held c.in_ok-answers.ensures ∙ held_none (length c.args.requests.now),
)

pub returns-clause-asking : goal.returns-clause-asking
returns-clause-asking c =
    asked_asking (record { requests = c.in_ok-copies.copies.items; next = c.self.inside.next; streams = c.self.inside.streams.items; answers = c.in_ok-answers.answers.items }) (length c.args.requests.now)
    c.in_ok-answers.ensures (ap (λ (p : PlainClient). p.streams) c.self.view_is ∙ c.requires.once.1)
