use Rattle.std.proofs.Common.{◌<◌, Some, length, subst, sym, ap, ◌∙◌, arith}
use Rattle.std.proofs.lemmas.Option.{slice_get-get_or}
use Rattle.qh_roles.proofs.ClientGoes.{client_set}
use Rattle.qh_roles.specs.Client.{PlainClient}
use Rattle.qh_roles.proofs.client.Client.replace.Goals as goal

pub invariant_of-self : goal.invariant_of-self
invariant_of-self c =
    let next = ap (λ (p : PlainClient). p.next) c.self.view_is in
    (rw c.replace.ensures.after (client_set _ c.args.at c.args.stream (omega (arith, next, c.requires.opened)) c.self.invariant.0), c.self.invariant.1)

pub returns-clause-value : goal.returns-clause-value
returns-clause-value c =
    let within = c.requires.within in
    rw (← c.self.view_is, c.replace.ensures.value)
    (slice_get-get_or c.self.inside.streams.items c.args.at c.index_mut.result.now (subst (λ (p : PlainClient). c.args.at < length p.streams) (sym c.self.view_is) within) ∙ ap Some (sym c.index_mut.ensures.value))
