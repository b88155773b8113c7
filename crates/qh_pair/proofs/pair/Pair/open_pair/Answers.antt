use Rattle.std.proofs.Common.{ap, sym, ◌∙◌, length}
use Rattle.qh_roles.specs.Client.{PlainClient}
use Rattle.qh_pair.proofs.pair.Pair.open_pair.Goals as goal

pub of_client-requires-clause-unopened : goal.of_client-requires-clause-unopened
of_client-requires-clause-unopened c = ap (λ (z : PlainClient). z.next) c.new.ensures.value

pub of_client-requires-clause-places : goal.of_client-requires-clause-places
of_client-requires-clause-places c =
    let is = c.new.ensures.value in ap (λ (z : PlainClient). length z.answers) is ∙ sym (ap (λ (z : PlainClient). length z.requests) is)
