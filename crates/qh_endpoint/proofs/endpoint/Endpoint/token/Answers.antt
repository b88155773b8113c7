use Rattle.std.proofs.Common.{ℕ, List, sym, ap, ◌∙◌, rules}
use Rattle.qh_stateless.specs.Words.{and_word}
use Rattle.qh_endpoint.proofs.endpoint.Endpoint.token.Goals as goal

pub returns-in_err-encode-clause-token : goal.returns-in_err-encode-clause-token
returns-in_err-encode-clause-token g c = rw (sym c.self.view_is) (
  c.next-high.result,
  c.next-low.result,
  search rules,
  search rules,
  c.next-low.ensures ∙ ap (λ (z : List ℕ). and_word z c.next-low.result) c.next-high.ensures,
  search rules,
)
