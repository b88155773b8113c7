use Rattle.std.proofs.Common.{ℕ, List, [], ◌∷◌, ap}
use Rattle.qh_spec.specs.Words.{exchange, tokens}
use Rattle.qh_script.proofs.command.read_word.Goals as goal

pub returns-in-exchange : goal.returns-in-exchange
returns-in-exchange c = exchange (ap (λ (z : List ℕ). z ∷ []) c.in-exchange.is)

pub returns-in-tokens : goal.returns-in-tokens
returns-in-tokens c = tokens (ap (λ (z : List ℕ). z ∷ []) c.in-tokens.is)
