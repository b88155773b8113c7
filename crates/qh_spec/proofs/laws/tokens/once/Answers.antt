use Rattle.qh_spec.proofs.TokenLogLaws.{no_token_twice}
use Rattle.qh_spec.proofs.laws.tokens.once.Goals as goal

pub returns : goal.returns
returns c = record { once = no_token_twice }
