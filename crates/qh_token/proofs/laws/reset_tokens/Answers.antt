use Rattle.qh_token.proofs.Resets.{no_tag_end, reset_once}
use Rattle.qh_token.proofs.laws.reset_tokens.Goals as goal

pub returns-clause-one : goal.returns-clause-one
returns-clause-one c = reset_once

pub returns-clause-apart : goal.returns-clause-apart
returns-clause-apart c = no_tag_end
