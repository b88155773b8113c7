use Rattle.qh_token.proofs.Forms.{token_once}
use Rattle.qh_token.proofs.laws.token_forms.Goals as goal

pub returns-clause-one : goal.returns-clause-one
returns-clause-one c = token_once
