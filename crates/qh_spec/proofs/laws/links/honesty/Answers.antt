use Rattle.qh_spec.proofs.EventLaws.{prompt_is_honest, honest_all}
use Rattle.qh_spec.proofs.laws.links.honesty.Goals as goal

pub returns-clause-prompt : goal.returns-clause-prompt
returns-clause-prompt c = prompt_is_honest

pub returns-clause-sent : goal.returns-clause-sent
returns-clause-sent c = honest_all
