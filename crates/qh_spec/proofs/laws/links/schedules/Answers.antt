use Rattle.qh_spec.proofs.Schedules.{unforged_is_honest}
use Rattle.qh_spec.proofs.Prompt.{quiet_is_prompt}
use Rattle.qh_spec.proofs.laws.links.schedules.Goals as goal

pub returns-clause-honest : goal.returns-clause-honest
returns-clause-honest c = unforged_is_honest

pub returns-clause-prompt : goal.returns-clause-prompt
returns-clause-prompt c = quiet_is_prompt
