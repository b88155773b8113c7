use Rattle.qh_spec.proofs.EventRows.{prompt_is, early_is_not, echoed_is_not, turn_is, turned_is_not}
use Rattle.qh_spec.proofs.laws.links.rows.Goals as goal

pub returns-clause-prompt : goal.returns-clause-prompt
returns-clause-prompt c = prompt_is

pub returns-clause-early : goal.returns-clause-early
returns-clause-early c = early_is_not

pub returns-clause-echoed : goal.returns-clause-echoed
returns-clause-echoed c = echoed_is_not

pub returns-clause-turn : goal.returns-clause-turn
returns-clause-turn c = turn_is

pub returns-clause-turned : goal.returns-clause-turned
returns-clause-turned c = turned_is_not
