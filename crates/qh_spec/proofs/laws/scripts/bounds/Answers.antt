use Rattle.qh_spec.proofs.ScriptBounds.{few_rounds, short_step, upsets_are, requests_are}
use Rattle.qh_spec.proofs.laws.scripts.bounds.Goals as goal

pub returns-clause-rounds : goal.returns-clause-rounds
returns-clause-rounds c = few_rounds

pub returns-clause-step : goal.returns-clause-step
returns-clause-step c = short_step

pub returns-clause-schedule : goal.returns-clause-schedule
returns-clause-schedule c = upsets_are

pub returns-clause-requests : goal.returns-clause-requests
returns-clause-requests c = requests_are
