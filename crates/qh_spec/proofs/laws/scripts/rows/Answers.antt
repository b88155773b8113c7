use Rattle.qh_spec.proofs.ScriptRows.{empty_is, get_is, third_refused, field_refused, cap_refused}
use Rattle.qh_spec.proofs.laws.scripts.rows.Goals as goal

pub returns-clause-empty : goal.returns-clause-empty
returns-clause-empty c = empty_is

pub returns-clause-third : goal.returns-clause-third
returns-clause-third c = third_refused

pub returns-clause-cap : goal.returns-clause-cap
returns-clause-cap c = cap_refused

pub returns-clause-get : goal.returns-clause-get
returns-clause-get c = get_is

pub returns-clause-first : goal.returns-clause-first
returns-clause-first c = field_refused
