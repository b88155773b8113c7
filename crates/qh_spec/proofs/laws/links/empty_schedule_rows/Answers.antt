use Rattle.qh_spec.proofs.ScheduleRows.{scheduled_is, missing_not, first_not}
use Rattle.qh_spec.proofs.laws.links.empty_schedule_rows.Goals as goal

pub returns-clause-row : goal.returns-clause-row
returns-clause-row c = scheduled_is

pub returns-clause-missing : goal.returns-clause-missing
returns-clause-missing c = missing_not

pub returns-clause-first : goal.returns-clause-first
returns-clause-first c = first_not
