use Rattle.qh_spec.proofs.HeadlineLaws.{each_was_answered, answer_is_recorded, get_answered, not_left_out, not_made_up, not_another}
use Rattle.qh_spec.proofs.laws.promises.answered.Goals as goal

pub returns-clause-each : goal.returns-clause-each
returns-clause-each c = each_was_answered

pub returns-clause-recorded : goal.returns-clause-recorded
returns-clause-recorded c = answer_is_recorded

pub returns-clause-row : goal.returns-clause-row
returns-clause-row c = get_answered

pub returns-clause-left_out : goal.returns-clause-left_out
returns-clause-left_out c = not_left_out

pub returns-clause-made_up : goal.returns-clause-made_up
returns-clause-made_up c = not_made_up

pub returns-clause-recorded_row : goal.returns-clause-recorded_row
returns-clause-recorded_row c = not_another
