use Rattle.qh_spec.proofs.OwedLaws.{unsent_owed, unheard_owed, other_ack_owed, initial_ack_owed, behind_owed, elsewhere_owed, acked_not_owed, unwritten_not_owed, end_owed, open_end_owed, acked_end_not_owed, unfinished_not_owed}
use Rattle.qh_spec.proofs.laws.owing.rows.Goals as goal

pub returns-clause-unsent : goal.returns-clause-unsent
returns-clause-unsent c = unsent_owed

pub returns-clause-unheard : goal.returns-clause-unheard
returns-clause-unheard c = unheard_owed

pub returns-clause-another_number : goal.returns-clause-another_number
returns-clause-another_number c = other_ack_owed

pub returns-clause-another_space : goal.returns-clause-another_space
returns-clause-another_space c = initial_ack_owed

pub returns-clause-behind : goal.returns-clause-behind
returns-clause-behind c = behind_owed

pub returns-clause-elsewhere : goal.returns-clause-elsewhere
returns-clause-elsewhere c = elsewhere_owed

pub returns-clause-acknowledged : goal.returns-clause-acknowledged
returns-clause-acknowledged c = acked_not_owed

pub returns-clause-unwritten : goal.returns-clause-unwritten
returns-clause-unwritten c = unwritten_not_owed

pub returns-clause-end : goal.returns-clause-end
returns-clause-end c = end_owed

pub returns-clause-endless : goal.returns-clause-endless
returns-clause-endless c = open_end_owed

pub returns-clause-end_acknowledged : goal.returns-clause-end_acknowledged
returns-clause-end_acknowledged c = acked_end_not_owed

pub returns-clause-unfinished : goal.returns-clause-unfinished
returns-clause-unfinished c = unfinished_not_owed
