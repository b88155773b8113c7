use Rattle.qh_spec.proofs.OrderRows.{tail_is_part, nothing_is_part, whole_no_part, initial_left_out, data_not_left_out}
use Rattle.qh_spec.proofs.laws.greetings.part_rows.Goals as goal

pub returns-clause-tail : goal.returns-clause-tail
returns-clause-tail c = tail_is_part

pub returns-clause-unheard : goal.returns-clause-unheard
returns-clause-unheard c = nothing_is_part

pub returns-clause-all_of_it : goal.returns-clause-all_of_it
returns-clause-all_of_it c = whole_no_part

pub returns-clause-initial : goal.returns-clause-initial
returns-clause-initial c = initial_left_out

pub returns-clause-left_out : goal.returns-clause-left_out
returns-clause-left_out c = data_not_left_out
