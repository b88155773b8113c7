use Rattle.qh_spec.proofs.HelloSaidRows.{full_says, plain_says, numbers_said, full_says_not, plain_says_not, name_not}
use Rattle.qh_spec.proofs.laws.hellos.said_rows.Goals as goal

pub returns-clause-full : goal.returns-clause-full
returns-clause-full c = full_says

pub returns-clause-plain : goal.returns-clause-plain
returns-clause-plain c = plain_says

pub returns-clause-numbers : goal.returns-clause-numbers
returns-clause-numbers c = numbers_said

pub returns-clause-near_full : goal.returns-clause-near_full
returns-clause-near_full c = full_says_not

pub returns-clause-near_plain : goal.returns-clause-near_plain
returns-clause-near_plain c = plain_says_not

pub returns-clause-near_name : goal.returns-clause-near_name
returns-clause-near_name c = name_not
