use Rattle.qh_spec.proofs.WordLaws.{one_command, exchange_is, make_is, none_unknown, misspelled_unknown, many_unknown, zero_unknown}
use Rattle.qh_spec.proofs.laws.scripts.words.Goals as goal

pub returns-clause-one : goal.returns-clause-one
returns-clause-one c = one_command

pub returns-clause-exchange : goal.returns-clause-exchange
returns-clause-exchange c = exchange_is

pub returns-clause-make : goal.returns-clause-make
returns-clause-make c = make_is

pub returns-clause-none : goal.returns-clause-none
returns-clause-none c = none_unknown

pub returns-clause-misspelled : goal.returns-clause-misspelled
returns-clause-misspelled c = misspelled_unknown

pub returns-clause-many : goal.returns-clause-many
returns-clause-many c = many_unknown

pub returns-clause-zero : goal.returns-clause-zero
returns-clause-zero c = zero_unknown
