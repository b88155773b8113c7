use Rattle.qh_spec.proofs.HeadlineLaws.{served_nothing, served_of_nothing, served_not_twice, get_served, not_altered}
use Rattle.qh_spec.proofs.laws.promises.served.Goals as goal

pub returns-clause-nothing : goal.returns-clause-nothing
returns-clause-nothing c = served_nothing

pub returns-clause-of_nothing : goal.returns-clause-of_nothing
returns-clause-of_nothing c = served_of_nothing

pub returns-clause-twice : goal.returns-clause-twice
returns-clause-twice c = served_not_twice

pub returns-clause-row : goal.returns-clause-row
returns-clause-row c = get_served

pub returns-clause-altered : goal.returns-clause-altered
returns-clause-altered c = not_altered
