use Rattle.qh_spec.proofs.ValidityLaws.{get_valid, get_too_long, connect_invalid, connect_index, many_index, one_valid, two_invalid}
use Rattle.qh_spec.proofs.laws.requests.validity.Goals as goal

pub returns-clause-get : goal.returns-clause-get
returns-clause-get c = get_valid

pub returns-clause-too_long : goal.returns-clause-too_long
returns-clause-too_long c = get_too_long

pub returns-clause-connect : goal.returns-clause-connect
returns-clause-connect c = connect_invalid

pub returns-clause-second : goal.returns-clause-second
returns-clause-second c = connect_index

pub returns-clause-many : goal.returns-clause-many
returns-clause-many c = many_index

pub returns-clause-list : goal.returns-clause-list
returns-clause-list c = one_valid

pub returns-clause-not_list : goal.returns-clause-not_list
returns-clause-not_list c = two_invalid
