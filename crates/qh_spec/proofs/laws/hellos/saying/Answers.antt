use Rattle.qh_spec.proofs.HelloLaws.{one_number, one_limits, one_size, one_token}
use Rattle.qh_spec.proofs.laws.hellos.saying.Goals as goal

pub returns-clause-one_number : goal.returns-clause-one_number
returns-clause-one_number c = one_number

pub returns-clause-one_limits : goal.returns-clause-one_limits
returns-clause-one_limits c = one_limits

pub returns-clause-one_size : goal.returns-clause-one_size
returns-clause-one_size c = one_size

pub returns-clause-one_token : goal.returns-clause-one_token
returns-clause-one_token c = one_token
