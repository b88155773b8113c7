use Rattle.qh_spec.proofs.HelloAccepted.{written_acceptable}
use Rattle.qh_spec.proofs.HelloFaultLaws.{exclusive, either, one_fault, one_acceptable}
use Rattle.qh_spec.proofs.laws.hellos.faults.Goals as goal

pub returns-clause-exclusive : goal.returns-clause-exclusive
returns-clause-exclusive c = exclusive

pub returns-clause-either : goal.returns-clause-either
returns-clause-either c = either

pub returns-clause-one : goal.returns-clause-one
returns-clause-one c = one_fault

pub returns-clause-one_hello : goal.returns-clause-one_hello
returns-clause-one_hello c = one_acceptable

pub returns-clause-written : goal.returns-clause-written
returns-clause-written c = written_acceptable
