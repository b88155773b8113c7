use Rattle.qh_spec.proofs.ValidityLaws.{fault_index_one, valid_no_fault, no_fault_few, no_fault_each}
use Rattle.qh_spec.proofs.laws.requests.faults.Goals as goal

pub returns-clause-one : goal.returns-clause-one
returns-clause-one c = fault_index_one

pub returns-clause-none : goal.returns-clause-none
returns-clause-none c = valid_no_fault

pub returns-clause-few : goal.returns-clause-few
returns-clause-few c = no_fault_few

pub returns-clause-each : goal.returns-clause-each
returns-clause-each c = no_fault_each
