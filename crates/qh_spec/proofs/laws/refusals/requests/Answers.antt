use Rattle.std.proofs.Common.{refl}
use Rattle.qh_spec.proofs.RefusalLaws.{request_fault_one, request_has_none, request_judged, hosts_fault}
use Rattle.qh_spec.proofs.laws.refusals.requests.Goals as goal

pub returns-clause-one : goal.returns-clause-one
returns-clause-one c = request_fault_one

pub returns-clause-not_both : goal.returns-clause-not_both
returns-clause-not_both c = request_has_none

pub returns-clause-judged : goal.returns-clause-judged
returns-clause-judged c = request_judged

pub returns-clause-hosts : goal.returns-clause-hosts
returns-clause-hosts c = hosts_fault

pub returns-clause-no_method : goal.returns-clause-no_method
returns-clause-no_method c = refl

pub returns-clause-no_authority : goal.returns-clause-no_authority
returns-clause-no_authority c = (refl, refl, refl)
