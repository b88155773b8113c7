use Rattle.qh_routes.proofs.Routing.{answer_is_route, no_answer, routed_once}
use Rattle.qh_routes.proofs.laws.answers_are_one.Goals as goal

pub returns-clause-one : goal.returns-clause-one
returns-clause-one c routes keys r s n a b = routed_once n a b

pub returns-clause-some : goal.returns-clause-some
returns-clause-some c routes keys t a = answer_is_route a

pub returns-clause-none : goal.returns-clause-none
returns-clause-none c routes keys a = no_answer a
