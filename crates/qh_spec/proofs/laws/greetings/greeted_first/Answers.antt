use Rattle.qh_spec.proofs.GreetedLaws.{both_greeted}
use Rattle.qh_spec.proofs.laws.greetings.greeted_first.Goals as goal

pub returns : goal.returns
returns c = both_greeted
