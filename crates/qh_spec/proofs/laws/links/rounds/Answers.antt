use Rattle.qh_spec.proofs.EventLaws.{turns_have_rounds}
use Rattle.qh_spec.proofs.laws.links.rounds.Goals as goal

pub returns : goal.returns
returns c = turns_have_rounds
