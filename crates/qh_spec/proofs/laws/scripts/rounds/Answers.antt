use Rattle.qh_spec.proofs.ScriptNumbers.{small_is}
use Rattle.qh_spec.proofs.laws.scripts.rounds.Goals as goal

pub returns-clause-small : goal.returns-clause-small
returns-clause-small c = small_is
