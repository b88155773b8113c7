use Rattle.qh_exchange.proofs.Endings.{answered_whole}
use Rattle.qh_exchange.proofs.program.run.Goals as goal

pub returns-clause-answered : goal.returns-clause-answered
returns-clause-answered g c = λ z. answered_whole _ _ _ _ _ _ _ _ _ _ _ _ _ _ _ z c.ending_of-ending.ensures.ends c.write_ending.ensures
