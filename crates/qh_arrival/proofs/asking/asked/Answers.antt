use Rattle.qh_arrival.proofs.AskedCalls.{fresh_asked, made_asked, were_asked}
use Rattle.qh_arrival.proofs.asking.asked.Goals as goal

pub returns-clause-fresh : goal.returns-clause-fresh
returns-clause-fresh g c = fresh_asked

pub returns-clause-made : goal.returns-clause-made
returns-clause-made g c = made_asked

pub returns-clause-were : goal.returns-clause-were
returns-clause-were g c = were_asked
