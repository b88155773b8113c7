use Rattle.qh_arrival.proofs.SaidCalls.{fresh_said, limits_said, made_said}
use Rattle.qh_arrival.proofs.saying.said.Goals as goal

pub returns-clause-fresh : goal.returns-clause-fresh
returns-clause-fresh g c = fresh_said

pub returns-clause-made : goal.returns-clause-made
returns-clause-made g c = made_said

pub returns-clause-limits : goal.returns-clause-limits
returns-clause-limits g c = limits_said
