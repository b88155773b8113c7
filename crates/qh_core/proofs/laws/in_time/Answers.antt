use Rattle.qh_core.proofs.InTime.{nothing_due, nothing_lost}
use Rattle.qh_core.proofs.laws.in_time.Goals as goal

pub returns-clause-ack : goal.returns-clause-ack
returns-clause-ack g c = nothing_lost

pub returns-clause-timeout : goal.returns-clause-timeout
returns-clause-timeout g c = nothing_due
