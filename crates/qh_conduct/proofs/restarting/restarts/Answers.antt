use Rattle.qh_conduct.proofs.IdleRestarts.{fresh_sealed, made_sealed, quiet_sealed, restarted_since}
use Rattle.qh_conduct.proofs.restarting.restarts.Goals as goal

pub returns-clause-fresh : goal.returns-clause-fresh
returns-clause-fresh g c = fresh_sealed

pub returns-clause-quiet : goal.returns-clause-quiet
returns-clause-quiet g c = quiet_sealed

pub returns-clause-made : goal.returns-clause-made
returns-clause-made g c = made_sealed

-- open: that want of memory didn't end the end that takes the datagram
pub returns-clause-restarted : goal.returns-clause-restarted
returns-clause-restarted g c = restarted_since
