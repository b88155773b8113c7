use Rattle.qh_arrival.proofs.AccordsOn.{fresh_accords, made_accords, open_accords}
use Rattle.qh_arrival.proofs.according.accords.Goals as goal

pub returns-clause-fresh : goal.returns-clause-fresh
returns-clause-fresh g c = fresh_accords

pub returns-clause-made : goal.returns-clause-made
returns-clause-made g c = made_accords

pub returns-clause-open : goal.returns-clause-open
returns-clause-open g c = open_accords
