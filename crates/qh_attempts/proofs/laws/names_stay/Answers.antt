use Rattle.qh_attempts.proofs.Names.{name_pending, name_stays}
use Rattle.qh_attempts.proofs.laws.names_stay.Goals as goal

pub returns-clause-stay : goal.returns-clause-stay
returns-clause-stay g c = name_stays

pub returns-clause-pending : goal.returns-clause-pending
returns-clause-pending g c = name_pending
