use Rattle.qh_attempts.proofs.Names.{others_pending, same_pending}
use Rattle.qh_attempts.proofs.laws.others_stay_pending.Goals as goal

pub returns-clause-others : goal.returns-clause-others
returns-clause-others g c = others_pending

pub returns-clause-same : goal.returns-clause-same
returns-clause-same g c = same_pending
