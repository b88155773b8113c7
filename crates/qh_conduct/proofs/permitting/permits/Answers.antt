use Rattle.qh_conduct.proofs.PermittedCounts.{made_permits, none_permits}
use Rattle.qh_conduct.proofs.permitting.permits.Goals as goal

pub returns-clause-made : goal.returns-clause-made
returns-clause-made g c = made_permits

pub returns-clause-none : goal.returns-clause-none
returns-clause-none g c = none_permits
