use Rattle.qh_h3wire.proofs.ReadAgain.{taken, same}
use Rattle.qh_h3wire.proofs.laws.read_again.Goals as goal

pub returns-clause-taken : goal.returns-clause-taken
returns-clause-taken c = taken

pub returns-clause-same : goal.returns-clause-same
returns-clause-same c = same
