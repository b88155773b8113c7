use Rattle.qh_stateless.proofs.Negotiations.{is_negotiation, other_listed, read_again}
use Rattle.qh_stateless.proofs.negotiation.written_versions.Goals as goal

pub returns-clause-is : goal.returns-clause-is
returns-clause-is c = is_negotiation

pub returns-clause-listed : goal.returns-clause-listed
returns-clause-listed c = read_again

pub returns-clause-other : goal.returns-clause-other
returns-clause-other c = other_listed
