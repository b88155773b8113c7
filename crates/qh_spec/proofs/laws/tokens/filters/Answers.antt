use Rattle.qh_spec.proofs.TokenLogLaws.{refuses_taken, set_refuses}
use Rattle.qh_spec.proofs.laws.tokens.filters.Goals as goal

pub returns-clause-taken : goal.returns-clause-taken
returns-clause-taken c = refuses_taken

pub returns-clause-set : goal.returns-clause-set
returns-clause-set c = set_refuses
