use Rattle.qh_spec.proofs.RecordLaws.{grew_twice}
use Rattle.qh_spec.proofs.laws.records.growth.Goals as goal

pub returns-clause-both : goal.returns-clause-both
returns-clause-both c = grew_twice
