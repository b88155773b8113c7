use Rattle.qh_spec.proofs.RecordLaws.{grew_few, grew_all}
use Rattle.qh_spec.proofs.laws.records.counts.Goals as goal

pub returns-clause-few : goal.returns-clause-few
returns-clause-few c = grew_few

pub returns-clause-all : goal.returns-clause-all
returns-clause-all c = grew_all
