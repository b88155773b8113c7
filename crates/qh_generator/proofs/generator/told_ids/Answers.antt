use Rattle.qh_generator.proofs.Tries.{ids_append, ids_count, ids_told}
use Rattle.qh_generator.proofs.generator.told_ids.Goals as goal

pub returns-clause-told : goal.returns-clause-told
returns-clause-told c = ids_told

pub returns-clause-count : goal.returns-clause-count
returns-clause-count c = ids_count

pub returns-clause-more : goal.returns-clause-more
returns-clause-more c = ids_append
