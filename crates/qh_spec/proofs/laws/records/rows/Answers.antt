use Rattle.qh_spec.proofs.EventRows.{entry_grew, wrong_stream, served_twice}
use Rattle.qh_spec.proofs.laws.records.rows.Goals as goal

pub returns-clause-once : goal.returns-clause-once
returns-clause-once c = entry_grew

pub returns-clause-elsewhere : goal.returns-clause-elsewhere
returns-clause-elsewhere c = wrong_stream

pub returns-clause-twice : goal.returns-clause-twice
returns-clause-twice c = served_twice
