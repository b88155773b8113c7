use Rattle.qh_spec.proofs.LawfulRows.{nothing_lawful, writer_lawful, reader_lawful, unwritten_not, unfinished_not, short_end_not, uncarried_not, shifted_not, early_end_not}
use Rattle.qh_spec.proofs.laws.bridges.lawful_rows.Goals as goal

pub returns-clause-nothing : goal.returns-clause-nothing
returns-clause-nothing c = nothing_lawful

pub returns-clause-writer : goal.returns-clause-writer
returns-clause-writer c = writer_lawful

pub returns-clause-reader : goal.returns-clause-reader
returns-clause-reader c = reader_lawful

pub returns-clause-unwritten : goal.returns-clause-unwritten
returns-clause-unwritten c = unwritten_not

pub returns-clause-unfinished : goal.returns-clause-unfinished
returns-clause-unfinished c = unfinished_not

pub returns-clause-short_end : goal.returns-clause-short_end
returns-clause-short_end c = short_end_not

pub returns-clause-uncarried : goal.returns-clause-uncarried
returns-clause-uncarried c = uncarried_not

pub returns-clause-shifted : goal.returns-clause-shifted
returns-clause-shifted c = shifted_not

pub returns-clause-early_end : goal.returns-clause-early_end
returns-clause-early_end c = early_end_not
