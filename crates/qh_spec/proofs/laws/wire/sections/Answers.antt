use Rattle.qh_spec.proofs.SectionLaws.{section_is_one}
use Rattle.qh_spec.proofs.SectionRows.{table_size, get_section_is, past_table_none}
use Rattle.qh_spec.proofs.WireNumbers.{prefixed_rows, no_prefixed}
use Rattle.qh_spec.proofs.WrittenSections.{section_written, prefixed_is}
use Rattle.qh_spec.proofs.laws.wire.sections.Goals as goal

pub returns-clause-one : goal.returns-clause-one
returns-clause-one c = section_is_one

pub returns-clause-written : goal.returns-clause-written
returns-clause-written c = section_written

pub returns-clause-table : goal.returns-clause-table
returns-clause-table c = table_size

pub returns-clause-row : goal.returns-clause-row
returns-clause-row c = get_section_is

pub returns-clause-near_row : goal.returns-clause-near_row
returns-clause-near_row c = past_table_none

pub returns-clause-integer_written : goal.returns-clause-integer_written
returns-clause-integer_written c = prefixed_is

pub returns-clause-integer_rows : goal.returns-clause-integer_rows
returns-clause-integer_rows c = prefixed_rows

pub returns-clause-near_integer_row : goal.returns-clause-near_integer_row
returns-clause-near_integer_row c = no_prefixed
