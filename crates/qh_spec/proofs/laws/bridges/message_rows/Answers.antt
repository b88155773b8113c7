use Rattle.qh_spec.proofs.LawfulRows.{get_was_written, front_was_written, cut_not_written, other_not_written, get_was_read, endless_not_read, gap_not_read, other_not_read}
use Rattle.qh_spec.proofs.laws.bridges.message_rows.Goals as goal

pub returns-clause-written : goal.returns-clause-written
returns-clause-written c = get_was_written

pub returns-clause-begun : goal.returns-clause-begun
returns-clause-begun c = front_was_written

pub returns-clause-cut : goal.returns-clause-cut
returns-clause-cut c = cut_not_written

pub returns-clause-another_written : goal.returns-clause-another_written
returns-clause-another_written c = other_not_written

pub returns-clause-read : goal.returns-clause-read
returns-clause-read c = get_was_read

pub returns-clause-endless : goal.returns-clause-endless
returns-clause-endless c = endless_not_read

pub returns-clause-gap : goal.returns-clause-gap
returns-clause-gap c = gap_not_read

pub returns-clause-another_read : goal.returns-clause-another_read
returns-clause-another_read c = other_not_read
