use Rattle.qh_spec.proofs.ReportSame.{same_lines, same_block}
use Rattle.qh_spec.proofs.laws.reports.sameness.Goals as goal

pub returns-clause-maps : goal.returns-clause-maps
returns-clause-maps c = same_lines

pub returns-clause-blocks : goal.returns-clause-blocks
returns-clause-blocks c = same_block
