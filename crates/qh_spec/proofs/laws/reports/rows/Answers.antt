use Rattle.qh_spec.proofs.ReportLaws.{none_report, get_report, get_report_cut}
use Rattle.qh_spec.proofs.laws.reports.rows.Goals as goal

pub returns-clause-none : goal.returns-clause-none
returns-clause-none c = none_report

pub returns-clause-get : goal.returns-clause-get
returns-clause-get c = get_report

pub returns-clause-cut : goal.returns-clause-cut
returns-clause-cut c = get_report_cut
