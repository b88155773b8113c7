use Rattle.qh_spec.specs.Report.{in_byte_order}
use Rattle.qh_spec.proofs.ReportLaws.{in_order, from_order, order_moves, ordered_all, sorted_from_ordered, sorted_is, neither_before}
use Rattle.qh_spec.proofs.laws.reports.order.Goals as goal

pub returns-clause-same_names : goal.returns-clause-same_names
returns-clause-same_names c = λ name names. (from_order name names, in_order name names)

pub returns-clause-keeps : goal.returns-clause-keeps
returns-clause-keeps c = order_moves

pub returns-clause-orders : goal.returns-clause-orders
returns-clause-orders c = λ names. sorted_from_ordered (in_byte_order names) (ordered_all names)

pub returns-clause-one : goal.returns-clause-one
returns-clause-one c = sorted_is

pub returns-clause-apart : goal.returns-clause-apart
returns-clause-apart c = neither_before
