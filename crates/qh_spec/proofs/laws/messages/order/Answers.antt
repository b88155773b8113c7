use Rattle.qh_spec.proofs.SameRows.{names_turned, values_turned}
use Rattle.qh_spec.proofs.laws.messages.order.Goals as goal

pub returns-clause-names : goal.returns-clause-names
returns-clause-names c = names_turned

pub returns-clause-values : goal.returns-clause-values
returns-clause-values c = values_turned
