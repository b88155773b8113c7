use Rattle.qh_spec.proofs.HelloRows.{client_is, client_says, client_others, near_client_others, client_acceptable, silent_says, silent_acceptable, server_acceptable, bounds_acceptable}
use Rattle.qh_spec.proofs.laws.hellos.rows.Goals as goal

pub returns-clause-row : goal.returns-clause-row
returns-clause-row c = client_is

pub returns-clause-limits : goal.returns-clause-limits
returns-clause-limits c = client_says

pub returns-clause-others : goal.returns-clause-others
returns-clause-others c = client_others

pub returns-clause-near_others : goal.returns-clause-near_others
returns-clause-near_others c = near_client_others

pub returns-clause-acceptable : goal.returns-clause-acceptable
returns-clause-acceptable c = client_acceptable

pub returns-clause-defaults : goal.returns-clause-defaults
returns-clause-defaults c = silent_says

pub returns-clause-silent : goal.returns-clause-silent
returns-clause-silent c = silent_acceptable

pub returns-clause-server : goal.returns-clause-server
returns-clause-server c = server_acceptable

pub returns-clause-at_bounds : goal.returns-clause-at_bounds
returns-clause-at_bounds c = bounds_acceptable
