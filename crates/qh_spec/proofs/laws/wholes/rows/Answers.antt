use Rattle.qh_spec.proofs.WholeLaws.{nothing_whole}
use Rattle.qh_spec.proofs.WholeRows.{get_whole, get_whole_alone, get_not_of_server, get_not_elsewhere, open_not_whole}
use Rattle.qh_spec.proofs.laws.wholes.rows.Goals as goal

pub returns-clause-row : goal.returns-clause-row
returns-clause-row c = get_whole

pub returns-clause-another : goal.returns-clause-another
returns-clause-another c = get_whole_alone

pub returns-clause-nothing : goal.returns-clause-nothing
returns-clause-nothing c = nothing_whole

pub returns-clause-of_the_server : goal.returns-clause-of_the_server
returns-clause-of_the_server c = get_not_of_server

pub returns-clause-elsewhere : goal.returns-clause-elsewhere
returns-clause-elsewhere c = get_not_elsewhere

pub returns-clause-endless : goal.returns-clause-endless
returns-clause-endless c = open_not_whole
