use Rattle.qh_routes.proofs.Metas.{keys_put, keys_reset, keys_taken}
use Rattle.qh_routes.proofs.laws.keys_after.Goals as goal

pub returns-clause-put : goal.returns-clause-put
returns-clause-put c m n sequence id h = keys_put m n sequence id h

pub returns-clause-taken : goal.returns-clause-taken
returns-clause-taken c m sequence id h = keys_taken m sequence id h

pub returns-clause-reset : goal.returns-clause-reset
returns-clause-reset c m token = keys_reset m token
