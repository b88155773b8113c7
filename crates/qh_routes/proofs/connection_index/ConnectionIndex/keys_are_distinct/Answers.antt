use Rattle.std.proofs.Common.{sym}
use Rattle.qh_routes.proofs.Places.{all_distinct}
use Rattle.qh_routes.proofs.connection_index.ConnectionIndex.keys_are_distinct.Goals as goal

pub returns-clause-distinct : goal.returns-clause-distinct
returns-clause-distinct c = rw (sym c.self.view_is) (all_distinct _ c.self.invariant)
