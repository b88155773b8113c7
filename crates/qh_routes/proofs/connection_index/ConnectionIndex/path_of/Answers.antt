use Rattle.std.proofs.Common.{[], ◌∷◌}
use Rattle.qh_routes.specs.Routes.{remote}
use Rattle.qh_routes.proofs.Routing.{routed_first, routed_then}
use Rattle.qh_routes.proofs.connection_index.ConnectionIndex.path_of.Goals as goal

pub returns-in-Some : goal.returns-in-Some
returns-in-Some c = routed_first (rw c.in-Some.is at c.pair_of.ensures) (remote c.args.addresses.now.remote ∷ [])

pub returns-in-None : goal.returns-in-None
returns-in-None c = routed_then (rw c.in-None.is at c.pair_of.ensures) (remote c.args.addresses.now.remote ∷ []) c.remote_of.result c.remote_of.ensures
