use Rattle.qh_routes.specs.Routes.{reset_keys}
use Rattle.qh_routes.proofs.Routing.{routed_first, routed_then}
use Rattle.qh_routes.proofs.connection_index.ConnectionIndex.get.Goals as goal

pub returns-in-Some : goal.returns-in-Some
returns-in-Some c = routed_first (rw c.in-Some.is at c.connection_of.ensures) (reset_keys c.args.addresses.now.remote c.args.packet.now.data.now)

pub returns-in-None : goal.returns-in-None
returns-in-None c = routed_then (rw c.in-None.is at c.connection_of.ensures) (reset_keys c.args.addresses.now.remote c.args.packet.now.data.now) c.reset_of.result c.reset_of.ensures
