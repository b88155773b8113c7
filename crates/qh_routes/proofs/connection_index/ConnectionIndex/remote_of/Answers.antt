use Rattle.std.proofs.Common.{◌∙◌, ap}
use Rattle.std.specs.Option.{option_map}
use Rattle.qh_routes.specs.declared.connection_index.RouteDatagramTo.TheVariants.{Connection}
use Rattle.qh_routes.proofs.Places.{maps_of, routed, slot_of_remotes}
use Rattle.qh_routes.proofs.connection_index.ConnectionIndex.remote_of.Goals as goal

pub returns : goal.returns
returns c =
    routed slot_of_remotes (maps_of c.self.inside) c.self.invariant c.self.view_is c.args.address.now c.connection.result (c.connection.ensures ∙ ap (option_map Connection) c.get.ensures.value)
