use Rattle.std.proofs.Common.{[], ◌∷◌, ◌∙◌, ap, subst}
use Rattle.std.specs.Option.{option_map}
use Rattle.qh_routes.specs.declared.connection_index.RouteDatagramTo.TheVariants.{Connection}
use Rattle.qh_routes.specs.declared.route_keys.PathKey.{PathKey}
use Rattle.qh_routes.specs.Index.{pair_key}
use Rattle.qh_routes.specs.Routes.{IsRouted}
use Rattle.qh_routes.proofs.Places.{maps_of, routed, slot_of_pairs}
use Rattle.qh_routes.proofs.connection_index.ConnectionIndex.pair_of.Goals as goal

pub returns : goal.returns
returns c =
    subst (λ (k : PathKey). IsRouted c.args.self.now (pair_key k ∷ []) c.connection.result) c.from.ensures
    (routed slot_of_pairs (maps_of c.self.inside) c.self.invariant c.self.view_is c.from.result c.connection.result (c.connection.ensures ∙ ap (option_map Connection) c.get.ensures.value))
