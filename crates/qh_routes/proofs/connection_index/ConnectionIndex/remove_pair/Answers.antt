use Rattle.std.proofs.Common.{subst}
use Rattle.qh_routes.specs.declared.connection_index.RouteDatagramTo.TheVariants.{Connection}
use Rattle.qh_routes.specs.declared.route_keys.PathKey.{PathKey}
use Rattle.qh_routes.specs.Index.{pair_key, routes_of}
use Rattle.qh_routes.specs.Routes.{IsRemovedOf}
use Rattle.qh_routes.proofs.Places.{connection_exact, maps_of, slot_of_pairs, take_of}
use Rattle.qh_routes.proofs.connection_index.ConnectionIndex.remove_pair.Goals as goal

pub invariant_of-self : goal.invariant_of-self
invariant_of-self c =
    (take_of slot_of_pairs (maps_of c.self.inside) c.self.invariant c.self.view_is c.remove_of.new.map.entries (c.remove_of.ensures.ordered c.self.invariant.pairs) connection_exact c.from.result c.args.handle c.remove_of.ensures.loses).1

pub returns : goal.returns
returns c =
    let new = routes_of (record (maps_of c.self.inside) { pairs = c.remove_of.new.map.entries }) in
    subst (λ (k : PathKey). IsRemovedOf (pair_key k) (Connection c.args.handle) c.args.self.now new) c.from.ensures (take_of slot_of_pairs (maps_of c.self.inside) c.self.invariant c.self.view_is c.remove_of.new.map.entries (c.remove_of.ensures.ordered c.self.invariant.pairs) connection_exact c.from.result c.args.handle c.remove_of.ensures.loses).0
