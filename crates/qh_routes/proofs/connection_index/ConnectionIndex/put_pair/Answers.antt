use Rattle.std.proofs.Common.{subst}
use Rattle.qh_routes.specs.declared.connection_index.RouteDatagramTo.TheVariants.{Connection}
use Rattle.qh_routes.specs.declared.route_keys.PathKey.{PathKey}
use Rattle.qh_routes.specs.Index.{pair_key, routes_of}
use Rattle.qh_routes.specs.Routes.{IsAdded}
use Rattle.qh_routes.proofs.Membership.{Absent}
use Rattle.qh_routes.proofs.Changes.{at_err}
use Rattle.qh_routes.proofs.Places.{lacks, maps_of, put, slot_of_pairs}
use Rattle.qh_routes.proofs.connection_index.ConnectionIndex.put_pair.Goals as goal

pub invariant_of-self-2 : goal.invariant_of-self-2
invariant_of-self-2 c =
    (put slot_of_pairs (maps_of c.self.inside) c.self.invariant c.self.view_is c.insert.new.self.entries c.in_ok-insert.ensures.ordered c.from.result c.args.handle (λ e. cc) (λ e. cc) c.in_ok-insert.ensures.updates.0).1

pub returns-clause-added : goal.returns-clause-added
returns-clause-added c =
    let new = routes_of (record (maps_of c.self.inside) { pairs = c.insert.new.self.entries }) in
    subst (λ (k : PathKey). IsAdded (pair_key k) (Connection c.args.handle) c.args.self.now new) c.from.ensures (put slot_of_pairs (maps_of c.self.inside) c.self.invariant c.self.view_is c.insert.new.self.entries c.in_ok-insert.ensures.ordered c.from.result c.args.handle (λ e. cc) (λ e. cc) c.in_ok-insert.ensures.updates.0).0

pub returns-in_err-insert-clause-fresh : goal.returns-in_err-insert-clause-fresh
returns-in_err-insert-clause-fresh c =
    at_err c.from_residual.result (subst (λ (k : PathKey). Absent (pair_key k) c.args.self.now) c.from.ensures (lacks slot_of_pairs (maps_of c.self.inside) c.self.invariant c.self.view_is c.from.result c.in_err-insert.ensures.absent))
