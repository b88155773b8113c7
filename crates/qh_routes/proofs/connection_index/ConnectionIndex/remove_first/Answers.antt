use Rattle.std.proofs.Common.{sym, subst}
use Rattle.qh_routes.specs.declared.connection_index.RouteDatagramTo.TheVariants.{Connection}
use Rattle.qh_spec.specs.declared.sides.Side.{Side}
use Rattle.qh_routes.specs.ConnectionMeta.{initial_keys}
use Rattle.qh_routes.specs.Routes.{AreRemovedOf, initial}
use Rattle.qh_routes.proofs.Changes.{one_removed}
use Rattle.qh_routes.proofs.connection_index.ConnectionIndex.remove_first.Goals as goal

pub returns-in-Server : goal.returns-in-Server
returns-in-Server c =
    subst (λ (side : Side). AreRemovedOf (initial_keys side c.args.id) (Connection c.args.handle) c.args.self.now c.remove_initial.new.self) (sym c.in-Server.is)
    (one_removed (initial c.args.id) (Connection c.args.handle) c.args.self.now c.remove_initial.new.self c.remove_initial.ensures)
