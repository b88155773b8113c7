use Rattle.std.proofs.Common.{subst, sym}
use Rattle.qh_spec.specs.declared.sides.Side.{Side}
use Rattle.qh_routes.specs.Routes.{IsFirstAdded}
use Rattle.qh_routes.specs.declared.connection_index.RouteDatagramTo.TheVariants.{Connection}
use Rattle.qh_routes.proofs.Both.{first_of_server}
use Rattle.qh_routes.proofs.Changes.{on_ok}
use Rattle.qh_routes.proofs.connection_index.ConnectionIndex.insert_first.Goals as goal

pub returns-in-Server-clause-added : goal.returns-in-Server-clause-added
returns-in-Server-clause-added c = on_ok c.put_initial.result
    (λ added. subst (λ (s : Side). IsFirstAdded s c.args.init_cid (Connection c.args.handle) c.args.self.now c.put_initial.new.self) (sym c.in-Server.is)
    (first_of_server c.args.init_cid (Connection c.args.handle) c.args.self.now c.put_initial.new.self added (λ e. (c.put_initial.ensures.empty e).1)))
    c.put_initial.ensures.added
