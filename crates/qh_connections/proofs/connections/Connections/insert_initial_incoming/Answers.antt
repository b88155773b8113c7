use Rattle.std.proofs.Common.{refl, sym}
use Rattle.qh_connections.specs.Connections.{PlainConnections}
use Rattle.qh_connections.proofs.Kept.{are_kept, incoming_kept}
use Rattle.qh_connections.proofs.connections.Connections.insert_initial_incoming.Goals as goal

pub invariant_of-self : goal.invariant_of-self
invariant_of-self g c =
    let old : PlainConnections g.row.G.Denot = record { routes = c.self.inside.index; metas = c.self.inside.metas.slots; ids = c.self.inside.ids } in
    let new : PlainConnections g.row.G.Denot = record { routes = c.insert_initial_incoming.new.self; metas = c.self.inside.metas.slots; ids = c.self.inside.ids } in
    let is = c.insert_initial_incoming.ensures in
    are_kept old new c.self.invariant (λ h. refl) (incoming_kept c.insert_initial_incoming.result c.args.dst_cid c.args.incoming c.self.inside.index c.insert_initial_incoming.new.self is.added is.empty is.unchanged)

pub returns-clause-added : goal.returns-clause-added
returns-clause-added g c = rw (sym c.self.view_is) c.insert_initial_incoming.ensures.added

pub returns-clause-fresh : goal.returns-clause-fresh
returns-clause-fresh g c = rw (sym c.self.view_is) c.insert_initial_incoming.ensures.fresh
