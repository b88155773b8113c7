use Rattle.std.proofs.Common.{refl, sym}
use Rattle.qh_connections.specs.Connections.{PlainConnections}
use Rattle.qh_connections.proofs.Kept.{are_kept, removed_kept}
use Rattle.qh_connections.proofs.connections.Connections.remove_initial_incoming.Goals as goal

pub invariant_of-self : goal.invariant_of-self
invariant_of-self g c =
    let old : PlainConnections g.row.G.Denot = record { routes = c.self.inside.index; metas = c.self.inside.metas.slots; ids = c.self.inside.ids } in
    let new : PlainConnections g.row.G.Denot = record { routes = c.remove_initial.new.self; metas = c.self.inside.metas.slots; ids = c.self.inside.ids } in
    are_kept old new c.self.invariant (λ h. refl) (removed_kept c.args.dst_cid c.args.incoming c.self.inside.index c.remove_initial.new.self c.remove_initial.ensures)

pub returns-clause-removed : goal.returns-clause-removed
returns-clause-removed g c = rw (sym c.self.view_is) c.remove_initial.ensures
