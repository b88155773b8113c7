use Rattle.std.proofs.Common.{None, sym}
use Rattle.qh_connections.specs.Connections.{HasInstead, PlainConnections, meta_at}
use Rattle.qh_routes.specs.ConnectionMeta.{keys_of_meta}
use Rattle.qh_routes.specs.declared.connection_index.RouteDatagramTo.TheVariants.{Connection}
use Rattle.qh_connections.proofs.Slots.{same_meta}
use Rattle.qh_connections.proofs.Taken.{are_removed, forgotten}
use Rattle.qh_connections.proofs.Tracked.{led}
use Rattle.qh_connections.proofs.connections.Connections.remove.Goals as goal

pub invariant_of-self : goal.invariant_of-self
invariant_of-self g c =
    let old : PlainConnections g.row.G.Denot = record { routes = c.self.inside.index; metas = c.self.inside.metas.slots; ids = c.self.inside.ids } in
    let new : PlainConnections g.row.G.Denot = record { routes = c.remove.new.self; metas = c.try_remove.new.self.slots; ids = c.self.inside.ids } in
    let meta = c.in-Some.meta in
    let is = c.in-Some.ensures.updates in
    let put : HasInstead old new c.args.handle None = record { there = is.changed; others = λ other n. is.others other.0 n } in
    let unreached = c.removal_is_complete.ensures (keys_of_meta meta) (Connection c.args.handle) c.self.inside.index c.remove.new.self c.remove.ensures (λ k i. led old c.args.handle meta c.self.invariant (sym c.in-Some.ensures.value) k i) in
    are_removed old new c.args.handle (keys_of_meta meta) c.self.invariant put c.remove.ensures unreached

pub returns-in-Some-clause-removed : goal.returns-in-Some-clause-removed
returns-in-Some-clause-removed g c =
    let old : PlainConnections g.row.G.Denot = record { routes = c.self.inside.index; metas = c.self.inside.metas.slots; ids = c.self.inside.ids } in
    let new : PlainConnections g.row.G.Denot = record { routes = c.remove.new.self; metas = c.try_remove.new.self.slots; ids = c.self.inside.ids } in
    let meta = c.in-Some.meta in
    let is = c.in-Some.ensures.updates in
    let put : HasInstead old new c.args.handle None = record { there = is.changed; others = λ other n. is.others other.0 n } in
    let unreached = c.removal_is_complete.ensures (keys_of_meta meta) (Connection c.args.handle) c.self.inside.index c.remove.new.self c.remove.ensures (λ k i. led old c.args.handle meta c.self.invariant (sym c.in-Some.ensures.value) k i) in
    rw (sym c.self.view_is) (λ m e. forgotten old new c.args.handle meta m (same_meta (meta_at old c.args.handle) meta m (sym c.in-Some.ensures.value) e) put c.remove.ensures unreached)
