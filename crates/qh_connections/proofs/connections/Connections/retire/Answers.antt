use Rattle.std.proofs.Common.{slice_set, ◌≡◌, Some, None, refl, sym, ap, ◌∙◌, subst, List, ℕ}
use Rattle.std.specs.Option.{option_copied_mut}
use Rattle.qh_connections.specs.Connections.{HasInstead, PlainConnections, id_at, meta_at}
use Rattle.qh_routes.specs.Routes.{IsRemovedOf, issued}
use Rattle.qh_routes.specs.declared.connection_index.RouteDatagramTo.TheVariants.{Connection}
use Rattle.qh_connections.proofs.Slots.{same_id, same_meta, same_metas, written}
use Rattle.qh_connections.proofs.Taken.{are_left, are_taken, less, less_same}
use Rattle.qh_connections.proofs.connections.Connections.retire.Goals as goal

pub invariant_of-self : goal.invariant_of-self
invariant_of-self g c =
    let old : PlainConnections g.row.G.Denot = record { routes = c.self.inside.index; metas = c.self.inside.metas.slots; ids = c.self.inside.ids } in
    let new : PlainConnections g.row.G.Denot = record { routes = c.self.inside.index; metas = slice_set c.self.inside.metas.slots c.args.handle.0 (Some c.take_id.new.self); ids = c.self.inside.ids } in
    let was = c.unwrap-meta.result.now in
    let there : meta_at old c.args.handle ≡ Some was = sym c.get_mut.ensures.value ∙ ap (λ o. option_copied_mut o) c.unwrap-meta.ensures in
    let put : HasInstead old new c.args.handle (Some (less was was.cids_issued c.args.sequence)) = written c.self.inside.metas c.args.handle was c.take_id.new.self (less was was.cids_issued c.args.sequence) c.self.inside.index c.self.inside.index c.self.inside.ids c.self.inside.ids there c.take_id.ensures.after in
    are_left old new c.args.handle was was.cids_issued c.args.sequence c.self.invariant there (λ n above a. above) put (sym c.take_id.ensures.taken ∙ c.in_default.is) refl

pub returns-in_default-clause-absent : goal.returns-in_default-clause-absent
returns-in_default-clause-absent g c =
    let old : PlainConnections g.row.G.Denot = record { routes = c.self.inside.index; metas = c.self.inside.metas.slots; ids = c.self.inside.ids } in
    let new : PlainConnections g.row.G.Denot = record { routes = c.self.inside.index; metas = slice_set c.self.inside.metas.slots c.args.handle.0 (Some c.take_id.new.self); ids = c.self.inside.ids } in
    let was = c.unwrap-meta.result.now in
    let there : meta_at old c.args.handle ≡ Some was = sym c.get_mut.ensures.value ∙ ap (λ o. option_copied_mut o) c.unwrap-meta.ensures in
    let none : id_at was c.args.sequence ≡ None = sym c.take_id.ensures.taken ∙ c.in_default.is in
    let same = less_same was c.take_id.new.self c.args.sequence none c.take_id.ensures.after in
    let put : HasInstead old new c.args.handle (Some was) = written c.self.inside.metas c.args.handle was c.take_id.new.self was c.self.inside.index c.self.inside.index c.self.inside.ids c.self.inside.ids there same in
    rw (sym c.self.view_is) (λ m e f. record { routes = record { kept = λ k t i. i; none_new = λ k t i. i }; metas = same_metas old new c.args.handle was put there })

pub invariant_of-self-2 : goal.invariant_of-self-2
invariant_of-self-2 g c =
    let old : PlainConnections g.row.G.Denot = record { routes = c.self.inside.index; metas = c.self.inside.metas.slots; ids = c.self.inside.ids } in
    let new : PlainConnections g.row.G.Denot = record { routes = c.retire.new.self; metas = slice_set c.self.inside.metas.slots c.args.handle.0 (Some c.take_id.new.self); ids = c.self.inside.ids } in
    let was = c.unwrap-meta.result.now in
    let there : meta_at old c.args.handle ≡ Some was = sym c.get_mut.ensures.value ∙ ap (λ o. option_copied_mut o) c.unwrap-meta.ensures in
    let put : HasInstead old new c.args.handle (Some (less was was.cids_issued c.args.sequence)) = written c.self.inside.metas c.args.handle was c.take_id.new.self (less was was.cids_issued c.args.sequence) c.self.inside.index c.retire.new.self c.self.inside.ids c.self.inside.ids there c.take_id.ensures.after in
    let had : id_at was c.args.sequence ≡ Some c.in-Some.id = sym c.take_id.ensures.taken ∙ c.in-Some.is in
    are_taken old new c.args.handle was was.cids_issued c.args.sequence c.self.invariant there (λ n above a. above) put c.in-Some.id had c.ids.ensures.sorted c.retire.ensures (λ k. c.keys_after.ensures.taken was c.args.sequence c.in-Some.id had k)

pub returns-clause-routes : goal.returns-clause-routes
returns-clause-routes g c =
    let old : PlainConnections g.row.G.Denot = record { routes = c.self.inside.index; metas = c.self.inside.metas.slots; ids = c.self.inside.ids } in
    let was = c.unwrap-meta.result.now in
    let there : meta_at old c.args.handle ≡ Some was = sym c.get_mut.ensures.value ∙ ap (λ o. option_copied_mut o) c.unwrap-meta.ensures in
    let had : id_at was c.args.sequence ≡ Some c.in-Some.id = sym c.take_id.ensures.taken ∙ c.in-Some.is in
    rw (sym c.self.view_is) (λ m x e f. subst (λ (y : List ℕ). IsRemovedOf (issued y) (Connection c.args.handle) c.self.inside.index c.retire.new.self) (same_id was m c.args.sequence c.in-Some.id x (same_meta (meta_at old c.args.handle) was m there e) had f) c.retire.ensures)
