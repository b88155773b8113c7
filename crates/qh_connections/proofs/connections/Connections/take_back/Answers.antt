use Rattle.std.proofs.Common.{Option, slice_set, ◌≡◌, ◌-◌, Some, None, refl, sym, ap, ◌∙◌, subst, arith, List, ℕ}
use Rattle.std.specs.Option.{option_copied_mut}
use Rattle.qh_connections.specs.Connections.{HasInstead, PlainConnections, id_at, meta_at, with_id}
use Rattle.qh_routes.specs.Routes.{IsRemovedOf, issued}
use Rattle.qh_routes.specs.declared.connection_index.RouteDatagramTo.TheVariants.{Connection}
use Rattle.qh_connections.proofs.Slots.{same_meta, written}
use Rattle.qh_connections.proofs.Taken.{IsCount, are_left, are_taken, last_id, less, less_back, same_last}
use Rattle.qh_connections.proofs.connections.Connections.take_back.Goals as goal

pub invariant_of-self : goal.invariant_of-self
invariant_of-self g c =
    let old : PlainConnections g.row.G.Denot = record { routes = c.self.inside.index; metas = c.self.inside.metas.slots; ids = c.self.inside.ids } in
    let new : PlainConnections g.row.G.Denot = record { routes = c.retire.new.self; metas = slice_set c.self.inside.metas.slots c.args.handle.0 (Some c.take_back.new.self); ids = c.self.inside.ids } in
    let was = c.unwrap-meta.result.now in
    let there : meta_at old c.args.handle ≡ Some was = sym c.get_mut.ensures.value ∙ ap (λ o. option_copied_mut o) c.unwrap-meta.ensures in
    let sequence = was.cids_issued - 1 in
    let some = c.requires.some was (sym (ap (λ (p : PlainConnections g.row.G.Denot). meta_at p c.args.handle) c.self.view_is) ∙ there) in
    let counted : IsCount was sequence sequence = λ n above a. omega (arith, above, a, some) in
    let put : HasInstead old new c.args.handle (Some (less was sequence sequence)) = written c.self.inside.metas c.args.handle was c.take_back.new.self (less was sequence sequence) c.self.inside.index c.retire.new.self c.self.inside.ids c.self.inside.ids there c.take_back.ensures.after in
    let had : id_at was sequence ≡ Some c.in-Some.id = sym c.take_back.ensures.taken ∙ c.in-Some.is in
    are_taken old new c.args.handle was sequence sequence c.self.invariant there counted put c.in-Some.id had c.ids.ensures.sorted c.retire.ensures (λ k. c.keys_after.ensures.taken was sequence c.in-Some.id had k)

pub invariant_of-self-in_default : goal.invariant_of-self-in_default
invariant_of-self-in_default g c =
    let old : PlainConnections g.row.G.Denot = record { routes = c.self.inside.index; metas = c.self.inside.metas.slots; ids = c.self.inside.ids } in
    let new : PlainConnections g.row.G.Denot = record { routes = c.self.inside.index; metas = slice_set c.self.inside.metas.slots c.args.handle.0 (Some c.take_back.new.self); ids = c.self.inside.ids } in
    let was = c.unwrap-meta.result.now in
    let there : meta_at old c.args.handle ≡ Some was = sym c.get_mut.ensures.value ∙ ap (λ o. option_copied_mut o) c.unwrap-meta.ensures in
    let sequence = was.cids_issued - 1 in
    let some = c.requires.some was (sym (ap (λ (p : PlainConnections g.row.G.Denot). meta_at p c.args.handle) c.self.view_is) ∙ there) in
    let counted : IsCount was sequence sequence = λ n above a. omega (arith, above, a, some) in
    let put : HasInstead old new c.args.handle (Some (less was sequence sequence)) = written c.self.inside.metas c.args.handle was c.take_back.new.self (less was sequence sequence) c.self.inside.index c.self.inside.index c.self.inside.ids c.self.inside.ids there c.take_back.ensures.after in
    are_left old new c.args.handle was sequence sequence c.self.invariant there counted put (sym c.take_back.ensures.taken ∙ c.in_default.is) refl

pub returns-in-Some-clause-back : goal.returns-in-Some-clause-back
returns-in-Some-clause-back g c =
    let old : PlainConnections g.row.G.Denot = record { routes = c.self.inside.index; metas = c.self.inside.metas.slots; ids = c.self.inside.ids } in
    let new : PlainConnections g.row.G.Denot = record { routes = c.retire.new.self; metas = slice_set c.self.inside.metas.slots c.args.handle.0 (Some c.take_back.new.self); ids = c.self.inside.ids } in
    let was = c.unwrap-meta.result.now in
    let there : meta_at old c.args.handle ≡ Some was = sym c.get_mut.ensures.value ∙ ap (λ o. option_copied_mut o) c.unwrap-meta.ensures in
    rw (sym c.self.view_is) (λ m id e none.
    let same = same_meta (meta_at old c.args.handle) was (with_id m id) there e in
    let back = less_back was m c.take_back.new.self id same (c.ids_taken_back.ensures m.loc_cids m.cids_issued id none) c.take_back.ensures.after in
    let now : Some c.in-Some.id ≡ Some id = sym c.in-Some.is ∙ c.take_back.ensures.taken ∙ last_id was m id same in
    let ids : c.in-Some.id ≡ id = cc in (
      written c.self.inside.metas c.args.handle was c.take_back.new.self m c.self.inside.index c.retire.new.self c.self.inside.ids c.self.inside.ids there back,
      subst (λ (y : List ℕ). IsRemovedOf (issued y) (Connection c.args.handle) c.self.inside.index c.retire.new.self) ids c.retire.ensures,
    ))

pub returns-in_default-clause-back : goal.returns-in_default-clause-back
returns-in_default-clause-back g c =
    let old : PlainConnections g.row.G.Denot = record { routes = c.self.inside.index; metas = c.self.inside.metas.slots; ids = c.self.inside.ids } in
    let was = c.unwrap-meta.result.now in
    let there : meta_at old c.args.handle ≡ Some was = sym c.get_mut.ensures.value ∙ ap (λ o. option_copied_mut o) c.unwrap-meta.ensures in
    rw (sym c.self.view_is) (λ m id e none.
    let same = same_meta (meta_at old c.args.handle) was (with_id m id) there e in
    let no : ◌≡◌ {A = Option (List ℕ)} None (Some id) = sym c.in_default.is ∙ c.take_back.ensures.taken ∙ last_id was m id same in
    absurd (cc))

pub returns-in-Some-clause-routes : goal.returns-in-Some-clause-routes
returns-in-Some-clause-routes g c =
    let old : PlainConnections g.row.G.Denot = record { routes = c.self.inside.index; metas = c.self.inside.metas.slots; ids = c.self.inside.ids } in
    let was = c.unwrap-meta.result.now in
    let there : meta_at old c.args.handle ≡ Some was = sym c.get_mut.ensures.value ∙ ap (λ o. option_copied_mut o) c.unwrap-meta.ensures in
    rw (sym c.self.view_is) (λ m id e f.
    let now : Some c.in-Some.id ≡ Some id = sym c.in-Some.is ∙ same_last was m c.take_back.result (Some id) (same_meta (meta_at old c.args.handle) was m there e) c.take_back.ensures.taken f in
    let ids : c.in-Some.id ≡ id = cc in
    subst (λ (y : List ℕ). IsRemovedOf (issued y) (Connection c.args.handle) c.self.inside.index c.retire.new.self) ids c.retire.ensures)

pub returns-in_default-clause-routes : goal.returns-in_default-clause-routes
returns-in_default-clause-routes g c =
    let old : PlainConnections g.row.G.Denot = record { routes = c.self.inside.index; metas = c.self.inside.metas.slots; ids = c.self.inside.ids } in
    let was = c.unwrap-meta.result.now in
    let there : meta_at old c.args.handle ≡ Some was = sym c.get_mut.ensures.value ∙ ap (λ o. option_copied_mut o) c.unwrap-meta.ensures in
    rw (sym c.self.view_is) (λ m id e f.
    let no : ◌≡◌ {A = Option (List ℕ)} None (Some id) = sym c.in_default.is ∙ same_last was m c.take_back.result (Some id) (same_meta (meta_at old c.args.handle) was m there e) c.take_back.ensures.taken f in
    absurd (cc))

pub returns-in-Some-clause-absent : goal.returns-in-Some-clause-absent
returns-in-Some-clause-absent g c =
    let old : PlainConnections g.row.G.Denot = record { routes = c.self.inside.index; metas = c.self.inside.metas.slots; ids = c.self.inside.ids } in
    let was = c.unwrap-meta.result.now in
    let there : meta_at old c.args.handle ≡ Some was = sym c.get_mut.ensures.value ∙ ap (λ o. option_copied_mut o) c.unwrap-meta.ensures in
    rw (sym c.self.view_is) (λ m e f.
    let no : ◌≡◌ {A = Option (List ℕ)} (Some c.in-Some.id) None = sym c.in-Some.is ∙ same_last was m c.take_back.result None (same_meta (meta_at old c.args.handle) was m there e) c.take_back.ensures.taken f in
    absurd (cc))
