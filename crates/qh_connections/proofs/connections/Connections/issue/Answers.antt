use Rattle.std.proofs.Common.{slice_set, ◌≡◌, ◌+◌, Some, None, slice_index_or, sym, ap, ◌∙◌, subst, arith}
use Rattle.std.specs.Option.{option_copied_mut}
use Rattle.qh_connections.specs.Connections.{HasInstead, IsTracked, PlainConnections, id_at, meta_at, with_id}
use Rattle.qh_connections.specs.Ids.{IsIssued}
use Rattle.qh_routes.specs.Routes.{AreSameRoutes, Routes}
use Rattle.qh_connections.proofs.Kept.{are_kept, same_kept}
use Rattle.qh_connections.proofs.Slots.{same_metas, written}
use Rattle.qh_connections.proofs.Tracked.{are_issued, put_meta, tracked, untracked, was_err, was_ok}
use Rattle.qh_connections.proofs.connections.Connections.issue.Goals as goal

pub invariant_of-self-then-is_err : goal.invariant_of-self-then-is_err
invariant_of-self-then-is_err g c =
    let old : PlainConnections g.row.G.Denot = record { routes = c.self.inside.index; metas = c.self.inside.metas.slots; ids = c.self.inside.ids } in
    let new : PlainConnections g.row.G.Denot = record { routes = c.retire.new.self; metas = slice_set c.self.inside.metas.slots c.args.handle.0 (Some c.put_id.new.self); ids = c.self.inside.ids } in
    let was = c.unwrap-meta.result.now in
    let there : meta_at old c.args.handle ≡ Some was = sym c.get_mut.ensures.value ∙ ap (λ o. option_copied_mut o) c.unwrap-meta.ensures in
    let same : c.self.inside.index ≡ c.args.self.now.routes = ap (λ (p : PlainConnections g.row.G.Denot). p.routes) (c.self.view_is ∙ c.draw.ensures.rest) in
    let fresh : IsIssued c.self.inside.index c.in-Some.id → ⊥ = subst (λ (r : Routes). IsIssued r c.in-Some.id → ⊥) (sym same) c.in-Some.ensures.fresh.free in
    let is = c.in_ok-insert_id.ensures in
    let t : IsTracked c.in-Some.id c.args.handle c.self.inside.index c.insert_id.new.self = tracked c.in-Some.id c.args.handle c.self.inside.index c.insert_id.new.self is.added (λ e. (is.empty e).1) in
    let kept = was_err c.put_id.result (sym c.is_err.ensures.value ∙ c.if-is_err.true) c.put_id.ensures.unchanged in
    let put : HasInstead old new c.args.handle (Some was) = written c.self.inside.metas c.args.handle was c.put_id.new.self was c.self.inside.index c.retire.new.self c.self.inside.ids c.self.inside.ids there kept in
    let back = untracked c.in-Some.id c.args.handle c.self.inside.index c.insert_id.new.self c.retire.new.self fresh t c.retire.ensures in
    are_kept old new c.self.invariant (same_metas old new c.args.handle was put there) (same_kept c.self.inside.index c.retire.new.self back)

pub returns-then-is_err-clause-err : goal.returns-then-is_err-clause-err
returns-then-is_err-clause-err g c =
    let old : PlainConnections g.row.G.Denot = record { routes = c.self.inside.index; metas = c.self.inside.metas.slots; ids = c.self.inside.ids } in
    let new : PlainConnections g.row.G.Denot = record { routes = c.retire.new.self; metas = slice_set c.self.inside.metas.slots c.args.handle.0 (Some c.put_id.new.self); ids = c.self.inside.ids } in
    let was = c.unwrap-meta.result.now in
    let there : meta_at old c.args.handle ≡ Some was = sym c.get_mut.ensures.value ∙ ap (λ o. option_copied_mut o) c.unwrap-meta.ensures in
    let same : c.self.inside.index ≡ c.args.self.now.routes = ap (λ (p : PlainConnections g.row.G.Denot). p.routes) (c.self.view_is ∙ c.draw.ensures.rest) in
    let fresh : IsIssued c.self.inside.index c.in-Some.id → ⊥ = subst (λ (r : Routes). IsIssued r c.in-Some.id → ⊥) (sym same) c.in-Some.ensures.fresh.free in
    let is = c.in_ok-insert_id.ensures in
    let t : IsTracked c.in-Some.id c.args.handle c.self.inside.index c.insert_id.new.self = tracked c.in-Some.id c.args.handle c.self.inside.index c.insert_id.new.self is.added (λ e. (is.empty e).1) in
    let kept = was_err c.put_id.result (sym c.is_err.ensures.value ∙ c.if-is_err.true) c.put_id.ensures.unchanged in
    let put : HasInstead old new c.args.handle (Some was) = written c.self.inside.metas c.args.handle was c.put_id.new.self was c.self.inside.index c.retire.new.self c.self.inside.ids c.self.inside.ids there kept in
    let back = untracked c.in-Some.id c.args.handle c.self.inside.index c.insert_id.new.self c.retire.new.self fresh t c.retire.ensures in
    record {
      routes = subst (λ (r : Routes). AreSameRoutes r c.retire.new.self) same back;
      metas = λ h. same_metas old new c.args.handle was put there h ∙ ap (λ (p : PlainConnections g.row.G.Denot). slice_index_or p.metas h.0 None) (c.self.view_is ∙ c.draw.ensures.rest);
    }

pub invariant_of-self-else-is_err : goal.invariant_of-self-else-is_err
invariant_of-self-else-is_err g c =
    let old : PlainConnections g.row.G.Denot = record { routes = c.self.inside.index; metas = c.self.inside.metas.slots; ids = c.self.inside.ids } in
    let new : PlainConnections g.row.G.Denot = record { routes = c.insert_id.new.self; metas = slice_set c.self.inside.metas.slots c.args.handle.0 (Some c.put_id.new.self); ids = c.self.inside.ids } in
    let was = c.unwrap-meta.result.now in
    let there : meta_at old c.args.handle ≡ Some was = sym c.get_mut.ensures.value ∙ ap (λ o. option_copied_mut o) c.unwrap-meta.ensures in
    let same : c.self.inside.index ≡ c.args.self.now.routes = ap (λ (p : PlainConnections g.row.G.Denot). p.routes) (c.self.view_is ∙ c.draw.ensures.rest) in
    let fresh : IsIssued c.self.inside.index c.in-Some.id → ⊥ = subst (λ (r : Routes). IsIssued r c.in-Some.id → ⊥) (sym same) c.in-Some.ensures.fresh.free in
    let is = c.in_ok-insert_id.ensures in
    let t : IsTracked c.in-Some.id c.args.handle c.self.inside.index c.insert_id.new.self = tracked c.in-Some.id c.args.handle c.self.inside.index c.insert_id.new.self is.added (λ e. (is.empty e).1) in
    let after = was_ok c.put_id.result (sym c.is_err.ensures.value ∙ c.if-is_err.false) c.put_id.ensures.after in
    let room = c.requires.room was (sym (ap (λ (p : PlainConnections g.row.G.Denot). meta_at p c.args.handle) (c.self.view_is ∙ c.draw.ensures.rest)) ∙ there) in
    let put : HasInstead old new c.args.handle (Some (with_id was c.in-Some.id)) = written c.self.inside.metas c.args.handle was c.put_id.new.self (with_id was c.in-Some.id) c.self.inside.index c.insert_id.new.self c.self.inside.ids c.self.inside.ids there (put_meta was c.put_id.new.self c.issued-sequence.result c.in-Some.id c.issued-sequence.ensures room after) in
    let none : id_at was was.cids_issued ≡ None = c.self.invariant.below c.args.handle was was.cids_issued there (omega arith) in
    are_issued old new c.args.handle was c.in-Some.id c.self.invariant there fresh put t (λ k. c.keys_after.ensures.put was (was.cids_issued + 1) was.cids_issued c.in-Some.id none k)

pub returns-clause-routes : goal.returns-clause-routes
returns-clause-routes g c =
    let same : c.self.inside.index ≡ c.args.self.now.routes = ap (λ (p : PlainConnections g.row.G.Denot). p.routes) (c.self.view_is ∙ c.draw.ensures.rest) in
    let is = c.in_ok-insert_id.ensures in
    let t : IsTracked c.in-Some.id c.args.handle c.self.inside.index c.insert_id.new.self = tracked c.in-Some.id c.args.handle c.self.inside.index c.insert_id.new.self is.added (λ e. (is.empty e).1) in
    subst (λ (r : Routes). IsTracked c.in-Some.id c.args.handle r c.insert_id.new.self) same t
