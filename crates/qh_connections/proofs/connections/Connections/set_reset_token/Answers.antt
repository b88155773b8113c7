use Rattle.std.proofs.Common.{slice_set, ◌≡◌, Some, sym, ap, ◌∙◌}
use Rattle.std.specs.Option.{option_copied_mut}
use Rattle.std.proofs.lemmas.Bool.{both_ways}
use Rattle.qh_connections.specs.Connections.{HasInstead, PlainConnections, meta_at}
use Rattle.qh_routes.proofs.Changes.{at_err}
use Rattle.qh_connections.proofs.Slots.{same_meta, written}
use Rattle.qh_connections.proofs.Tokens.{are_replaced, replaced_again, replaced_as, replaced_later, replaced_none, with_token}
use Rattle.qh_connections.proofs.connections.Connections.set_reset_token.Goals as goal

pub invariant_of-self-then-not-is_same_reset : goal.invariant_of-self-then-not-is_same_reset
invariant_of-self-then-not-is_same_reset g c =
    let old : PlainConnections g.row.G.Denot = record { routes = c.self.inside.index; metas = c.self.inside.metas.slots; ids = c.self.inside.ids } in
    let new : PlainConnections g.row.G.Denot = record { routes = c.remove_reset_token.new.self; metas = slice_set c.self.inside.metas.slots c.args.handle.0 (Some c.set_reset_token.new.self); ids = c.self.inside.ids } in
    let was = c.unwrap-meta.result.now in
    let there : meta_at old c.args.handle ≡ Some was = sym c.get_mut.ensures.value ∙ ap (λ o. option_copied_mut o) c.unwrap-meta.ensures in
    let put : HasInstead old new c.args.handle (Some (with_token was (Some (c.args.remote, c.args.token)))) = written c.self.inside.metas c.args.handle was c.set_reset_token.new.self (with_token was (Some (c.args.remote, c.args.token))) c.self.inside.index c.remove_reset_token.new.self c.self.inside.ids c.self.inside.ids there c.set_reset_token.ensures.after in
    let replaced = replaced_later c.args.remote c.args.token c.args.handle c.self.inside.index c.remove_reset_token.new.self was.reset_token c.in-Some.from c.in-Some.before c.insert_reset_token.new.self (sym c.set_reset_token.ensures.earlier ∙ c.in-Some.is)
    (λ e. both_ways c.is_same_reset.result c.if-not-is_same_reset.true (c.is_same_reset.ensures.1 e)) c.in_ok-insert_reset_token.ensures.added c.remove_reset_token.ensures in
    are_replaced old new c.args.handle was c.args.remote c.args.token c.self.invariant there put replaced (λ t k. c.keys_after.ensures.reset was t k)

pub invariant_of-self-else-not-is_same_reset : goal.invariant_of-self-else-not-is_same_reset
invariant_of-self-else-not-is_same_reset g c =
    let old : PlainConnections g.row.G.Denot = record { routes = c.self.inside.index; metas = c.self.inside.metas.slots; ids = c.self.inside.ids } in
    let new : PlainConnections g.row.G.Denot = record { routes = c.insert_reset_token.new.self; metas = slice_set c.self.inside.metas.slots c.args.handle.0 (Some c.set_reset_token.new.self); ids = c.self.inside.ids } in
    let was = c.unwrap-meta.result.now in
    let there : meta_at old c.args.handle ≡ Some was = sym c.get_mut.ensures.value ∙ ap (λ o. option_copied_mut o) c.unwrap-meta.ensures in
    let put : HasInstead old new c.args.handle (Some (with_token was (Some (c.args.remote, c.args.token)))) = written c.self.inside.metas c.args.handle was c.set_reset_token.new.self (with_token was (Some (c.args.remote, c.args.token))) c.self.inside.index c.insert_reset_token.new.self c.self.inside.ids c.self.inside.ids there c.set_reset_token.ensures.after in
    let replaced = replaced_again c.args.remote c.args.token c.args.handle c.self.inside.index c.insert_reset_token.new.self was.reset_token c.in-Some.from c.in-Some.before (sym c.set_reset_token.ensures.earlier ∙ c.in-Some.is)
    (c.is_same_reset.ensures.0 c.if-not-is_same_reset.false) c.in_ok-insert_reset_token.ensures.added in
    are_replaced old new c.args.handle was c.args.remote c.args.token c.self.invariant there put replaced (λ t k. c.keys_after.ensures.reset was t k)

pub invariant_of-self-in_default : goal.invariant_of-self-in_default
invariant_of-self-in_default g c =
    let old : PlainConnections g.row.G.Denot = record { routes = c.self.inside.index; metas = c.self.inside.metas.slots; ids = c.self.inside.ids } in
    let new : PlainConnections g.row.G.Denot = record { routes = c.insert_reset_token.new.self; metas = slice_set c.self.inside.metas.slots c.args.handle.0 (Some c.set_reset_token.new.self); ids = c.self.inside.ids } in
    let was = c.unwrap-meta.result.now in
    let there : meta_at old c.args.handle ≡ Some was = sym c.get_mut.ensures.value ∙ ap (λ o. option_copied_mut o) c.unwrap-meta.ensures in
    let put : HasInstead old new c.args.handle (Some (with_token was (Some (c.args.remote, c.args.token)))) = written c.self.inside.metas c.args.handle was c.set_reset_token.new.self (with_token was (Some (c.args.remote, c.args.token))) c.self.inside.index c.insert_reset_token.new.self c.self.inside.ids c.self.inside.ids there c.set_reset_token.ensures.after in
    let replaced = replaced_none c.args.remote c.args.token c.args.handle c.self.inside.index c.insert_reset_token.new.self was.reset_token (sym c.set_reset_token.ensures.earlier ∙ c.in_default.is) c.in_ok-insert_reset_token.ensures.added in
    are_replaced old new c.args.handle was c.args.remote c.args.token c.self.invariant there put replaced (λ t k. c.keys_after.ensures.reset was t k)

pub returns-then-not-is_same_reset-clause-routes : goal.returns-then-not-is_same_reset-clause-routes
returns-then-not-is_same_reset-clause-routes g c =
    let old : PlainConnections g.row.G.Denot = record { routes = c.self.inside.index; metas = c.self.inside.metas.slots; ids = c.self.inside.ids } in
    let was = c.unwrap-meta.result.now in
    let there : meta_at old c.args.handle ≡ Some was = sym c.get_mut.ensures.value ∙ ap (λ o. option_copied_mut o) c.unwrap-meta.ensures in
    let replaced = replaced_later c.args.remote c.args.token c.args.handle c.self.inside.index c.remove_reset_token.new.self was.reset_token c.in-Some.from c.in-Some.before c.insert_reset_token.new.self (sym c.set_reset_token.ensures.earlier ∙ c.in-Some.is)
    (λ e. both_ways c.is_same_reset.result c.if-not-is_same_reset.true (c.is_same_reset.ensures.1 e)) c.in_ok-insert_reset_token.ensures.added c.remove_reset_token.ensures in
    rw (sym c.self.view_is) (λ m e. replaced_as c.args.remote c.args.token c.args.handle c.self.inside.index c.remove_reset_token.new.self was m (same_meta (meta_at old c.args.handle) was m there e) replaced)

pub returns-else-not-is_same_reset-clause-routes : goal.returns-else-not-is_same_reset-clause-routes
returns-else-not-is_same_reset-clause-routes g c =
    let old : PlainConnections g.row.G.Denot = record { routes = c.self.inside.index; metas = c.self.inside.metas.slots; ids = c.self.inside.ids } in
    let was = c.unwrap-meta.result.now in
    let there : meta_at old c.args.handle ≡ Some was = sym c.get_mut.ensures.value ∙ ap (λ o. option_copied_mut o) c.unwrap-meta.ensures in
    let replaced = replaced_again c.args.remote c.args.token c.args.handle c.self.inside.index c.insert_reset_token.new.self was.reset_token c.in-Some.from c.in-Some.before (sym c.set_reset_token.ensures.earlier ∙ c.in-Some.is)
    (c.is_same_reset.ensures.0 c.if-not-is_same_reset.false) c.in_ok-insert_reset_token.ensures.added in
    rw (sym c.self.view_is) (λ m e. replaced_as c.args.remote c.args.token c.args.handle c.self.inside.index c.insert_reset_token.new.self was m (same_meta (meta_at old c.args.handle) was m there e) replaced)

pub returns-in_default-clause-routes : goal.returns-in_default-clause-routes
returns-in_default-clause-routes g c =
    let old : PlainConnections g.row.G.Denot = record { routes = c.self.inside.index; metas = c.self.inside.metas.slots; ids = c.self.inside.ids } in
    let was = c.unwrap-meta.result.now in
    let there : meta_at old c.args.handle ≡ Some was = sym c.get_mut.ensures.value ∙ ap (λ o. option_copied_mut o) c.unwrap-meta.ensures in
    let replaced = replaced_none c.args.remote c.args.token c.args.handle c.self.inside.index c.insert_reset_token.new.self was.reset_token (sym c.set_reset_token.ensures.earlier ∙ c.in_default.is) c.in_ok-insert_reset_token.ensures.added in
    rw (sym c.self.view_is) (λ m e. replaced_as c.args.remote c.args.token c.args.handle c.self.inside.index c.insert_reset_token.new.self was m (same_meta (meta_at old c.args.handle) was m there e) replaced)

pub returns-in_err-insert_reset_token-clause-fresh : goal.returns-in_err-insert_reset_token-clause-fresh
returns-in_err-insert_reset_token-clause-fresh g c = rw (sym c.self.view_is) (at_err c.from_residual.result c.in_err-insert_reset_token.ensures.fresh)
