use Rattle.std.proofs.Common.{◌∙◌, [], ◌∷◌, sym, ap}
use Rattle.qh_routes.specs.declared.connection_index.RouteDatagramTo.TheVariants.{Connection}
use Rattle.std.specs.Map.{values_of}
use Rattle.qh_routes.specs.ConnectionMeta.{issued_keys}
use Rattle.qh_routes.specs.Routes.{issued}
use Rattle.qh_routes.proofs.Changes.{all_removed, keys_by, none_removed, one_removed}
use Rattle.qh_routes.proofs.connection_index.ConnectionIndex.remove_ids.Goals as goal

pub loop-id-init : goal.loop-id-init
loop-id-init c = λ final h.
    keys_by (issued_keys c.into_iter-id-iterator.result) (issued_keys (values_of c.args.meta.now.loc_cids)) (Connection c.args.handle) c.args.self.now final
    (ap issued_keys (c.into_iter-id-iterator.ensures.into_iter_gives ∙ c.ids-id-items.ensures.value)) h

pub loop-id-preserved : goal.loop-id-preserved
loop-id-preserved c = λ final h.
    let key = issued c.in-Some.id.now in
    let target = Connection c.args.handle in
    c.loop-id.invariant final
    (keys_by (key ∷ issued_keys c.next.new.self) (issued_keys c.loop-id.id-iterator) target c.loop-id.self final (sym (ap issued_keys c.in-Some.ensures.steps))
    (all_removed (key ∷ []) (issued_keys c.next.new.self) target c.loop-id.self c.retire.new.self final (one_removed key target c.loop-id.self c.retire.new.self c.retire.ensures) h))

pub returns : goal.returns
returns c =
    let target = Connection c.args.handle in
    c.loop-id.invariant c.loop-id.self (keys_by [] (issued_keys c.loop-id.id-iterator) target c.loop-id.self c.loop-id.self (sym (ap issued_keys c.in-None.ensures.steps.0)) (none_removed target c.loop-id.self))
