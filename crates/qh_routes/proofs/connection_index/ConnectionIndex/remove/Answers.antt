use Rattle.std.proofs.Common.{◌∙◌, List, ◌++◌, ℕ, ap}
use Rattle.qh_routes.specs.declared.connection_index.RouteDatagramTo.TheVariants.{Connection}
use Rattle.std.specs.Map.{values_of}
use Rattle.qh_spec.specs.declared.sides.Side.{Side}
use Rattle.qh_routes.specs.ConnectionMeta.{initial_keys, issued_keys, token_keys}
use Rattle.qh_routes.specs.Routes.{address_keys}
use Rattle.qh_routes.proofs.Changes.{all_removed, keys_by}
use Rattle.qh_routes.proofs.connection_index.ConnectionIndex.remove.Goals as goal

pub returns : goal.returns
returns c =
    let m = c.args.meta.now in
    let target = Connection c.args.handle in
    let first = keys_by (initial_keys c.side.result c.first_id.result) (initial_keys m.side m.init_cid) target c.args.self.now c.remove_first.new.self
    (ap (λ (side : Side). initial_keys side c.first_id.result) c.side.ensures ∙ ap (λ (id : List ℕ). initial_keys m.side id) c.first_id.ensures) c.remove_first.ensures in
    let addresses = keys_by (address_keys c.addresses.result) (address_keys m.addresses) target c.remove_ids.new.self c.remove_addresses.new.self (ap address_keys c.addresses.ensures) c.remove_addresses.ensures in
    let token = keys_by (token_keys c.reset_token.result) (token_keys m.reset_token) target c.remove_addresses.new.self c.remove_token.new.self (ap token_keys c.reset_token.ensures) c.remove_token.ensures in
    let others = address_keys m.addresses ++ token_keys m.reset_token in
    all_removed (initial_keys m.side m.init_cid) (issued_keys (values_of m.loc_cids) ++ others) target c.args.self.now c.remove_first.new.self c.remove_token.new.self first
    (all_removed (issued_keys (values_of m.loc_cids)) others target c.remove_first.new.self c.remove_ids.new.self c.remove_token.new.self c.remove_ids.ensures
    (all_removed (address_keys m.addresses) (token_keys m.reset_token) target c.remove_ids.new.self c.remove_addresses.new.self c.remove_token.new.self addresses token))
