use Rattle.std.proofs.Common.{[], ◌∷◌, sym, ap}
use Rattle.qh_routes.specs.declared.connection_index.RouteDatagramTo.TheVariants.{Connection}
use Rattle.qh_routes.specs.ConnectionMeta.{token_keys}
use Rattle.qh_routes.specs.Routes.{reset}
use Rattle.qh_routes.proofs.Changes.{keys_by, one_removed}
use Rattle.qh_routes.proofs.connection_index.ConnectionIndex.remove_token.Goals as goal

pub returns-in-Some : goal.returns-in-Some
returns-in-Some c =
    let key = reset c.in-Some.remote c.in-Some.token.0 in
    let target = Connection c.args.handle in
    keys_by (key ∷ []) (token_keys c.args.token) target c.args.self.now c.remove_reset_token.new.self (sym (ap token_keys c.in-Some.is))
    (one_removed key target c.args.self.now c.remove_reset_token.new.self c.remove_reset_token.ensures)
