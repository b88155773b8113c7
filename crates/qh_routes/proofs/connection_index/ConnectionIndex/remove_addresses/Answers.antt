use Rattle.std.proofs.Common.{[], ◌∷◌}
use Rattle.qh_routes.specs.declared.connection_index.RouteDatagramTo.TheVariants.{Connection}
use Rattle.qh_routes.specs.Routes.{pair, remote}
use Rattle.qh_routes.proofs.Changes.{all_removed, one_removed}
use Rattle.qh_routes.proofs.connection_index.ConnectionIndex.remove_addresses.Goals as goal

pub returns : goal.returns
returns c =
    let target = Connection c.args.handle in
    all_removed (pair c.args.addresses.now ∷ []) (remote c.args.addresses.now.remote ∷ []) target c.args.self.now c.remove_pair.new.self c.remove_remote.new.self
    (one_removed (pair c.args.addresses.now) target c.args.self.now c.remove_pair.new.self c.remove_pair.ensures)
    (one_removed (remote c.args.addresses.now.remote) target c.remove_pair.new.self c.remove_remote.new.self c.remove_remote.ensures)
