use Rattle.qh_routes.proofs.Places.{connection_exact, maps_of, slot_of_remotes, take_of}
use Rattle.qh_routes.proofs.connection_index.ConnectionIndex.remove_remote.Goals as goal

pub invariant_of-self : goal.invariant_of-self
invariant_of-self c =
    (take_of slot_of_remotes (maps_of c.self.inside) c.self.invariant c.self.view_is c.remove_of.new.map.entries (c.remove_of.ensures.ordered c.self.invariant.remotes) connection_exact c.args.address.now c.args.handle c.remove_of.ensures.loses).1

pub returns : goal.returns
returns c =
    (take_of slot_of_remotes (maps_of c.self.inside) c.self.invariant c.self.view_is c.remove_of.new.map.entries (c.remove_of.ensures.ordered c.self.invariant.remotes) connection_exact c.args.address.now c.args.handle c.remove_of.ensures.loses).0
