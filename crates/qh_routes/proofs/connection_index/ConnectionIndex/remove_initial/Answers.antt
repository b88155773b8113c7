use Rattle.qh_routes.proofs.Places.{itself_exact, maps_of, slot_of_initials, take_of}
use Rattle.qh_routes.proofs.connection_index.ConnectionIndex.remove_initial.Goals as goal

pub invariant_of-self : goal.invariant_of-self
invariant_of-self c =
    (take_of slot_of_initials (maps_of c.self.inside) c.self.invariant c.self.view_is c.remove_first_of.new.map.entries (c.remove_first_of.ensures.ordered c.self.invariant.initials) itself_exact c.args.dst_cid c.args.target c.remove_first_of.ensures.loses).1

pub returns : goal.returns
returns c =
    (take_of slot_of_initials (maps_of c.self.inside) c.self.invariant c.self.view_is c.remove_first_of.new.map.entries (c.remove_first_of.ensures.ordered c.self.invariant.initials) itself_exact c.args.dst_cid c.args.target c.remove_first_of.ensures.loses).0
