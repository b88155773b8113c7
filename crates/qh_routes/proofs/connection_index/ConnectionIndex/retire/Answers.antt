use Rattle.qh_routes.proofs.Places.{connection_exact, maps_of, slot_of_ids, take_of}
use Rattle.qh_routes.proofs.connection_index.ConnectionIndex.retire.Goals as goal

pub invariant_of-self : goal.invariant_of-self
invariant_of-self c =
    (take_of slot_of_ids (maps_of c.self.inside) c.self.invariant c.self.view_is c.remove_issued_of.new.map.entries (c.remove_issued_of.ensures.unique c.self.invariant.ids) connection_exact c.args.id c.args.handle c.remove_issued_of.ensures.loses).1

pub returns : goal.returns
returns c =
    (take_of slot_of_ids (maps_of c.self.inside) c.self.invariant c.self.view_is c.remove_issued_of.new.map.entries (c.remove_issued_of.ensures.unique c.self.invariant.ids) connection_exact c.args.id c.args.handle c.remove_issued_of.ensures.loses).0
