use Rattle.qh_routes.proofs.Places.{known, maps_of, slot_of_initials}
use Rattle.qh_routes.proofs.connection_index.ConnectionIndex.is_initial.Goals as goal

pub returns : goal.returns
returns c = known slot_of_initials (maps_of c.self.inside) c.self.invariant c.self.view_is c.args.id.now c.contains_key.result c.contains_key.ensures
