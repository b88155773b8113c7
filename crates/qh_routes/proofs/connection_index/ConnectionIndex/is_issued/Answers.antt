use Rattle.qh_routes.proofs.Places.{known, maps_of, slot_of_ids}
use Rattle.qh_routes.proofs.connection_index.ConnectionIndex.is_issued.Goals as goal

pub returns : goal.returns
returns c = known slot_of_ids (maps_of c.self.inside) c.self.invariant c.self.view_is c.args.id.now c.contains_key.result c.contains_key.ensures
