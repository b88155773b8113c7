use Rattle.std.proofs.Common.{◌∙◌, sym}
use Rattle.qh_routes.proofs.Places.{map_itself, maps_of, routed, slot_of_initials}
use Rattle.qh_routes.proofs.connection_index.ConnectionIndex.first_of.Goals as goal

pub returns : goal.returns
returns c =
    let value = c.copied.ensures ∙ c.get.ensures.value in
    routed slot_of_initials (maps_of c.self.inside) c.self.invariant c.self.view_is c.args.id.now c.copied.result (value ∙ sym (map_itself _))
