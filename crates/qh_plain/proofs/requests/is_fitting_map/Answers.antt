use Rattle.std.proofs.Common.{ap, ◌∙◌, sym, Option}
use Rattle.std.specs.Prelude.{is_some}
use Rattle.qh_spec.specs.Fields.{map_fields}
use Rattle.qh_plain.proofs.Rooms.{room_is}
use Rattle.qh_plain.specs.declared.requests.room.Room.{Room}
use Rattle.qh_plain.proofs.requests.is_fitting_map.Goals as goal

pub returns : goal.returns
returns c =
    let room : Room = record { fields = 1024; bytes = c.args.section } in
    let both = room_is room (map_fields c.args.fields.now) in
    let same = ap (λ (o : Option Room). is_some o) c.after_map.ensures in
    (λ t. both.0 (sym same ∙ sym c.is_some.ensures ∙ t), λ h. c.is_some.ensures ∙ same ∙ both.1 h)
