use Rattle.std.proofs.Common.{ap, ◌∙◌, sym, Option, Some, ◌≡◌}
use Rattle.std.specs.Prelude.{is_some}
use Rattle.qh_spec.specs.Fields.{message_fields, head_fields, map_fields}
use Rattle.qh_spec.specs.Message.{PlainHead}
use Rattle.qh_plain.proofs.Rooms.{room_is, two_rooms}
use Rattle.qh_plain.specs.Room.{after_fields}
use Rattle.qh_plain.specs.declared.requests.room.Room.{Room}
use Rattle.http_header.specs.HeaderMap.{Entries}
use Rattle.http_header.specs.FieldValue.{FieldValue}
use Rattle.qh_plain.proofs.requests.has_fitting_fields.Goals as goal

pub returns : goal.returns
returns c =
    let m = c.args.message.now in
    let room : Room = record { fields = 1024; bytes = c.args.section } in
    let both = room_is room (message_fields m) in
    let first : c.after_head-room.result ≡ after_fields (Some room) (head_fields m.head) = c.after_head-room.ensures ∙ ap (λ (h : PlainHead). after_fields (Some room) (head_fields h)) c.head.ensures in
    let second : c.after_map.result ≡ after_fields c.after_head-room.result (map_fields m.fields) =
    c.after_map.ensures ∙ ap (λ (e : Entries FieldValue). after_fields c.after_head-room.result (map_fields e)) c.fields.ensures in
    let same = ap (λ (o : Option Room). is_some o) (two_rooms (Some room) c.after_head-room.result c.after_map.result (head_fields m.head) (map_fields m.fields) first second) in
    (λ t. both.0 (sym same ∙ sym c.is_some.ensures ∙ t), λ h. c.is_some.ensures ∙ same ∙ both.1 h)
