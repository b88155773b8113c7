use Rattle.std.proofs.Common.{sym, ap, ◌∙◌, subst, Option}
use Rattle.std.specs.Prelude.{option_copied}
use Rattle.http_header.specs.HeaderMap.{Entries}
use Rattle.http_header.specs.FieldValue.{FieldValue}
use Rattle.qh_message.specs.Room.{HasTrailerRoom}
use Rattle.qh_message.proofs.Rooms.{message_room, trailer_room}
use Rattle.qh_message.proofs.laws.has_room.Goals as goal

pub returns-in-Some : goal.returns-in-Some
returns-in-Some c =
    message_room c.args.message.now c.fields.result.now c.len.ensures.valid c.fields.ensures
    (trailer_room c.args.message.now.trailers c.in-Some.trailers.now c.len-in-Some.ensures.valid (sym c.trailers.ensures ∙ ap option_copied c.in-Some.is))

pub returns-in_default : goal.returns-in_default
returns-in_default c =
    message_room c.args.message.now c.fields.result.now c.len.ensures.valid c.fields.ensures
    (subst (λ (z : Option (Entries FieldValue)). HasTrailerRoom z) (sym (sym c.trailers.ensures ∙ ap option_copied c.in_default.is)) tt)
