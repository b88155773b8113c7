use Rattle.qh_message.proofs.Rooms.{sized_room, valid_room}
use Rattle.qh_message.proofs.laws.writable.Goals as goal

pub returns-clause-room : goal.returns-clause-room
returns-clause-room c = sized_room

pub returns-clause-valid_room : goal.returns-clause-valid_room
returns-clause-valid_room c = valid_room
