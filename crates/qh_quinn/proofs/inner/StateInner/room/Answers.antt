use Rattle.std.proofs.Common.{vec_len, vec_capacity}
use Rattle.qh_quinn.proofs.Recordings.{room_enough}
use Rattle.qh_quinn.proofs.inner.StateInner.room.Goals as goal

pub returns-clause-enough : goal.returns-clause-enough
returns-clause-enough g c =
    let entries = c.room.new.self.entries in
    room_enough c.args.call.now c.args.self.now c.room.result c.payload_room-bytes.result c.in-Some.more (vec_len entries) (vec_capacity entries) c.requires.state c.payload_room-bytes.ensures.enough c.in-Some.ensures.ends c.in-Some.ensures.other c.room.ensures.payload c.room.ensures.room
