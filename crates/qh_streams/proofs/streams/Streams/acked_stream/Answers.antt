use Rattle.std.proofs.Common.{◌≡◌, ◌<◌, ◌++◌, refl, sym, ap, ◌∙◌, arith, deque_len, deque_capacity}
use Rattle.std.proofs.lemmas.List.{append-nil}
use Rattle.qh_streams.specs.Streams.{finished_events, is_live}
use Rattle.qh_streams.proofs.StreamsKept.{send_kept, halves_kept, send_settled, recv_same, out_kept, later_same}
use Rattle.qh_streams.proofs.StreamsSettled.{seen, room_for_finished, pushed, pushed_length, is_piece_acked, counted_of_peer}
use Rattle.qh_streams.proofs.streams.Streams.acked_stream.Goals as goal
use Rattle.qh_streams.proofs.streams.Streams.acked_stream.Goals.{then-ack, else-ack}

has_room : (c : goal.After-push_back) → deque_len c.self.inside.events < deque_capacity c.self.inside.events
has_room c =
    let room = room_for_finished c.ack.result c.ack.ensures.settled c.if-ack.true in
    omega (arith, room, c.self.invariant.room, c.self.inside.events.ok.0)

pub invariant_of-self : goal.invariant_of-self
invariant_of-self c =
    let room = room_for_finished c.ack.result c.ack.ensures.settled c.if-ack.true in
    let same = c.push_back.ensures.in_place (has_room c) in
    let told = pushed _ _ _ _ c.push_back.ensures.items (c.push_back.ensures.succeeds (has_room c)) in
    halves_kept c.self.invariant (send_settled c.ack.ensures.settled) (recv_same refl) refl refl refl (omega (arith, c.self.invariant.room, room, same, pushed_length _ _ _ told))

pub invariant_of-self-else-ack : goal.invariant_of-self-else-ack
invariant_of-self-else-ack c = send_kept c.self.invariant (send_settled c.ack.ensures.settled) refl

-- the streams before one more is counted as closed
mid_is : (c : goal.After-count_closed) → c.if-ack.self ≡ record (seen c.self.inside) { send = c.ack.new.self; events = c.self.inside.events.items ++ finished_events c.ack.result c.args.id }
mid_is c = elim c.if-ack.branch [
  | then-ack w ↦
      let room = room_for_finished c.ack.result c.ack.ensures.settled w.if-ack.true in
      let less : deque_len c.self.inside.events < deque_capacity c.self.inside.events = omega (arith, room, c.self.invariant.room, c.self.inside.events.ok.0) in
      let told = pushed _ _ _ _ w.push_back.ensures.items (w.push_back.ensures.succeeds less) in
      w.self-is ∙ rw (w.if-ack.true, told) refl
  | else-ack w ↦ w.self-is ∙ rw (w.if-ack.false, append-nil c.self.inside.events.items) refl
]

pub returns-clause-acked : goal.returns-clause-acked
returns-clause-acked c =
    let s = seen c.self.inside in
    let mid = record s { send = c.ack.new.self; events = s.events ++ finished_events c.ack.result c.args.id } in
    rw (← c.self.view_is)
    (is_piece_acked s c.count_closed.new.self c.ack.new.self c.args.id c.args.piece c.ack.result c.ack.ensures.settled
    (c.count_closed.ensures.value ∙ rw (c.is_live_of_peer-was_live.ensures, ← c.self.view_is, mid_is c) (counted_of_peer mid c.args.id.0 (is_live s c.args.id.0))))

pub returns-clause-keeps_out : goal.returns-clause-keeps_out
returns-clause-keeps_out c f out =
    let s = seen c.self.inside in
    let mid = record s { send = c.ack.new.self; events = s.events ++ finished_events c.ack.result c.args.id } in
    c.count_closed.ensures.keeps_out f (rw (mid_is c) (out_kept (later_same s mid refl refl refl) c.ack.ensures.spans f (rw (← c.self.view_is) at out)))
