use Rattle.std.proofs.Common.{length, arith, ap}
use Rattle.std.proofs.lemmas.List.{length-map}
use Rattle.qh_buffers.specs.declared.send_buffer.Mark.TheVariants.{Acked}
use Rattle.qh_buffers.specs.SendState.{piece_end, mark_between}
use Rattle.qh_buffers.proofs.Pieces.{rises_sorted}
use Rattle.qh_buffers.proofs.Acknowledged.{fewer_unacked, next_released, keeps_released, is_acknowledged}
use Rattle.qh_buffers.proofs.send_buffer.SendBuffer.ack.Goals as goal

pub mark_between-requires-clause-sorted : goal.mark_between-requires-clause-sorted
mark_between-requires-clause-sorted c = rises_sorted piece_end c.self.inside.pieces.items c.self.inside.start c.self.invariant.rises

pub overflow_sub-gone : goal.overflow_sub-gone
overflow_sub-gone c =
    let qs = c.mark_between.new.pieces.items in
    omega (arith, fewer_unacked qs, ap length c.let_go-self-inside.ensures.pieces, ap length c.mark_between.ensures.marks, length-map c.self.inside.pieces.items (mark_between Acked c.args.offsets.start c.args.offsets.end))

pub next_queued-self-inside-requires : goal.next_queued-self-inside-requires
next_queued-self-inside-requires c =
    let next = next_released c.self.inside.resend_from c.args.offsets.start c.args.offsets.end c.self.inside.pieces.items c.mark_between.new.pieces.items c.let_go-self-inside.new.pieces.items c.self.invariant.is_next c.mark_between.ensures.marks c.let_go-self-inside.ensures.pieces in
    omega (arith, c.saturating_sub.ensures)

pub invariant_of-self : goal.invariant_of-self
invariant_of-self c =
    let s = c.self.inside in
    keeps_released s.start c.args.offsets.start c.args.offsets.end s.end s.resend_from c.next_queued-self-inside.result c.let_go-self-inside.result s.segments.items c.let_go.new.segments.items s.pieces.items c.mark_between.new.pieces.items c.let_go-self-inside.new.pieces.items
    c.self.invariant (record { marks = c.mark_between.ensures.marks; start = c.let_go-self-inside.ensures.start; pieces = c.let_go-self-inside.ensures.pieces; segments = c.let_go.ensures }) c.next_queued-self-inside.ensures

pub returns : goal.returns
returns c =
    let s = c.self.inside in
    let span = rw (← c.self.view_is) at c.requires in
    rw (← c.self.view_is)
    (is_acknowledged s.start c.args.offsets.start c.args.offsets.end s.end s.resend_from c.let_go-self-inside.result s.segments.items c.let_go.new.segments.items s.pieces.items c.mark_between.new.pieces.items c.let_go-self-inside.new.pieces.items
    c.self.invariant (record { marks = c.mark_between.ensures.marks; start = c.let_go-self-inside.ensures.start; pieces = c.let_go-self-inside.ensures.pieces; segments = c.let_go.ensures }) span)
