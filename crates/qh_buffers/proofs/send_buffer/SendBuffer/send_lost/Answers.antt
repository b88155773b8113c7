use Rattle.std.proofs.Common.{◌+◌, arith, ap}
use Rattle.qh_buffers.specs.SendState.{piece_end, held}
use Rattle.qh_buffers.proofs.ChangedPieces.{first_queued-sent_again}
use Rattle.qh_buffers.proofs.Keeping.{keeps_lost}
use Rattle.qh_buffers.proofs.HandedOut.{begins_before, lost_is_handed_out}
use Rattle.qh_buffers.proofs.send_buffer.SendBuffer.send_lost.Goals as goal

pub overflow_sub-len : goal.overflow_sub-len
overflow_sub-len c =
    let s = c.self.inside in
    let some = rw (← c.self.view_is) at c.requires.some in
    omega (arith, ap piece_end c.index.ensures, c.begin_of-start.ensures, begins_before s.pieces.items s.start s.resend_from c.index.result.now c.self.invariant.rises (omega (arith, c.self.invariant.is_next)))

pub next_queued-self-inside-requires : goal.next_queued-self-inside-requires
next_queued-self-inside-requires c =
    let s = c.self.inside in
    let some = rw (← c.self.view_is) at c.requires.some in
    rw c.in_ok-send_again.ensures.ok
    (first_queued-sent_again s.pieces.items _ s.resend_from (omega (arith, c.self.invariant.is_next)) (omega (arith, c.self.invariant.is_next)))

pub invariant_of-self-2 : goal.invariant_of-self-2
invariant_of-self-2 c =
    let s = c.self.inside in
    let some = rw (← c.self.view_is) at c.requires.some in
    let begin = begins_before s.pieces.items s.start s.resend_from c.index.result.now c.self.invariant.rises (omega (arith, c.self.invariant.is_next)) in
    rw c.in_ok-send_again.ensures.ok
    (keeps_lost s.start s.end s.resend_from c.next_queued-self-inside.result (c.begin_of-start.result + c.min.result) s.segments.items s.pieces.items c.self.invariant
    (omega (arith, begin, ap piece_end c.index.ensures, c.begin_of-start.ensures, c.min.ensures, c.requires.room))
    (rw c.in_ok-send_again.ensures.ok at c.next_queued-self-inside.ensures))

pub returns-clause-ok : goal.returns-clause-ok
returns-clause-ok c =
    let s = c.self.inside in
    let some = rw (← c.self.view_is) at c.requires.some in
    rw (← c.self.view_is, c.in_ok-send_again.ensures.ok)
    (lost_is_handed_out s.pieces.items (held s.start s.segments.items) s.start c.args.max_len s.resend_from c.begin_of-start.result (c.begin_of-start.result + c.min.result) c.index.result.now
    c.self.invariant.rises c.self.invariant.is_next (omega (arith, c.self.invariant.is_next)) c.index.ensures c.requires.room c.begin_of-start.ensures (omega (arith, c.min.ensures)))
