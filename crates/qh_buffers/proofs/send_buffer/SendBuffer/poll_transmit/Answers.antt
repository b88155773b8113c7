use Rattle.std.proofs.Common.{ℕ, ◌+◌, length, arith, ap, refl}
use Rattle.qh_buffers.specs.SendBuffer.{taken_to, sent_to}
use Rattle.qh_buffers.specs.SendState.{held}
use Rattle.qh_buffers.proofs.QueuedPieces.{first_queued_within}
use Rattle.qh_buffers.proofs.Segments.{length-held}
use Rattle.qh_buffers.proofs.HandedOut.{nothing_waits}
use Rattle.qh_buffers.proofs.send_buffer.SendBuffer.poll_transmit.Goals as goal

pub returns-then-sent_to-self-clause-none : goal.returns-then-sent_to-self-clause-none
returns-then-sent_to-self-clause-none c = λ _.
    let s = c.self.inside in
    let sent = ap sent_to c.self.view_is in
    let none = λ (k : ℕ). nothing_waits s.pieces.items s.start (s.start + length (held s.start s.segments.items)) k c.self.invariant.rises
    (omega (arith, c.self.invariant.is_next, first_queued_within s.pieces.items))
    (omega (arith, sent, length-held s.segments.items s.start s.end c.self.invariant.joined)) in
    (refl, rw (← c.self.view_is) none)

pub send_new-requires-clause-none : goal.send_new-requires-clause-none
send_new-requires-clause-none c =
    rw (← c.self.view_is) (omega (arith, c.self.invariant.is_next, first_queued_within c.self.inside.pieces.items))

pub send_new-requires-clause-some : goal.send_new-requires-clause-some
send_new-requires-clause-some c =
    let s = c.self.inside in
    let sent = ap sent_to c.self.view_is in
    let reach = ap taken_to c.self.view_is in
    omega (arith, sent, reach, c.self.invariant.within, length-held s.segments.items s.start s.end c.self.invariant.joined)
