use Rattle.std.proofs.Common.{◌+◌, length, arith, ap}
use Rattle.std.proofs.lemmas.Bool.{ltb-true, ltb-false}
use Rattle.qh_buffers.specs.SendBuffer.{sent_to}
use Rattle.qh_buffers.specs.SendState.{held}
use Rattle.qh_buffers.proofs.Segments.{length-held}
use Rattle.qh_buffers.proofs.QueuedPieces.{first_queued_within}
use Rattle.qh_buffers.proofs.HandedOut.{lost_waits, rest_waits, nothing_waits}
use Rattle.qh_buffers.proofs.send_buffer.SendBuffer.has_unsent_data.Goals as goal

pub returns-then-self-len-clause-some : goal.returns-then-self-len-clause-some
returns-then-self-len-clause-some c = λ _.
    let s = c.self.inside in
    rw (← c.self.view_is)
    (lost_waits s.pieces.items s.start (s.start + length (held s.start s.segments.items)) s.resend_from c.self.invariant.rises c.self.invariant.is_next (omega arith))

pub returns-else-self-len-clause-some : goal.returns-else-self-len-clause-some
returns-else-self-len-clause-some c = λ less.
    let s = c.self.inside in
    let sent = ap sent_to c.self.view_is in
    rw (← c.self.view_is)
    (rest_waits s.pieces.items s.start (s.start + length (held s.start s.segments.items)) c.self.invariant.rises
    (omega (arith, sent, ltb-true _ _ less, length-held s.segments.items s.start s.end c.self.invariant.joined)))

pub returns-else-self-len-clause-none : goal.returns-else-self-len-clause-none
returns-else-self-len-clause-none c = λ more k.
    let s = c.self.inside in
    let sent = ap sent_to c.self.view_is in
    rw (← c.self.view_is)
    (nothing_waits s.pieces.items s.start (s.start + length (held s.start s.segments.items)) k c.self.invariant.rises
    (omega (arith, first_queued_within s.pieces.items))
    (omega (arith, sent, ltb-false _ _ more, length-held s.segments.items s.start s.end c.self.invariant.joined)))
