use Rattle.std.proofs.Common.{◌+◌, arith, ap}
use Rattle.qh_buffers.specs.SendBuffer.{taken_to, sent_to}
use Rattle.qh_buffers.specs.SendState.{held}
use Rattle.qh_buffers.proofs.Segments.{length-held}
use Rattle.qh_buffers.proofs.Keeping.{keeps_new}
use Rattle.qh_buffers.proofs.HandedOut.{new_is_handed_out}
use Rattle.qh_buffers.proofs.send_buffer.SendBuffer.send_new.Goals as goal

pub invariant_of-self-2 : goal.invariant_of-self-2
invariant_of-self-2 c =
    let s = c.self.inside in
    let reach = ap taken_to c.self.view_is in
    let sent = ap sent_to c.self.view_is in
    let len = length-held s.segments.items s.start s.end c.self.invariant.joined in
    rw c.in_ok-push_back.ensures.items
    (keeps_new s.start s.end s.resend_from (c.sent_to-start.result + c.min.result) s.segments.items s.pieces.items c.self.invariant
    (rw (← c.self.view_is) at c.requires.none)
    (omega (arith, sent, reach, len, c.requires.some, c.min.ensures))
    (omega (arith, sent, reach, len, c.requires.some, c.min.ensures)))

pub returns-clause-ok : goal.returns-clause-ok
returns-clause-ok c =
    let s = c.self.inside in
    let reach = ap taken_to c.self.view_is in
    let sent = ap sent_to c.self.view_is in
    let len = length-held s.segments.items s.start s.end c.self.invariant.joined in
    rw (← c.self.view_is, c.in_ok-push_back.ensures.items)
    (new_is_handed_out s.pieces.items (held s.start s.segments.items) s.start c.args.max_len c.sent_to-start.result (c.sent_to-start.result + c.min.result) c.self.invariant.rises
    (rw (← c.self.view_is) at c.requires.none) c.requires.room
    (omega (arith, sent)) (omega (arith, sent, reach, len)) (omega (arith, c.min.ensures, len)))
