use Rattle.std.proofs.Common.{length, arith, ap, sym, ◌∙◌}
use Rattle.std.proofs.lemmas.Bool.{eqb-false}
use Rattle.qh_buffers.specs.SendBuffer.{taken_to}
use Rattle.qh_buffers.proofs.Segments.{length-held}
use Rattle.qh_buffers.proofs.Keeping.{keeps_written, view_written}
use Rattle.qh_buffers.proofs.send_buffer.SendBuffer.write.Goals as goal

pub invariant_of-self-2 : goal.invariant_of-self-2
invariant_of-self-2 c =
    let s = c.self.inside in
    let reach = ap taken_to c.self.view_is in
    rw c.in_ok-push_back.ensures.items
    (keeps_written s.start s.end c.len.result s.resend_from s.segments.items s.pieces.items c.args.payload c.self.invariant c.len.ensures.value
    (let some = eqb-false (length c.args.payload) 0 (sym c.is_empty.ensures ∙ c.if-is_empty.false) in omega (arith, c.len.ensures.value))
    (omega (arith, reach, length-held s.segments.items s.start s.end c.self.invariant.joined, c.requires, c.len.ensures.value)))

pub returns-clause-ok : goal.returns-clause-ok
returns-clause-ok c =
    let s = c.self.inside in
    rw (← c.self.view_is, c.in_ok-push_back.ensures.items)
    (view_written s.start s.end c.len.result s.segments.items s.pieces.items c.args.payload c.self.invariant.joined c.len.ensures.value)
