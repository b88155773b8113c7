use Rattle.std.proofs.Common.{rules, ◌<◌, arith}
use Rattle.qh_h3.specs.Buffers.{held_of}
use Rattle.qh_h3.proofs.Payload.{payload_fails, payload_given, payload_wants}
use Rattle.qh_h3.proofs.frame.poll.poll_payload.Goals as goal

pub returns-in-Ready-Err-clause-payload : goal.returns-in-Ready-Err-clause-payload
returns-in-Ready-Err-clause-payload g c =
    let some : 0 < c.args.buffer.now.left = omega (arith, c.if-buffer-eq0.false) in
    payload_fails _ _ _ _ c.args.buffer.now c.fill.new.buffer some c.in-Ready-Err.e (rw c.in-Ready-Err.field-0-is at c.in-Ready-Err.ensures.filled)

pub returns-in-Ok-clause-payload : goal.returns-in-Ok-clause-payload
returns-in-Ok-clause-payload g c =
    let some : 0 < c.args.buffer.now.left = omega (arith, c.if-buffer-eq0.false) in
    payload_given _ _ _ _ c.args.buffer.now c.fill.new.buffer some (held_of c.cut.new.self) c.in-Ok.piece (rw (c.in-Ready-Ok-true.field-0-is, c.in-Ready-Ok-true.field-0-0-test) at c.in-Ready-Ok-true.ensures.filled)
    c.in-Ok.ensures.piece.0 c.in-Ok.ensures.piece.1 c.in-Ok.ensures.gives c.cut.ensures.is_ended

pub returns-in-Err-clause-payload : goal.returns-in-Err-clause-payload
returns-in-Err-clause-payload g c =
    let some : 0 < c.args.buffer.now.left = omega (arith, c.if-buffer-eq0.false) in
    payload_wants _ _ _ _ c.args.buffer.now c.fill.new.buffer some (held_of c.cut.new.self) c.in-Err.e (rw (c.in-Ready-Ok-true.field-0-is, c.in-Ready-Ok-true.field-0-0-test) at c.in-Ready-Ok-true.ensures.filled)
    c.in-Err.ensures.err.0 (λ i. held_of (c.in-Err.ensures.err.1 i))
