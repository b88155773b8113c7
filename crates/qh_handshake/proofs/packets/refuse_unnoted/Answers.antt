use Rattle.qh_handshake.proofs.FramesCome.{first_read, first_refused}
use Rattle.qh_handshake.proofs.HelloHeld.{fault_keeps, frame_keeps}
use Rattle.qh_handshake.proofs.packets.refuse_unnoted.Goals as goal

pub returns-in_default-clause-wanting : goal.returns-in_default-clause-wanting
returns-in_default-clause-wanting c = λ _. absurd (first_read c.args.frames.now c.requires.surveyed.0 c.requires.surveyed.1 c.in_default.ensures.none)

pub returns-in-Err-clause-error : goal.returns-in-Err-clause-error
returns-in-Err-clause-error c =
    first_refused c.args.frames.now c.in-Ok.field-0-1.now c.args.space.now c.take_frame.new.self c.in-Ok.frame c.in-Err.fault c.error_by.result
    c.in-Ok.ensures.found c.in-Ok.ensures.kind c.in-Err.ensures.fault c.in-Err.ensures.err c.error_by.ensures.refused c.error_by.ensures.wanting

pub returns-in-Err-clause-hello : goal.returns-in-Err-clause-hello
returns-in-Err-clause-hello c = fault_keeps c.in-Err.fault c.args.space.now c.take_frame.new.self c.in-Ok.frame c.in-Err.ensures.err

pub returns-in-Ok-take_frame-clause-hello : goal.returns-in-Ok-take_frame-clause-hello
returns-in-Ok-take_frame-clause-hello c = frame_keeps c.args.now.0 c.args.space.now c.take_frame.new.self c.in-Ok.frame _ c.in-Ok-take_frame.ensures.ok
