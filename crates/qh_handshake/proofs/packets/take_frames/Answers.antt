use Rattle.std.proofs.Common.{inr}
use Rattle.qh_handshake.proofs.FramesCome.{stops_at, taken_all, taken_closed, taken_more, taken_refused}
use Rattle.qh_handshake.proofs.HelloHeld.{chain, fault_keeps, frame_keeps}
use Rattle.qh_handshake.proofs.packets.take_frames.Goals as goal
use Rattle.qh_frame.specs.Plain.{plain_of}
use Rattle.qh_packet.proofs.Surveys.{frame_takes}

pub loop-frame-smaller : goal.loop-frame-smaller
loop-frame-smaller c = frame_takes c.loop-frame.rest.now c.in-Ok.more.now (plain_of c.in-Ok.frame) c.in-Ok.ensures.found

pub loop-frame-preserved : goal.loop-frame-preserved
loop-frame-preserved c =
    let step = rw c.in-Ok-None.field-0-is at c.in-Ok-None.ensures.ok in
    taken_more c.args.now.0 c.args.frames.now c.loop-frame.rest.now c.in-Ok.more.now c.args.space.now c.loop-frame.space c.take_frame.new.self c.in-Ok.frame
    c.loop-frame.invariant c.in-Ok.ensures.found c.in-Ok-None.ensures.taken step c.take_frame.ensures.space

pub returns-in-Ok-Some-clause-err : goal.returns-in-Ok-Some-clause-err
returns-in-Ok-Some-clause-err c =
    let step = rw c.in-Ok-Some.field-0-is at c.in-Ok-Some.ensures.ok in
    inr (taken_closed c.args.now.0 c.args.frames.now c.loop-frame.rest.now c.in-Ok.more.now c.args.space.now c.loop-frame.space c.take_frame.new.self c.in-Ok.frame c.in-Ok-Some.close
    c.loop-frame.invariant c.in-Ok.ensures.found c.in-Ok-Some.ensures.taken step)

pub returns-in-Ok-Some-clause-hello : goal.returns-in-Ok-Some-clause-hello
returns-in-Ok-Some-clause-hello c =
    chain c.args.space.now c.loop-frame.space c.take_frame.new.self c.loop-frame.invariant.hello (frame_keeps c.args.now.0 c.loop-frame.space c.take_frame.new.self c.in-Ok.frame _ c.in-Ok-Some.ensures.ok)

pub returns-in-Err-clause-err : goal.returns-in-Err-clause-err
returns-in-Err-clause-err c =
    taken_refused c.args.now.0 c.args.frames.now c.loop-frame.rest.now c.in-Ok.more.now c.args.space.now c.loop-frame.space c.take_frame.new.self c.in-Ok.frame c.in-Err.fault c.error_by.result
    c.loop-frame.invariant c.in-Ok.ensures.found c.in-Ok.ensures.kind c.in-Err.ensures.fault c.in-Err.ensures.err c.error_by.ensures.refused c.error_by.ensures.wanting

pub returns-in-Err-clause-hello : goal.returns-in-Err-clause-hello
returns-in-Err-clause-hello c =
    chain c.args.space.now c.loop-frame.space c.take_frame.new.self c.loop-frame.invariant.hello (fault_keeps c.in-Err.fault c.loop-frame.space c.take_frame.new.self c.in-Ok.frame c.in-Err.ensures.err)

pub returns-clause-ok : goal.returns-clause-ok
returns-clause-ok c = taken_all c.args.now.0 c.args.frames.now c.loop-frame.rest.now c.args.space.now c.loop-frame.space c.loop-frame.invariant c.in_default.ensures.none

pub returns-in-Err-clause-wanting : goal.returns-in-Err-clause-wanting
returns-in-Err-clause-wanting c =
    stops_at c.args.now.0 c.args.frames.now c.loop-frame.rest.now c.in-Ok.more.now c.args.space.now c.loop-frame.space c.in-Ok.frame c.in-Err.fault c.error_by.result
    c.loop-frame.invariant c.in-Ok.ensures.found c.in-Err.ensures.fault c.error_by.ensures.refused
