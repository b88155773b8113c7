use Rattle.std.proofs.Common.{Some, sym, subst}
use Rattle.qh_base.specs.declared.connection_error.ConnectionError.{ConnectionError}
use Rattle.qh_core.proofs.FrameSteps.{HasTaken, stops_at, taken_all, taken_closed, taken_more, taken_refused, wants}
use Rattle.qh_core.proofs.inner.receiving.take_frames.Goals as goal
use Rattle.qh_frame.specs.Plain.{plain_of}
use Rattle.qh_packet.proofs.Surveys.{frame_takes}

pub loop-frame-smaller : goal.loop-frame-smaller
loop-frame-smaller c = frame_takes c.loop-frame.rest.now c.in-Ok.more.now (plain_of c.in-Ok.frame) c.in-Ok.ensures.found

pub loop-frame-preserved : goal.loop-frame-preserved
loop-frame-preserved c =
    let step = rw c.in-Ok-None.field-0-is at c.in-Ok-None.ensures.ok in
    taken_more c.args.now.0 c.loop-frame.count c.args.frames.now c.loop-frame.rest.now c.in-Ok.more.now c.args.space.now c.loop-frame.space c.take_frame.new.self c.in-Ok.frame
    c.loop-frame.invariant c.in-Ok.ensures.found c.in-Ok-None.ensures.taken step c.take_frame.ensures.space

pub returns-in-Ok-Some-clause-ok : goal.returns-in-Ok-Some-clause-ok
returns-in-Ok-Some-clause-ok c =
    let step = rw c.in-Ok-Some.field-0-is at c.in-Ok-Some.ensures.ok in
    taken_closed c.args.now.0 c.loop-frame.count c.args.frames.now c.loop-frame.rest.now c.in-Ok.more.now c.args.space.now c.loop-frame.space c.take_frame.new.self c.in-Ok.frame c.in-Ok-Some.closed
    c.loop-frame.invariant c.in-Ok.ensures.found c.in-Ok-Some.ensures.taken step

pub returns-clause-ok : goal.returns-clause-ok
returns-clause-ok c = taken_all c.args.now.0 c.loop-frame.count c.args.frames.now c.loop-frame.rest.now c.args.space.now c.loop-frame.space c.loop-frame.invariant c.in_default.ensures.none

pub returns-in-Err-clause-ok : goal.returns-in-Err-clause-ok
returns-in-Err-clause-ok c =
    let named = c.in_ok-error_by-in-Err.ensures.ok in
    subst (λ (e : ConnectionError). HasTaken c.args.now.0 c.loop-frame.count c.args.frames.now c.args.space.now c.take_frame.new.self (Some e)) (sym named.2)
    (taken_refused c.args.now.0 c.loop-frame.count c.args.frames.now c.loop-frame.rest.now c.in-Ok.more.now c.args.space.now c.loop-frame.space c.take_frame.new.self c.in-Ok.frame c.in-Err.fault named.0
    c.loop-frame.invariant c.in-Ok.ensures.found c.in-Ok.ensures.kind c.in-Err.ensures.fault c.in-Err.ensures.err named.1)

pub returns-in_err-error_by-in-Err-clause-wanting : goal.returns-in_err-error_by-in-Err-clause-wanting
returns-in_err-error_by-in-Err-clause-wanting c =
    wants c.from_residual.result
    (stops_at c.args.now.0 c.loop-frame.count c.args.frames.now c.loop-frame.rest.now c.in-Ok.more.now c.args.space.now c.loop-frame.space c.in-Ok.frame c.in-Err.fault
    c.loop-frame.invariant c.in-Ok.ensures.found c.in-Err.ensures.fault c.in_err-error_by-in-Err.ensures.wanting)
