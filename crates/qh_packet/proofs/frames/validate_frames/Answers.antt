use Rattle.std.proofs.Common.{◌≡◌, ◌||◌, ap, subst}
use Rattle.qh_frame.specs.Plain.{plain_of}
use Rattle.qh_frame.specs.declared.frame.FrameFault.{FrameFault}
use Rattle.qh_packet.specs.Frames.{IsFaultyFrame}
use Rattle.qh_packet.proofs.Surveys.{frame_takes, surveyed_more, surveyed_all, surveyed_fault, is_empty, is_some}
use Rattle.qh_packet.proofs.frames.validate_frames.Goals as goal

pub loop-rest-smaller : goal.loop-rest-smaller
loop-rest-smaller c = frame_takes c.loop-rest.rest.now c.in-Ok.more.now (plain_of c.in-Ok.frame) c.in-Ok.ensures.found

pub loop-rest-preserved : goal.loop-rest-preserved
loop-rest-preserved c =
    surveyed_more c.args.bytes.now c.loop-rest.rest.now c.in-Ok.more.now c.loop-rest.is_ack_eliciting _ (plain_of c.in-Ok.frame) c.loop-rest.invariant c.in-Ok.ensures.found
    (ap (λ x. c.loop-rest.is_ack_eliciting || x) c.is_eliciting-is_ack_eliciting.ensures)

pub returns-in-Err-clause-frame : goal.returns-in-Err-clause-frame
returns-in-Err-clause-frame c =
    let faulty : IsFaultyFrame c.args.bytes.now c.in-Err.fault.frame =
    surveyed_fault c.args.bytes.now c.loop-rest.rest.now c.loop-rest.is_ack_eliciting c.in-Err.fault.frame c.loop-rest.invariant c.in-Err.ensures.none (is_some c.loop-rest.rest.now c.loop-rest-test.ensures) c.in-Err.ensures.fault in
    λ f e.
    let same : c.in-Err.fault ≡ f = cc in
    subst (λ (x : FrameFault). IsFaultyFrame c.args.bytes.now x.frame) same faulty

pub returns-clause-ok : goal.returns-clause-ok
returns-clause-ok c =
    surveyed_all c.args.bytes.now c.loop-rest.rest.now c.loop-rest.is_ack_eliciting c.loop-rest.invariant (is_empty c.loop-rest.rest.now c.loop-rest-test.ensures)
    (is_some c.args.bytes.now c.if-is_empty.ensures)
