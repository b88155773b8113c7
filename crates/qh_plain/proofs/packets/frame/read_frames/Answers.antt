use Rattle.qh_plain.proofs.FrameReads.{one_frame_more, frames_found, no_frames, frame_shorter, some_of, none_of}
use Rattle.qh_plain.proofs.packets.frame.read_frames.Goals as goal

pub returns-in_default-clause-none : goal.returns-in_default-clause-none
returns-in_default-clause-none c =
    no_frames c.args.bytes.now c.loop-rest.rest.now c.loop-rest.frames.items (some_of c.loop-rest.rest.now c.loop-rest-test.ensures) c.loop-rest.invariant (rw c.in_default.is at c.in_ok-frame.ensures.none)

pub loop-rest-smaller : goal.loop-rest-smaller
loop-rest-smaller c = frame_shorter c.loop-rest.rest.now c.in-Some.frame c.in-Some.after.now (rw c.in-Some.is at c.in_ok-frame.ensures.found)

pub loop-rest-preserved : goal.loop-rest-preserved
loop-rest-preserved c =
    rw c.in_ok-push.ensures.items (one_frame_more c.args.bytes.now c.loop-rest.rest.now c.in-Some.after.now c.in-Some.frame c.loop-rest.frames.items (some_of c.loop-rest.rest.now c.loop-rest-test.ensures) (rw c.in-Some.is at c.in_ok-frame.ensures.found) c.loop-rest.invariant)

pub returns-clause-found : goal.returns-clause-found
returns-clause-found c = frames_found c.args.bytes.now c.loop-rest.rest.now c.loop-rest.frames.items (none_of c.loop-rest.rest.now c.loop-rest-test.ensures) c.loop-rest.invariant
