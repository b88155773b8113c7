use Rattle.std.proofs.Common.{ap}
use Rattle.std.specs.Prelude.{◌||◌}
use Rattle.qh_handshake.proofs.CloseFrames.{none_closes, one_closes, one_faulty, read_more}
use Rattle.qh_handshake.proofs.closing.have_close.Goals as goal
use Rattle.qh_frame.specs.Plain.{plain_of}
use Rattle.qh_packet.proofs.Surveys.{frame_takes, is_empty, is_some}

pub returns-in_default-clause-no : goal.returns-in_default-clause-no
returns-in_default-clause-no c = λ _ has.
    one_faulty c.args.frames.now c.loop-rest.rest.now c.loop-rest.has_close c.loop-rest.invariant (is_some c.loop-rest.rest.now c.loop-rest-test.ensures) c.in_default.ensures.none has

pub loop-rest-smaller : goal.loop-rest-smaller
loop-rest-smaller c = frame_takes c.loop-rest.rest.now c.in-Ok.more.now (plain_of c.in-Ok.frame) c.in-Ok.ensures.found

pub loop-rest-preserved : goal.loop-rest-preserved
loop-rest-preserved c =
    read_more c.args.frames.now c.loop-rest.rest.now c.in-Ok.more.now c.loop-rest.has_close _ (plain_of c.in-Ok.frame) c.loop-rest.invariant c.in-Ok.ensures.found
    (ap (λ x. c.loop-rest.has_close || x) c.closes-has_close.ensures)

pub returns-clause-yes : goal.returns-clause-yes
returns-clause-yes c = λ e. one_closes c.args.frames.now c.loop-rest.rest.now c.loop-rest.has_close c.loop-rest.invariant (is_empty c.loop-rest.rest.now c.loop-rest-test.ensures) e

pub returns-clause-no : goal.returns-clause-no
returns-clause-no c = λ e has. none_closes c.args.frames.now c.loop-rest.rest.now c.loop-rest.has_close c.loop-rest.invariant (is_empty c.loop-rest.rest.now c.loop-rest-test.ensures) e has
