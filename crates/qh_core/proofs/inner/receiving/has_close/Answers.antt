use Rattle.std.proofs.Common.{ap, ◌∙◌}
use Rattle.std.specs.Prelude.{◌||◌}
use Rattle.qh_core.proofs.CloseFrames.{read_all, read_fault, read_more, read_only}
use Rattle.qh_core.proofs.inner.receiving.has_close.Goals as goal
use Rattle.qh_frame.specs.Plain.{plain_of}
use Rattle.qh_packet.proofs.Surveys.{frame_takes, is_empty, is_some}

pub returns-in_default-clause-no : goal.returns-in_default-clause-no
returns-in_default-clause-no c = λ _ gs are all.
    absurd (read_fault c.args.frames.now c.loop-rest.rest.now c.loop-rest.has_close c.loop-rest.invariant (is_some c.loop-rest.rest.now c.loop-rest-test.ensures) c.in_default.ensures.none
    (record { frames = gs; are = are; in_range = all }))

pub loop-rest-smaller : goal.loop-rest-smaller
loop-rest-smaller c = frame_takes c.loop-rest.rest.now c.in-Ok.more.now (plain_of c.in-Ok.frame) c.in-Ok.ensures.found

pub loop-rest-preserved : goal.loop-rest-preserved
loop-rest-preserved c =
    read_more c.args.frames.now c.loop-rest.rest.now c.in-Ok.more.now c.loop-rest.has_close _ (plain_of c.in-Ok.frame) c.loop-rest.invariant c.in-Ok.ensures.found
    (ap (λ x. c.loop-rest.has_close || x) c.closes-has_close.ensures)

pub returns-clause-yes : goal.returns-clause-yes
returns-clause-yes c = λ e.
    let all = read_all c.args.frames.now c.loop-rest.rest.now c.loop-rest.has_close c.loop-rest.invariant (is_empty c.loop-rest.rest.now c.loop-rest-test.ensures) in
    (all.0, all.1, all.2, all.3 ∙ e)

pub returns-clause-no : goal.returns-clause-no
returns-clause-no c = λ e gs are _.
    read_only c.args.frames.now c.loop-rest.rest.now c.loop-rest.has_close gs c.loop-rest.invariant (is_empty c.loop-rest.rest.now c.loop-rest-test.ensures) are ∙ e
