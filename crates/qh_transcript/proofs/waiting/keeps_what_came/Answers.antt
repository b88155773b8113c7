use Rattle.std.proofs.Common.{ap, ◌∙◌}
use Rattle.qh_streams.specs.Streams.{PlainStreams, is_live, was_opened}
use Rattle.qh_streams.proofs.StreamsTracked.{recv_goes}
use Rattle.qh_transcript.proofs.ReceivingKept as kept
use Rattle.qh_transcript.proofs.ReceivingOpened.{opened_new}
use Rattle.qh_transcript.proofs.ReceivingSteps.{closed_opened}
use Rattle.qh_transcript.proofs.WaitingFrames as frame
use Rattle.qh_transcript.proofs.WaitingSteps as step
use Rattle.qh_transcript.proofs.waiting.keeps_what_came.Goals as goal

pub returns-clause-fresh : goal.returns-clause-fresh
returns-clause-fresh c = frame.fresh_keeps

pub returns-clause-begun : goal.returns-clause-begun
returns-clause-begun c = λ old new came id ordered half is. frame.half_keeps old new came (recv_goes half) (step.begun_holds ordered) (λ k. ap (λ (s : PlainStreams). was_opened s k) is)

pub returns-clause-read : goal.returns-clause-read
returns-clause-read c = λ old new came id max answer half is. frame.half_keeps old new came (recv_goes half) (step.read_holds max answer)
    (λ k. ap (λ (s : PlainStreams). was_opened s k) is ∙ closed_opened (record old { recv = new.recv }) id (is_live old id) k)

pub returns-clause-stopped : goal.returns-clause-stopped
returns-clause-stopped c = λ old new came id code half is. frame.half_keeps old new came (recv_goes half) (step.stopped_holds code)
    (λ k. ap (λ (s : PlainStreams). was_opened s k) is ∙ closed_opened (record old { recv = new.recv }) id (is_live old id) k)

pub returns-clause-told_reset : goal.returns-clause-told_reset
returns-clause-told_reset c = λ old new came id code half is. frame.half_keeps old new came (recv_goes half) (step.told_holds code)
    (λ k. ap (λ (s : PlainStreams). was_opened s k) is ∙ closed_opened (record old { recv = new.recv }) id (is_live old id) k)

pub returns-clause-written : goal.returns-clause-written
returns-clause-written c = λ room old new came fs bytes all. frame.kept_keeps old new came (kept.written room old new fs bytes all)

pub returns-clause-taken_back : goal.returns-clause-taken_back
returns-clause-taken_back c = λ old new came lost. frame.kept_keeps old new came (kept.taken_back old new lost)

pub returns-clause-again : goal.returns-clause-again
returns-clause-again c = λ old new came f lost. frame.kept_keeps old new came (kept.again old new f lost)

pub returns-clause-lost : goal.returns-clause-lost
returns-clause-lost c = λ old new came fs lost. frame.kept_keeps old new came (kept.all_lost old new fs lost)

pub returns-clause-acked : goal.returns-clause-acked
returns-clause-acked c = λ old new came fs acked. frame.kept_keeps old new came (kept.all_acked old new fs acked)

pub returns-clause-kept : goal.returns-clause-kept
returns-clause-kept c = frame.same_keeps

pub returns-clause-received : goal.returns-clause-received
returns-clause-received c = frame.received_keeps

pub returns-clause-opened : goal.returns-clause-opened
returns-clause-opened c = λ old new came id dir id_is p. frame.new_keeps old new _ came (opened_new old new id dir id_is p)
