use Rattle.std.proofs.Common.{ap, ◌∙◌}
use Rattle.qh_streams.specs.Streams.{PlainStreams, is_live, was_opened}
use Rattle.qh_streams.proofs.StreamsTracked.{recv_goes}
use Rattle.qh_transcript.proofs.ReceivingLists as list
use Rattle.qh_transcript.proofs.ReceivingSteps as step
use Rattle.qh_transcript.proofs.ReceivingReads as reads
use Rattle.qh_transcript.proofs.ReceivingOpened as opening
use Rattle.qh_transcript.proofs.ReceivingFrames as frame
use Rattle.qh_transcript.proofs.ReceivingKept as kept
use Rattle.qh_transcript.proofs.receiving.gives_what_came.Goals as goal

pub returns-clause-more : goal.returns-clause-more
returns-clause-more c = list.more_stand

pub returns-clause-others : goal.returns-clause-others
returns-clause-others c = list.others_stand

pub returns-clause-received : goal.returns-clause-received
returns-clause-received c = frame.received_stand

pub returns-clause-begun : goal.returns-clause-begun
returns-clause-begun c = λ old new came t id ordered half is s. step.like_stand old new came t (recv_goes half) (step.begun_like came id ordered) (λ k. ap (λ (s : PlainStreams). was_opened s k) is) s

pub returns-clause-read : goal.returns-clause-read
returns-clause-read c = λ old new came t id max answer live half is s. reads.answer_stands old new came t id max answer live half (λ k. ap (λ (s : PlainStreams). was_opened s k) is ∙ step.closed_opened (record old { recv = new.recv }) id (is_live old id) k) s

pub returns-clause-in_order : goal.returns-clause-in_order
returns-clause-in_order c = reads.in_order_stands

pub returns-clause-stopped : goal.returns-clause-stopped
returns-clause-stopped c = λ old new came t id code half is s. list.others_stand new came t _ (list.stop_reads id code)
    (step.like_stand old new came t (recv_goes half) (step.stopped_like came id code) (λ k. ap (λ (s : PlainStreams). was_opened s k) is ∙ step.closed_opened (record old { recv = new.recv }) id (is_live old id) k) s)

pub returns-clause-told_reset : goal.returns-clause-told_reset
returns-clause-told_reset c = λ old new came t id code half is s. list.others_stand new came t _ (list.told_reads id code)
    (step.like_stand old new came t (recv_goes half) (step.told_like came id code) (λ k. ap (λ (s : PlainStreams). was_opened s k) is ∙ step.closed_opened (record old { recv = new.recv }) id (is_live old id) k) s)

pub returns-clause-opened : goal.returns-clause-opened
returns-clause-opened c = opening.opened_stand

pub returns-clause-written : goal.returns-clause-written
returns-clause-written c = λ room old new came t fs bytes all. frame.kept_stand old new came t (kept.written room old new fs bytes all)

pub returns-clause-taken_back : goal.returns-clause-taken_back
returns-clause-taken_back c = λ old new came t lost. frame.kept_stand old new came t (kept.taken_back old new lost)

pub returns-clause-again : goal.returns-clause-again
returns-clause-again c = λ old new came t f lost. frame.kept_stand old new came t (kept.again old new f lost)

pub returns-clause-lost : goal.returns-clause-lost
returns-clause-lost c = λ old new came t fs lost. frame.kept_stand old new came t (kept.all_lost old new fs lost)

pub returns-clause-acked : goal.returns-clause-acked
returns-clause-acked c = λ old new came t fs acked. frame.kept_stand old new came t (kept.all_acked old new fs acked)

pub returns-clause-kept : goal.returns-clause-kept
returns-clause-kept c = step.same_stand
