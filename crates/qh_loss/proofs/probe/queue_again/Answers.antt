use Rattle.std.proofs.Common.{◌<◌, List, length, take, arith, sym, ◌∙◌, subst}
use Rattle.std.proofs.lemmas.List.{take_all}
use Rattle.qh_streams.specs.declared.frames.SentFrame.{SentFrame}
use Rattle.qh_loss.specs.Settled.{AreQueuedAgain, chosen, is_kind}
use Rattle.qh_loss.proofs.QueuedAgain.{none_queued_yet, one_more_queued, one_skipped, out_at, taken_more}
use Rattle.qh_loss.proofs.probe.queue_again.Goals as goal
use Rattle.qh_loss.proofs.probe.queue_again.Goals.{then-is_kind, else-is_kind}

pub loop-frame-init : goal.loop-frame-init
loop-frame-init c = none_queued_yet (is_kind c.args.stream) c.args.streams.now

pub again-is_owed-requires : goal.again-is_owed-requires
again-is_owed-requires c =
    let less : c.loop-frame.frame-index < length c.args.frames.now = omega arith in
    c.loop-frame.invariant.keeps_out c.frame-item.result (out_at c.args.streams.now c.args.frames.now c.loop-frame.frame-index c.frame-item.result c.requires less c.frame-item.is)

pub loop-frame-preserved : goal.loop-frame-preserved
loop-frame-preserved c =
    let less : c.loop-frame.frame-index < length c.args.frames.now = omega arith in
    let more = taken_more c.args.frames.now c.loop-frame.frame-index c.frame-item.result less c.frame-item.is in
    elim c.if-is_kind.branch [
      | then-is_kind w ↦
          let is = sym c.is_kind.ensures ∙ w.if-is_kind.true in
          let did = w.again-is_owed.ensures in
          rw (w.streams-is, w.is_owed-is, more) (one_more_queued (is_kind c.args.stream) c.args.streams.now c.loop-frame.streams w.again-is_owed.new.self (take c.loop-frame.frame-index c.args.frames.now)
          c.frame-item.result c.loop-frame.is_owed w.again-is_owed.result c.loop-frame.invariant is did.lost did.some did.none did.keeps_out)
      | else-is_kind w ↦
          let is = sym c.is_kind.ensures ∙ w.if-is_kind.false in
          rw (w.streams-is, w.is_owed-is, more) (one_skipped (is_kind c.args.stream) c.args.streams.now c.loop-frame.streams (take c.loop-frame.frame-index c.args.frames.now)
          c.frame-item.result c.loop-frame.is_owed c.loop-frame.invariant is)
    ]

pub returns-clause-queued : goal.returns-clause-queued
returns-clause-queued c = subst (λ (l : List SentFrame). AreQueuedAgain c.args.streams.now c.loop-frame.streams (chosen (is_kind c.args.stream) l) c.loop-frame.is_owed)
    (take_all c.loop-frame.frame-index c.args.frames.now c.loop-frame-test.false) c.loop-frame.invariant.queued

pub returns-clause-keeps_out : goal.returns-clause-keeps_out
returns-clause-keeps_out c = c.loop-frame.invariant.keeps_out
