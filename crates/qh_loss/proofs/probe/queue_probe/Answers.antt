use Rattle.std.proofs.Common.{true, false}
use Rattle.qh_loss.specs.Settled.{chosen, is_kind}
use Rattle.qh_loss.proofs.FramesOut.{taken_apart}
use Rattle.qh_loss.proofs.QueuedAgain.{again_owed}
use Rattle.qh_loss.proofs.ProbeQueued.{walk_begins, walk_more, stream_found, no_packet, others_found, none_found}
use Rattle.qh_loss.proofs.probe.queue_probe.Goals as goal

pub loop-number-init : goal.loop-number-init
loop-number-init c = walk_begins c.args.streams.now c.args.sent.now c.is_rising.ensures c.requires.owed

pub queue_again-requires : goal.queue_again-requires
queue_again-requires c =
    rw c.deref.ensures.value ((taken_apart c.loop-number.streams c.args.sent.now c.in-Some.number c.in-Some.packet.now c.in-Some.ensures.is_out c.loop-number.invariant.owed).own)

pub returns-then-queue_again-clause-queued : goal.returns-then-queue_again-clause-queued
returns-then-queue_again-clause-queued c =
    stream_found c.args.streams.now c.loop-number.streams c.queue_again.new.streams c.args.sent.now c.loop-number.at c.in-Some.number c.in-Some.packet.now c.loop-number.invariant c.in-Some.ensures
    (rw (c.deref.ensures.value, c.if-queue_again.true) at c.queue_again.ensures.queued)

pub returns-then-queue_again-clause-owed : goal.returns-then-queue_again-clause-owed
returns-then-queue_again-clause-owed c =
    again_owed c.loop-number.streams c.queue_again.new.streams (chosen (is_kind true) c.deref.result.now) c.queue_again.result c.args.sent.now c.queue_again.ensures.queued c.queue_again.ensures.keeps_out
    c.loop-number.invariant.owed

pub loop-number-preserved : goal.loop-number-preserved
loop-number-preserved c =
    walk_more c.args.streams.now c.loop-number.streams c.queue_again.new.streams c.args.sent.now c.loop-number.at c.in-Some.number c.in-Some.packet.now c.loop-number.invariant c.in-Some.ensures
    (rw (c.deref.ensures.value, c.if-queue_again.false) at c.queue_again.ensures.queued) c.queue_again.ensures.keeps_out

pub returns-in_default-first-clause-queued : goal.returns-in_default-first-clause-queued
returns-in_default-first-clause-queued c = no_packet c.args.streams.now c.loop-number.streams c.args.sent.now c.loop-number.at c.loop-number.invariant c.in_default.ensures c.in_default-first.ensures

pub queue_again-requires-2 : goal.queue_again-requires-2
queue_again-requires-2 c =
    rw c.deref-2.ensures.value ((taken_apart c.loop-number.streams c.args.sent.now c.in-Some-first.field-0-0 c.in-Some-first.packet.now c.in-Some-first.ensures.is_out c.loop-number.invariant.owed).own)

pub returns-then-queue_again-2-clause-queued : goal.returns-then-queue_again-2-clause-queued
returns-then-queue_again-2-clause-queued c =
    others_found c.args.streams.now c.loop-number.streams c.args.sent.now c.loop-number.at c.loop-number.invariant c.in_default.ensures c.queue_again-2.new.streams
    c.in-Some-first.field-0-0 c.in-Some-first.packet.now c.is_rising.ensures c.in-Some-first.ensures (rw (c.deref-2.ensures.value, c.if-queue_again-2.true) at c.queue_again-2.ensures.queued)

pub returns-then-queue_again-2-clause-owed : goal.returns-then-queue_again-2-clause-owed
returns-then-queue_again-2-clause-owed c =
    again_owed c.loop-number.streams c.queue_again-2.new.streams (chosen (is_kind false) c.deref-2.result.now) c.queue_again-2.result c.args.sent.now c.queue_again-2.ensures.queued c.queue_again-2.ensures.keeps_out
    c.loop-number.invariant.owed

pub returns-clause-queued : goal.returns-clause-queued
returns-clause-queued c =
    none_found c.args.streams.now c.loop-number.streams c.args.sent.now c.loop-number.at c.loop-number.invariant c.in_default.ensures c.queue_again-2.new.streams
    c.in-Some-first.field-0-0 c.in-Some-first.packet.now c.is_rising.ensures c.in-Some-first.ensures (rw (c.deref-2.ensures.value, c.if-queue_again-2.false) at c.queue_again-2.ensures.queued)

pub returns-clause-owed : goal.returns-clause-owed
returns-clause-owed c =
    again_owed c.loop-number.streams c.queue_again-2.new.streams (chosen (is_kind false) c.deref-2.result.now) c.queue_again-2.result c.args.sent.now c.queue_again-2.ensures.queued c.queue_again-2.ensures.keeps_out
    c.loop-number.invariant.owed
