use Rattle.std.proofs.Common.{arith, inr}
use Rattle.std.proofs.lemmas.List.{length-set}
use Rattle.qh_book.specs.declared.reply.Reply.TheVariants as reply
use Rattle.qh_handles.proofs.ChainLaws.{all_taken, chunk_whole, counted_whole, front_grown, partly_written, partly_failed, partly_kept, not_none, whole_is}
use Rattle.qh_handles.proofs.send_stream.write_some.Goals as goal

pub returns-then-count-size-clause-value : goal.returns-then-count-size-clause-value
returns-then-count-size-clause-value g c =
    let turn = rw c.in-Ready-Ok.field-0-is at c.in-Ready-Ok.ensures in
    let inv = c.loop-chunks.invariant in
    partly_written g.A.At.acts g.A.At.stays c.args.id _ _ _ _ c.loop-chunks.bufs c.loop-chunks.chunks _ c.loop-chunks.bytes _ _ inv.0 inv.1 inv.2 c.loop-chunks-test.true
    (omega (arith, c.if-count-size.true, c.len-size.ensures.value)) turn.value turn.left

pub loop-chunks-preserved : goal.loop-chunks-preserved
loop-chunks-preserved g c =
    let turn = rw c.in-Ready-Ok.field-0-is at c.in-Ready-Ok.ensures in
    let inv = c.loop-chunks.invariant in
    let empty = all_taken _ _ _ _ turn.left c.len-size.ensures.value c.if-count-size.false in (
      chunk_whole g.A.At.acts c.args.id _ _ _ _ c.loop-chunks.bufs c.loop-chunks.chunks _ _ _ inv.0 c.loop-chunks-test.true (whole_is _ _ _ turn.counts.0 turn.left empty) turn.value,
      front_grown c.loop-chunks.bufs c.loop-chunks.chunks _ c.loop-chunks-test.true empty inv.1,
      counted_whole _ c.loop-chunks.bytes _ c.loop-chunks.bufs c.loop-chunks.chunks _ _ inv.2 c.loop-chunks-test.true turn.counts.0 turn.left empty,
      (λ never. absurd (not_none c.loop-chunks.chunks never)),
      omega (arith, length-set c.loop-chunks.bufs c.loop-chunks.chunks c.write_front.new.chunk, c.loop-chunks-test.true),
      λ fact h. turn.kept fact (inv.5 fact h),
    )

pub returns-then-chunks-gt0-clause-value : goal.returns-then-chunks-gt0-clause-value
returns-then-chunks-gt0-clause-value g c =
    let turn = rw c.in-Ready-Err.field-0-is at c.in-Ready-Err.ensures in
    let inv = c.loop-chunks.invariant in
    partly_failed g.A.At.acts g.A.At.stays c.args.id _ _ _ _ c.loop-chunks.bufs c.loop-chunks.chunks c.loop-chunks.bytes _ _ c.in-Ready-Err.error inv.0 inv.1 inv.2 c.loop-chunks-test.true
    c.if-chunks-gt0.true turn.value turn.left

pub returns-in-Pending-2-clause-value : goal.returns-in-Pending-2-clause-value
returns-in-Pending-2-clause-value g c =
    let inv = c.loop-chunks.invariant in
    partly_kept g.A.At.acts g.A.At.stays c.args.id _ _ _ _ c.loop-chunks.bufs c.loop-chunks.chunks c.loop-chunks.bytes _ _ inv.0 inv.1 inv.2 c.loop-chunks-test.true
    (omega (arith, c.if-chunks-eq0.false)) (inr (reply.Pending, c.in-Pending.ensures.value, tt)) c.in-Pending.ensures.left
