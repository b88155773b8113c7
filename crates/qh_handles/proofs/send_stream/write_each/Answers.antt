use Rattle.qh_handles.proofs.ChainLaws.{chunk_part, chunk_whole, chunk_kept, chunk_failed, empty_is, front_grown, front_kept, part_is, some_is, whole_is}
use Rattle.qh_handles.proofs.send_stream.write_each.Goals as goal

pub loop-done-preserved-then-is_empty : goal.loop-done-preserved-then-is_empty
loop-done-preserved-then-is_empty g c =
    let turn = rw c.in-Ready-Ok.field-0-is at c.in-Ready-Ok.ensures in
    let inv = c.loop-done.invariant in
    let empty = empty_is c.loop-done.bufs c.loop-done.done _ _ c.loop-done-test.true c.if-is_empty.ensures in (
      chunk_whole g.A.At.acts c.args.id _ _ _ _ c.loop-done.bufs c.loop-done.done _ _ _ inv.0 c.loop-done-test.true (whole_is _ _ _ turn.counts.0 turn.left empty) turn.value,
      λ fact h. turn.kept fact (inv.1 fact h),
      λ none. front_grown c.loop-done.bufs c.loop-done.done _ c.loop-done-test.true empty (inv.2 none),
    )

pub loop-done-preserved : goal.loop-done-preserved
loop-done-preserved g c =
    let turn = rw c.in-Ready-Ok.field-0-is at c.in-Ready-Ok.ensures in
    let inv = c.loop-done.invariant in
    let some = some_is c.loop-done.bufs c.loop-done.done _ _ c.loop-done-test.true c.if-is_empty.ensures in (
      chunk_part g.A.At.acts c.args.id _ _ _ _ c.loop-done.bufs c.loop-done.done _ _ _ inv.0 c.loop-done-test.true (part_is _ _ _ turn.left some) turn.value turn.left,
      λ fact h. turn.kept fact (inv.1 fact h),
      λ none. front_kept c.loop-done.bufs c.loop-done.done _ (inv.2 none),
    )

pub returns-in-Ready-Err-clause-value : goal.returns-in-Ready-Err-clause-value
returns-in-Ready-Err-clause-value g c =
    let turn = rw c.in-Ready-Err.field-0-is at c.in-Ready-Err.ensures in
    chunk_failed g.A.At.acts c.args.id g.A.At.stays c.in-Ready-Err.error _ _ _ _ c.loop-done.bufs c.loop-done.done _ _ c.loop-done.invariant.0 c.loop-done-test.true turn.value turn.left

pub returns-in-Pending-clause-value : goal.returns-in-Pending-clause-value
returns-in-Pending-clause-value g c =
    chunk_kept g.A.At.acts c.args.id _ _ _ _ c.loop-done.bufs c.loop-done.done _ _ _ c.loop-done.invariant.0 c.loop-done-test.true c.in-Pending.ensures.value c.in-Pending.ensures.left
