use Rattle.qh_handles.proofs.ChainLaws.{IsFilled-part}
use Rattle.qh_handles.proofs.recv_stream.fill.Goals as goal

pub loop-filled-preserved : goal.loop-filled-preserved
loop-filled-preserved g c =
    let turn = rw (c.in-Ready-Ok-Some.field-0-is, c.in-Ready-Ok-Some.field-0-0-is) at c.in-Ready-Ok-Some.ensures in (
      IsFilled-part g.A.At.acts c.args.id _ _ _ _ _ _ _ c.in-Ready-Ok-Some.count _ c.loop-filled.invariant.0 c.loop-filled.auto.buf c.loop-filled-test.true turn.value,
      λ fact h. turn.kept fact (c.loop-filled.invariant.1 fact h),
    )
