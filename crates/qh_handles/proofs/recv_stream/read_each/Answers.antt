use Rattle.std.proofs.Common.{arith}
use Rattle.std.proofs.lemmas.List.{length-set}
use Rattle.qh_handles.proofs.ChainLaws.{IsPlaced-more}
use Rattle.qh_handles.proofs.recv_stream.read_each.Goals as goal

pub loop-count-preserved : goal.loop-count-preserved
loop-count-preserved g c =
    let turn = rw (c.in-Ready-Ok-Some.field-0-is, c.in-Ready-Ok-Some.field-0-0-is) at c.in-Ready-Ok-Some.ensures in (
      IsPlaced-more g.A.At.acts c.args.id _ _ _ _ _ c.in-Ready-Ok-Some.chunk _ c.loop-count.invariant.0 c.loop-count-test.true c.loop-count.auto.bufs turn.value,
      omega (arith, length-set c.loop-count.bufs c.loop-count.count c.in-Ready-Ok-Some.chunk.bytes, c.loop-count-test.true),
      λ fact h. turn.kept fact (c.loop-count.invariant.2 fact h),
    )
