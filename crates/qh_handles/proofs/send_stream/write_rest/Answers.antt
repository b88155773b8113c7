use Rattle.qh_handles.proofs.ChainLaws.{IsWritten-part}
use Rattle.qh_handles.proofs.send_stream.write_rest.Goals as goal

pub loop-written-preserved : goal.loop-written-preserved
loop-written-preserved g c =
    let turn = rw c.in-Ready-Ok.field-0-is at c.in-Ready-Ok.ensures in
    (IsWritten-part g.A.At.acts c.args.id _ _ _ _ _ _ c.in-Ready-Ok.count c.loop-written.invariant.0 c.loop-written-test.true turn.counts.0 turn.value, λ fact h. turn.kept fact (c.loop-written.invariant.1 fact h))
