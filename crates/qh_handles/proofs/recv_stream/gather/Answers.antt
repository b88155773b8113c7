use Rattle.std.proofs.Common.{◌≡◌, ◌+◌, ◌∷◌, [], ap, ◌∙◌, length, arith, length-append}
use Rattle.qh_parts.specs.ReadToEndBuffer.{PlainBuffer}
use Rattle.qh_handles.proofs.ChainLaws.{IsGathered-more}
use Rattle.qh_handles.proofs.recv_stream.gather.Goals as goal

pub loop-preserved : goal.loop-preserved
loop-preserved g c =
    let turn = rw (c.in-Ready-Ok-Some.field-0-is, c.in-Ready-Ok-Some.field-0-0-is) at c.in-Ready-Ok-Some.ensures in
    let grown = c.in-Ok.ensures.ok in
    let longer : length c.keep.new.buffer.kept ≡ length c.loop.buffer.kept + 1 =
    ap (λ (b : PlainBuffer). length b.kept) grown ∙ length-append c.loop.buffer.kept (c.in-Ready-Ok-Some.chunk ∷ []) in (
      IsGathered-more g.A.At.acts c.args.id _ _ _ _ c.in-Ready-Ok-Some.chunk _ _ c.loop.invariant.0 turn.value c.in-Ok.ensures.fits grown,
      omega (arith, longer, c.loop.invariant.1),
      λ fact h. turn.kept fact (c.loop.invariant.2 fact h),
    )
