use Rattle.std.proofs.Common.{◌+◌, unwrap_or, sym, ap, ◌∙◌, arith}
use Rattle.qh_parts.specs.ReadToEndBuffer.{byte_of}
use Rattle.qh_parts.proofs.Chunks.{byte_at-none, byte_at-more}
use Rattle.qh_parts.proofs.read_to_end.place_all.Goals as goal

pub loop-chunk-init : goal.loop-chunk-init
loop-chunk-init c = λ i h. c.requires.zero i h ∙ sym (byte_at-none (c.args.start + i))

pub loop-chunk-preserved : goal.loop-chunk-preserved
loop-chunk-preserved c = λ i h.
    c.place.ensures i h
    ∙ ap (unwrap_or (byte_of c.chunk-item.result (c.args.start + i))) (c.loop-chunk.invariant i (omega arith))
    ∙ sym (byte_at-more c.args.chunks.now c.loop-chunk.chunk-index c.chunk-item.result (c.args.start + i) c.loop-chunk-test.true c.chunk-item.is)
