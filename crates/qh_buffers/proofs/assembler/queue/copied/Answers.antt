use Rattle.std.proofs.Common.{◌≡◌, ◌∙◌, [], take, ap, arith, length-append}
use Rattle.std.proofs.lemmas.List.{get_or_read}
use Rattle.qh_buffers.specs.declared.assembler.Chunk.{Chunk}
use Rattle.qh_buffers.specs.Assembler.{chunk_at, all_bytes}
use Rattle.qh_buffers.proofs.ChunkRuns.{copy_more}
use Rattle.qh_buffers.proofs.assembler.queue.copied.Goals as goal

pub loop-index-preserved : goal.loop-index-preserved
loop-index-preserved c =
    let cs = c.args.chunks.now.items in
    let i = c.loop-index.index in
    let old = c.loop-index.bytes.items in
    let next = c.as_slice-chunk.result.now in
    let read : c.index.result.now ≡ chunk_at cs i = get_or_read cs i _ (omega arith) c.index.ensures (record { offset = 0; bytes = [] }) in
    let same = c.as_slice-chunk.ensures ∙ ap (λ (p : Chunk). p.bytes) read in
    let size = length-append old next in (
      rw c.in_ok-extend_from_slice-2.ensures.items (omega arith),
      rw (c.in_ok-extend_from_slice-2.ensures.items, length-append old next)
          (copy_more cs i c.args.length old next (take c.args.length (all_bytes cs)) (omega arith) same c.loop-index.invariant.0 (omega arith) c.loop-index.invariant.1),
    )
