use Rattle.std.proofs.Common.{◌≡◌, [], arith}
use Rattle.std.proofs.lemmas.List.{get_or_read}
use Rattle.qh_buffers.specs.Assembler.{chunk_at}
use Rattle.qh_buffers.proofs.ChunkLaws.{order_at}
use Rattle.qh_buffers.proofs.assembler.queue.run.Goals as goal

pub end-at-requires : goal.end-at-requires
end-at-requires c =
    let cs = c.args.chunks.now.items in
    let i = c.loop-index.index in
    let read : c.index-chunk.result.now ≡ chunk_at cs i = get_or_read cs i _ (omega arith) c.index-chunk.ensures (record { offset = 0; bytes = [] }) in
    rw read (order_at cs i 0 c.requires (omega arith)).2
