use Rattle.std.proofs.Common.{◌≡◌, ℕ, List, [], nat_cmp, take, get_or, ap, ◌∙◌, arith}
use Rattle.std.specs.BTreeMap.{insert_entry}
use Rattle.std.proofs.lemmas.List.{get_or_read, take_all}
use Rattle.qh_buffers.specs.declared.assembler.Chunk.{Chunk}
use Rattle.qh_buffers.specs.Assembler.{chunk_at, pieces, end_of}
use Rattle.qh_buffers.proofs.ChunkLaws.{order_at}
use Rattle.qh_buffers.proofs.StoredPieces.{Entry, put}
use Rattle.qh_buffers.proofs.QueuedChunks.{entries_of, entries_stored, entries_pieces, put_next}
use Rattle.qh_buffers.proofs.assembler.chunks.map_of.Goals as goal

pub end-requires : goal.end-requires
end-requires c =
    let cs = c.args.queue.now.items in
    let i = c.loop-index.index in
    let read : c.index-chunk.result.now ≡ chunk_at cs i = get_or_read cs i _ (omega arith) c.index-chunk.ensures (record { offset = 0; bytes = [] }) in
    rw read (order_at cs i 0 c.requires (omega arith)).2

pub loop-index-preserved : goal.loop-index-preserved
loop-index-preserved c =
    let cs = c.args.queue.now.items in
    let i = c.loop-index.index in
    let d : Chunk = record { offset = 0; bytes = [] } in
    let piece = c.index-chunk.result.now in
    let read : piece ≡ get_or cs i d = get_or_read cs i _ (omega arith) c.index-chunk.ensures d in
    let es = c.loop-index.map.entries in
    c.in_ok-insert.ensures.entries
    ∙ ap (λ (k : ℕ). insert_entry nat_cmp es k c.in_ok-bytes.bytes) c.end.ensures
    ∙ ap (λ (b : List ℕ). insert_entry nat_cmp es (end_of piece) b) c.in_ok-bytes.ensures.cases
    ∙ ap (λ (l : List Entry). put l piece) c.loop-index.invariant
    ∙ ap (λ (p : Chunk). put (entries_of (take i cs)) p) read
    ∙ put_next cs i d (omega arith) c.requires

pub returns-clause-stored : goal.returns-clause-stored
returns-clause-stored c =
    let cs = c.args.queue.now.items in
    let i = c.loop-index.index in
    let all : take i cs ≡ cs = take_all i cs (omega arith) in
    rw (c.loop-index.invariant, all) (entries_stored cs 0 c.requires)

pub returns-clause-ok : goal.returns-clause-ok
returns-clause-ok c =
    let cs = c.args.queue.now.items in
    let i = c.loop-index.index in
    ap (λ (l : List Entry). pieces l) c.loop-index.invariant ∙ ap (λ (l : List Chunk). pieces (entries_of l)) (take_all i cs (omega arith)) ∙ entries_pieces cs
