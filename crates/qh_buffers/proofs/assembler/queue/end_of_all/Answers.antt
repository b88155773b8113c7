use Rattle.std.proofs.Common.{refl, ◌∙◌, arith}
use Rattle.qh_buffers.proofs.QueuedChunks.{last_is}
use Rattle.qh_buffers.proofs.assembler.queue.end_of_all.Goals as goal

pub end-requires : goal.end-requires
end-requires c =
    let chunks = c.args.chunks.now in
    (last_is chunks.items chunks.len c.in-Some.last.now chunks.ok.0 (omega (arith, chunks.ok.0, c.in-Some.ensures.variant.0 refl)) c.in-Some.ensures.lookup c.requires).0

pub returns-in-Some : goal.returns-in-Some
returns-in-Some c =
    let chunks = c.args.chunks.now in
    c.end.ensures ∙ (last_is chunks.items chunks.len c.in-Some.last.now chunks.ok.0 (omega (arith, chunks.ok.0, c.in-Some.ensures.variant.0 refl)) c.in-Some.ensures.lookup c.requires).1
