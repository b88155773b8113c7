use Rattle.std.proofs.Common.{◌∙◌, arith}
use Rattle.qh_buffers.proofs.ChunkRuns.{popped}
use Rattle.qh_buffers.proofs.assembler.queue.drop_front.Goals as goal

pub loop-first-preserved : goal.loop-first-preserved
loop-first-preserved c =
    let cs = c.loop-first.chunks.items in
    let left = c.loop-first.left in
    let first = c.in-Some.first.now in
    let pop = popped cs first left c.in-Some.ensures.lookup (omega (arith, c.len-count.ensures.value)) c.loop-first.invariant.0 in
    rw (c.pop_front.ensures.rest, c.len-count.ensures.value) (pop.0, pop.1 ∙ c.loop-first.invariant.1)
