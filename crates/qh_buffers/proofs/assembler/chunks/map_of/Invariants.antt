use Rattle.std.proofs.Common.{◌≡◌, take}
use Rattle.qh_buffers.proofs.QueuedChunks.{entries_of}
use Rattle.qh_buffers.proofs.assembler.chunks.map_of.Given as goal

abbrev pub invariant-loop-index : goal.invariant-loop-index
invariant-loop-index l = l.map.entries ≡ entries_of (take l.index l.queue.items)
