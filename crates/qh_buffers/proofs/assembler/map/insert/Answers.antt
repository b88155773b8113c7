use Rattle.std.proofs.Common.{arith}
use Rattle.qh_buffers.specs.Assembler.{pieces}
use Rattle.qh_buffers.proofs.ChunkMerge.{behind_exclusive}
use Rattle.qh_buffers.proofs.StoredPieces.{stored_order}
use Rattle.qh_buffers.proofs.assembler.map.insert.Goals as goal

pub put-requires-clause-exclusive : goal.put-requires-clause-exclusive
put-requires-clause-exclusive c =
    let es = c.args.chunks.now.entries in
    behind_exclusive (pieces es) c.args.new (stored_order es 0 c.requires.stored) (omega (arith, c.end_of_all.ensures, c.is_behind.ensures.end c.if-is_behind.true))
