use Rattle.qh_buffers.proofs.StoredPieces.{stored_sorted}
use Rattle.qh_buffers.proofs.assembler.map.put_part.Goals as goal

pub returns-in_err-bytes-clause-ordered : goal.returns-in_err-bytes-clause-ordered
returns-in_err-bytes-clause-ordered c = stored_sorted c.args.chunks.now.entries 0 c.requires.stored
