use Rattle.std.proofs.Common.{sym}
use Rattle.qh_buffers.proofs.StoredPieces.{last_end}
use Rattle.qh_buffers.proofs.assembler.map.end_of_all.Goals as goal

pub returns-in-Some : goal.returns-in-Some
returns-in-Some c =
    let e = c.in-Some in
    sym (last_end c.args.chunks.now.entries 0 0 (e.end.now, e.field-0-1.now) c.requires e.ensures.last)
