use Rattle.std.proofs.Common.{◌-◌}
use Rattle.qh_buffers.specs.Assembler.{end_of, pieces, parts_of, AreGaps}
use Rattle.qh_buffers.proofs.ChunkParts.{AreMissingTo}
use Rattle.qh_buffers.proofs.assembler.map.missing.Given as goal

abbrev pub invariant-loop-at : goal.invariant-loop-at
invariant-loop-at l = record {
  gaps : AreGaps l.new.offset l.at l.gaps.items;
  parts : AreMissingTo l.given (pieces l.chunks.entries) l.new l.at (parts_of l.new l.gaps.items);
}

abbrev pub decreases-loop-at : goal.decreases-loop-at
decreases-loop-at l = end_of l.new - l.at
