use Rattle.std.proofs.Common.{◌≡◌, ℕ, false, take, drop, nat_cmp}
use Rattle.std.specs.BTreeMap.{get, IsOrdered}
use Rattle.qh_buffers.specs.Assembler.{pieces, parts_of, is_end, AreStored}
use Rattle.qh_buffers.proofs.ChunkMerge.{AreMergedTo}
use Rattle.qh_buffers.proofs.assembler.map.fill.Given as goal

abbrev pub invariant-loop-index : goal.invariant-loop-index
invariant-loop-index l = record {
  stored : AreStored 0 l.chunks.entries;
  ordered : IsOrdered nat_cmp l.chunks;
  merged : AreMergedTo (pieces l.fn.chunks.entries) (parts_of l.new l.gaps) (pieces l.chunks.entries) (parts_of l.new (drop l.index l.gaps));
  others : (k : ℕ) → is_end (take l.index l.gaps) k ≡ false → get nat_cmp l.chunks k ≡ get nat_cmp l.fn.chunks k;
}
