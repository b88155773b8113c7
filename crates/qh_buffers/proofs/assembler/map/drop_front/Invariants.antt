use Rattle.std.proofs.Common.{◌≡◌, btree_map_len}
use Rattle.qh_buffers.specs.Assembler.{pieces, after_front, AreStored}
use Rattle.qh_buffers.proofs.assembler.map.drop_front.Given as goal

abbrev pub invariant-loop-end : goal.invariant-loop-end
invariant-loop-end l = record {
  stored : AreStored 0 l.chunks.entries;
  left : after_front l.left (pieces l.chunks.entries) ≡ after_front l.length (pieces l.fn.chunks.entries);
}

abbrev pub decreases-loop-end : goal.decreases-loop-end
decreases-loop-end l = btree_map_len l.chunks
