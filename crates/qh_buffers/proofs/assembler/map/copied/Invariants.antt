use Rattle.std.proofs.Common.{◌≡◌, ◌≤◌, ◌-◌, ◌++◌, length, take}
use Rattle.qh_buffers.specs.Assembler.{pieces, all_bytes}
use Rattle.qh_buffers.proofs.assembler.map.copied.Given as goal

abbrev pub invariant-loop-piece : goal.invariant-loop-piece
invariant-loop-piece l = record {
  few : length l.bytes.items ≤ l.length;
  so_far : l.bytes.items ++ take (l.length - length l.bytes.items) (all_bytes (pieces l.piece-iterator)) ≡ take l.length (all_bytes (pieces l.chunks.entries));
}
