use Rattle.std.proofs.Common.{◌≡◌, ◌≤◌, ◌-◌, ◌++◌, length, take, drop}
use Rattle.qh_buffers.specs.Assembler.{all_bytes}
use Rattle.qh_buffers.proofs.assembler.queue.copied.Given as goal

abbrev pub invariant-loop-index : goal.invariant-loop-index
invariant-loop-index l =
    (length l.bytes.items ≤ l.length) × (l.bytes.items ++ take (l.length - length l.bytes.items) (all_bytes (drop l.index l.chunks.items)) ≡ take l.length (all_bytes l.chunks.items))
