use Rattle.std.proofs.Common.{◌≡◌, ◌≤◌, ◌-◌, ◌++◌, length, take, drop}
use Rattle.std.specs.List.{concat}
use Rattle.qh_half.proofs.send.chunks.copied.Given as goal

abbrev pub invariant-loop-chunk : goal.invariant-loop-chunk
invariant-loop-chunk l =
    (length l.bytes.items ≤ l.count) × (l.bytes.items ++ take (l.count - length l.bytes.items) (concat (drop l.chunk-index l.chunks)) ≡ take l.count (concat l.chunks))
