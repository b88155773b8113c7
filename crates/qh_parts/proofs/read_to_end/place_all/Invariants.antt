use Rattle.std.proofs.Common.{◌≡◌, ◌+◌, get_or, take, EachIndex}
use Rattle.qh_parts.specs.ReadToEndBuffer.{byte_at}
use Rattle.qh_parts.proofs.read_to_end.place_all.Given as goal

abbrev pub invariant-loop-chunk : goal.invariant-loop-chunk
invariant-loop-chunk l = EachIndex l.bytes (λ i. get_or l.bytes i 0 ≡ byte_at (take l.chunk-index l.chunks) (l.start + i))
