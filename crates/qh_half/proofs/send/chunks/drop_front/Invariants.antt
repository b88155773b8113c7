use Rattle.std.proofs.Common.{◌≡◌, ◌+◌, ◌++◌, length, take, drop}
use Rattle.qh_half.specs.Send.{chunks_after, whole_chunks}
use Rattle.qh_half.proofs.send.chunks.drop_front.Given as goal

abbrev pub invariant-loop-place : goal.invariant-loop-place
invariant-loop-place l = record {
  same : length l.chunks ≡ length l.fn.chunks;
  rest : take l.place l.chunks ++ chunks_after l.left (drop l.place l.chunks) ≡ chunks_after l.count l.fn.chunks;
  whole : whole_chunks l.left (drop l.place l.chunks) + l.place ≡ whole_chunks l.count l.fn.chunks;
}
