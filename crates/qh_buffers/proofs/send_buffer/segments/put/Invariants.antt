use Rattle.std.proofs.Common.{◌≡◌, ℕ, ◌+◌, ◌-◌, ◌≤◌, ◌++◌, take, drop, vec_len, vec_capacity}
use Rattle.qh_buffers.specs.SendState.{Joined, held, segments_behind}
use Rattle.qh_buffers.proofs.send_buffer.segments.put.Given as goal

abbrev pub invariant-loop-at : goal.invariant-loop-at
invariant-loop-at l = record {
  joined : (to : ℕ) × Joined l.at (drop l.place l.segments.items) to × (l.end ≤ to);
  copied : l.out.items ++ take (l.end - l.at) (held l.at (drop l.place l.segments.items)) ≡ l.fn.out.items ++ take (l.end - l.fn.start) (held l.fn.start (segments_behind l.fn.start l.segments.items));
  room : vec_len l.out + (l.end - l.at) ≤ vec_capacity l.out;
}

abbrev pub decreases-loop-at : goal.decreases-loop-at
decreases-loop-at l = l.end - l.at
