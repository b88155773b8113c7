use Rattle.std.proofs.Common.{◌≤◌}
use Rattle.qh_buffers.specs.SendState.{first_queued}
use Rattle.qh_buffers.proofs.send_buffer.pieces.next_queued.Given as goal

abbrev pub invariant-loop-place : goal.invariant-loop-place
invariant-loop-place l = l.place ≤ first_queued l.pieces.items
