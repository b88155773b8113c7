use Rattle.std.proofs.Common.{◌≡◌, length}
use Rattle.qh_buffers.specs.SendState.{segments_behind}
use Rattle.qh_buffers.proofs.send_buffer.segments.let_go.Given as goal

abbrev pub invariant-loop-segment : goal.invariant-loop-segment
invariant-loop-segment l = segments_behind l.offset l.segments.items ≡ segments_behind l.offset l.fn.segments.items

abbrev pub decreases-loop-segment : goal.decreases-loop-segment
decreases-loop-segment l = length l.segments.items
