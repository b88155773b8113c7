use Rattle.std.proofs.Common.{◌≡◌, ◌++◌, map, take, drop}
use Rattle.qh_buffers.specs.SendState.{mark_between}
use Rattle.qh_buffers.proofs.send_buffer.pieces.mark_between.Given as goal

abbrev pub invariant-loop-place : goal.invariant-loop-place
invariant-loop-place l = l.pieces.items ≡ map (mark_between l.mark l.start l.end) (take l.place l.fn.pieces.items) ++ drop l.place l.fn.pieces.items
