use Rattle.std.proofs.Common.{◌≡◌, length}
use Rattle.qh_buffers.specs.SendState.{acked_to, unacked_pieces}
use Rattle.qh_buffers.proofs.send_buffer.pieces.let_go.Given as goal

abbrev pub invariant-loop-piece : goal.invariant-loop-piece
invariant-loop-piece l =
    (acked_to l.start l.pieces.items ≡ acked_to l.fn.start l.fn.pieces.items) × (unacked_pieces l.pieces.items ≡ unacked_pieces l.fn.pieces.items)

abbrev pub decreases-loop-piece : goal.decreases-loop-piece
decreases-loop-piece l = length l.pieces.items
