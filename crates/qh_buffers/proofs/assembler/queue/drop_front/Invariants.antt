use Rattle.std.proofs.Common.{◌≡◌}
use Rattle.std.specs.VecDeque.{deque_len}
use Rattle.qh_buffers.specs.Assembler.{after_front, AreInOrder}
use Rattle.qh_buffers.proofs.assembler.queue.drop_front.Given as goal

abbrev pub invariant-loop-first : goal.invariant-loop-first
invariant-loop-first l =
    AreInOrder 0 l.chunks.items × (after_front l.left l.chunks.items ≡ after_front l.length l.fn.chunks.items)

abbrev pub decreases-loop-first : goal.decreases-loop-first
decreases-loop-first l = deque_len l.chunks
