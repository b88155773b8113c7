use Rattle.std.proofs.Common.{◌≡◌}
use Rattle.std.specs.VecDeque.{deque_len}
use Rattle.qh_runtime.proofs.Dropping.{Dropped}
use Rattle.qh_runtime.proofs.queue.QueueSocket.next_message.Given as goal

-- those before the ones that are left were too long
abbrev pub invariant-loop-message : goal.invariant-loop-message
invariant-loop-message l = Dropped l.room l.initial.self-inside.arrived.items l.self-inside.arrived.items
    × (l.self-inside ≡ record l.initial.self-inside { arrived = l.self-inside.arrived })

abbrev pub decreases-loop-message : goal.decreases-loop-message
decreases-loop-message l = deque_len l.self-inside.arrived
