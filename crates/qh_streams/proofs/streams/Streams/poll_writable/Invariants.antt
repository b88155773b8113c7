use Rattle.std.proofs.Common.{length, deque_capacity}
use Rattle.qh_streams.proofs.StreamsPolled.{IsPolling}
use Rattle.qh_streams.proofs.streams.Streams.poll_writable.Given as goal

abbrev pub invariant-loop-id : goal.invariant-loop-id
invariant-loop-id l =
    let s = l.self-inside in
    IsPolling l.fn.self (record { side = s.side; send = s.send; recv = s.recv; bi = s.bi; uni = s.uni; peer = s.peer; blocked = s.connection_blocked.keys; events = s.events.items }) (deque_capacity s.events)

abbrev pub decreases-loop-id : goal.decreases-loop-id
decreases-loop-id l = length l.self-inside.connection_blocked.keys
