use Rattle.std.proofs.Common.{◌≡◌, ◌≤◌}
use Rattle.std.specs.VecDeque.{deque_len, deque_capacity}
use Rattle.qh_datagrams.specs.Datagrams.{bytes_of, with_room}
use Rattle.qh_datagrams.proofs.datagrams.payloads.make_room.Given as goal

abbrev pub invariant-loop-waiting : goal.invariant-loop-waiting
invariant-loop-waiting l = record {
  items : with_room l.len l.room l.waiting.items ≡ with_room l.len l.room l.fn.waiting.items;
  left : l.left ≡ bytes_of l.waiting.items;
  len : deque_len l.waiting ≤ deque_len l.fn.waiting;
  capacity : deque_capacity l.waiting ≡ deque_capacity l.fn.waiting;
}

abbrev pub decreases-loop-waiting : goal.decreases-loop-waiting
decreases-loop-waiting l = deque_len l.waiting
