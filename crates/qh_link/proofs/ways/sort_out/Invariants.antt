use Rattle.std.proofs.Common.{◌≡◌, ◌+◌, ◌≤◌, ◌++◌, drop, take}
use Rattle.std.specs.VecDeque.{deque_len, deque_capacity}
use Rattle.qh_link.specs.Ways.{arriving, remaining}
use Rattle.qh_link.proofs.ways.sort_out.Given as goal

abbrev pub invariant-loop-flight : goal.invariant-loop-flight
invariant-loop-flight l =
    record {
      ready : l.ready.items ≡ l.initial.ready.items ++ arriving l.round (take l._flight l.initial.later.items);
      later : l.later.items ≡ drop l._flight l.initial.later.items ++ remaining l.round (take l._flight l.initial.later.items);
      capacity : deque_capacity l.ready ≡ deque_capacity l.initial.ready;
      len : deque_len l.ready ≤ deque_len l.initial.ready + l._flight;
      later_capacity : deque_capacity l.later ≡ deque_capacity l.initial.later;
    }
