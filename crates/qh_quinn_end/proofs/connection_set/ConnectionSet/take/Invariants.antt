use Rattle.std.proofs.Common.{◌≡◌}
use Rattle.std.specs.VecDeque.{deque_len}
use Rattle.qh_quinn_end.specs.Sets.{AreNumbered, events_of}
use Rattle.qh_quinn_end.proofs.connection_set.ConnectionSet.take.Given as goal

-- those that were passed over are seen by nobody
abbrev pub invariant-loop-told : goal.invariant-loop-told
invariant-loop-told l = record {
  seen : events_of l.initial.self-inside.numbers.items l.self-inside.events.items ≡ events_of l.initial.self-inside.numbers.items l.initial.self-inside.events.items;
  rest : l.self-inside ≡ record l.initial.self-inside { events = l.self-inside.events };
  numbered : AreNumbered l.self-inside.count l.self-inside.numbers.items l.self-inside.events.items;
}

abbrev pub decreases-loop-told : goal.decreases-loop-told
decreases-loop-told l = deque_len l.self-inside.events
