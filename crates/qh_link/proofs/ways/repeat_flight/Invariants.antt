use Rattle.std.proofs.Common.{◌≡◌}
use Rattle.qh_spec.specs.Schedule.{repeated}
use Rattle.qh_link.proofs.ways.repeat_flight.Given as goal

abbrev pub invariant-loop-copy : goal.invariant-loop-copy
invariant-loop-copy l = l.more.items ≡ repeated l._copy (record { round = l.round; datagram = l.datagram })
