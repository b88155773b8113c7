use Rattle.std.proofs.Common.{◌≡◌, ◌-◌, ◌<◌, ◌^◌}
use Rattle.qh_frame.specs.AckAt.{end_of}
use Rattle.qh_frame.specs.FieldsAt.{pairs_at}
use Rattle.qh_frame.proofs.ack.ranges.ranges_end.Given as goal

abbrev pub invariant-loop : goal.invariant-loop
invariant-loop l =
    (end_of l.fn.greatest l.fn.first (pairs_at l.fn.pairs l.fn.bytes) ≡ end_of l.greatest l.range (pairs_at (l.fn.pairs - l.counter) l.rest)) × (l.range < 2 ^ 62)
