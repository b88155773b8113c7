use Rattle.std.proofs.Common.{◌≡◌, ◌<◌, ◌^◌, ◌++◌, drop}
use Rattle.qh_frame.specs.AckWritten.{AreBelow, gaps}
use Rattle.qh_frame.specs.FrameBytes.{HasGrown, numbers_bytes}
use Rattle.qh_frame.proofs.written_ack.put_gaps.Given as goal

abbrev pub invariant-loop-range : goal.invariant-loop-range
invariant-loop-range l =
    (l.out.items ++ numbers_bytes (gaps l.above (drop l.range-index l.ranges)) ≡ l.initial.out.items ++ numbers_bytes (gaps l.fn.above l.ranges))
    × AreBelow l.above (drop l.range-index l.ranges) × (l.above < 2 ^ 62) × HasGrown l.initial.out.items l.out.items
