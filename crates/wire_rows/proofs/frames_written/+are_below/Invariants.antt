use Rattle.std.proofs.Common.{length}
use Rattle.wire_rows.proofs.frames_written.+are_below.Given as goal

-- the list of the ranges gets shorter
abbrev pub decreases-are_below : goal.decreases-are_below
decreases-are_below l = length l.ranges.now
