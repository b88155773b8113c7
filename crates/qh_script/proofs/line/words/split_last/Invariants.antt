use Rattle.std.proofs.Common.{◌≤◌, drop, length}
use Rattle.qh_script.specs.Line.{HasNoSpace}
use Rattle.qh_script.proofs.line.words.split_last.Given as goal

abbrev pub invariant-loop-at : goal.invariant-loop-at
invariant-loop-at l = record { within : l.at ≤ length l.text; none : HasNoSpace (drop l.at l.text) }

abbrev pub decreases-loop-at : goal.decreases-loop-at
decreases-loop-at l = l.at
