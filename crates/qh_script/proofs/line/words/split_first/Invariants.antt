use Rattle.std.proofs.Common.{take}
use Rattle.qh_script.specs.Line.{HasNoSpace}
use Rattle.qh_script.proofs.line.words.split_first.Given as goal

abbrev pub invariant-loop-i : goal.invariant-loop-i
invariant-loop-i l = HasNoSpace (take l.i l.text)
