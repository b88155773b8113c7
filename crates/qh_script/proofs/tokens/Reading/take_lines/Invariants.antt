use Rattle.std.proofs.Common.{length}
use Rattle.qh_spec.specs.TokenScript.{IsTaken}
use Rattle.qh_script.proofs.Reading.{Seen}
use Rattle.qh_script.proofs.tokens.Reading.take_lines.Given as goal

abbrev pub invariant-loop-rest : goal.invariant-loop-rest
invariant-loop-rest l = Seen IsTaken l.fn.text l.rest l.fn.self l.self l.count

abbrev pub decreases-loop-rest : goal.decreases-loop-rest
decreases-loop-rest l = length l.rest
