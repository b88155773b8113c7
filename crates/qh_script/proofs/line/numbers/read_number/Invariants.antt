use Rattle.qh_script.proofs.Decimals.{IsReadTo}
use Rattle.qh_script.proofs.line.numbers.read_number.Given as goal

abbrev pub invariant-loop-digit : goal.invariant-loop-digit
invariant-loop-digit l = IsReadTo l.text l.digit-index l.number
