use Rattle.std.proofs.Common.{ℕ, List, length}
use Rattle.qh_script.proofs.Hex.{IsHexTo}
use Rattle.qh_script.proofs.line.hex.is_hex.Given as goal

abbrev pub invariant-loop-rest : goal.invariant-loop-rest
invariant-loop-rest l = (bytes : List ℕ) × IsHexTo l.text l.rest bytes

abbrev pub decreases-loop-rest : goal.decreases-loop-rest
decreases-loop-rest l = length l.rest
