use Rattle.std.proofs.Common.{length}
use Rattle.qh_script.proofs.Hex.{IsHexTo}
use Rattle.qh_script.proofs.line.hex.read_hex.Given as goal

abbrev pub invariant-loop-rest : goal.invariant-loop-rest
invariant-loop-rest l = IsHexTo l.text l.rest l.bytes.items

abbrev pub decreases-loop-rest : goal.decreases-loop-rest
decreases-loop-rest l = length l.rest
