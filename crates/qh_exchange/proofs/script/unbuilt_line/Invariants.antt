use Rattle.std.proofs.Common.{length}
use Rattle.qh_exchange.proofs.Unbuilt.{Seen}
use Rattle.qh_exchange.proofs.script.unbuilt_line.Given as goal

abbrev pub invariant-loop-rest : goal.invariant-loop-rest
invariant-loop-rest l = Seen l.fn.text l.rest l.number

abbrev pub decreases-loop-rest : goal.decreases-loop-rest
decreases-loop-rest l = length l.rest
