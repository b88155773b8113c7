use Rattle.std.proofs.Common.{◌≡◌, length}
use Rattle.qh_qpack.specs.SectionAt.{continued_from}
use Rattle.qh_qpack.proofs.prefix_int.continued.Given as goal

-- what is left to read gives what the whole gives
abbrev pub invariant-loop-rest : goal.invariant-loop-rest
invariant-loop-rest l = continued_from l.value l.weight l.rest ≡ continued_from 0 1 l.bytes

abbrev pub decreases-loop-rest : goal.decreases-loop-rest
decreases-loop-rest l = length l.rest
