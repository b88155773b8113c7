use Rattle.std.proofs.Common.{length}
use Rattle.qh_hello.proofs.Walks.{IsBehind}
use Rattle.qh_hello.proofs.walk.are_parameters.Given as goal

abbrev pub invariant-loop-front : goal.invariant-loop-front
invariant-loop-front l = IsBehind l.bytes l.rest

abbrev pub decreases-loop-front : goal.decreases-loop-front
decreases-loop-front l = length l.rest
