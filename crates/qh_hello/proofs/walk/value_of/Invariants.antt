use Rattle.std.proofs.Common.{List, length}
use Rattle.qh_hello.proofs.Walks.{HasLeft}
use Rattle.qh_spec.specs.Hello.{Parameter, AreParameters}
use Rattle.qh_hello.proofs.walk.value_of.Given as goal

abbrev pub invariant-loop-front : goal.invariant-loop-front
invariant-loop-front l = (ps : List Parameter) → AreParameters l.bytes ps → HasLeft l.rest l.id ps

abbrev pub decreases-loop-front : goal.decreases-loop-front
decreases-loop-front l = length l.rest
