use Rattle.std.proofs.Common.{List, length}
use Rattle.std.specs.BTreeSet.{contains}
use Rattle.std.specs.Ordering.{nat_cmp}
use Rattle.qh_hello.proofs.Walks.{HasSeen}
use Rattle.qh_spec.specs.Hello.{Parameter, AreParameters}
use Rattle.qh_hello.proofs.walk.has_distinct_ids.Given as goal

abbrev pub invariant-loop-front : goal.invariant-loop-front
invariant-loop-front l = (ps : List Parameter) → AreParameters l.bytes ps → HasSeen l.rest (contains nat_cmp l.seen) ps

abbrev pub decreases-loop-front : goal.decreases-loop-front
decreases-loop-front l = length l.rest
