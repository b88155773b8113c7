use Rattle.qh_hello.proofs.Walks.{left_skips, left_found, left_none}
use Rattle.qh_hello.proofs.walk.value_of.Goals as goal

pub returns-then-front-id : goal.returns-then-front-id
returns-then-front-id c ps are =
    left_found c.loop-front.rest.now c.in-Some.front.rest.now c.in-Some.front.value.now c.args.id c.in-Some.front.id ps c.in-Some.ensures.found c.if-front-id.true (c.loop-front.invariant ps are)

pub loop-front-preserved : goal.loop-front-preserved
loop-front-preserved c ps are =
    left_skips c.loop-front.rest.now c.in-Some.front.rest.now c.in-Some.front.value.now c.args.id c.in-Some.front.id ps c.in-Some.ensures.found c.if-front-id.false (c.loop-front.invariant ps are)

pub returns : goal.returns
returns c ps are = left_none c.loop-front.rest.now c.args.id ps c.in_default.ensures.none (c.loop-front.invariant ps are)
