use Rattle.std.proofs.Common.{sym, ◌∙◌}
use Rattle.std.specs.BTreeSet.{contains}
use Rattle.std.specs.Ordering.{nat_cmp}
use Rattle.qh_hello.proofs.Walks.{seen_more, seen_twice, seen_before, seen_all}
use Rattle.qh_hello.proofs.walk.has_distinct_ids.Goals as goal

pub returns-in-Ok-false-clause-twice : goal.returns-in-Ok-false-clause-twice
returns-in-Ok-false-clause-twice c e h are =
    seen_twice c.loop-front.rest.now c.in-Some.front.rest.now c.in-Some.front.value.now c.in-Some.front.id (contains nat_cmp c.loop-front.seen) h.parameters c.in-Some.ensures.found
    (sym c.in-Ok-false.field-0-test ∙ c.in-Ok-false.ensures.added) (c.loop-front.invariant h.parameters are)

pub loop-front-preserved : goal.loop-front-preserved
loop-front-preserved c ps are =
    seen_more c.loop-front.rest.now c.in-Some.front.rest.now c.in-Some.front.value.now c.in-Some.front.id (contains nat_cmp c.loop-front.seen) (contains nat_cmp c.insert.new.self) ps c.in-Some.ensures.found
    c.in-Ok-true.ensures.updates.0 (sym c.in-Ok-true.field-0-test ∙ c.in-Ok-true.ensures.added) (c.loop-front.invariant ps are)

pub returns-clause-yes : goal.returns-clause-yes
returns-clause-yes c e h are = seen_all c.loop-front.rest.now (contains nat_cmp c.loop-front.seen) h.parameters c.in_default.ensures.none (c.loop-front.invariant h.parameters are)

pub returns-in-Err-clause-memory : goal.returns-in-Err-clause-memory
returns-in-Err-clause-memory c h are =
    seen_before c.loop-front.rest.now c.in-Some.front.rest.now c.in-Some.front.value.now c.in-Some.front.id (contains nat_cmp c.loop-front.seen) h.parameters c.in-Some.ensures.found (c.loop-front.invariant h.parameters are)
