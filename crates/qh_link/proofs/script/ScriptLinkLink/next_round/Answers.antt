use Rattle.std.proofs.Common.{[], ◌∷◌, arith}
use Rattle.qh_spec.specs.declared.link.Event.TheVariants.{Round}
use Rattle.qh_link.proofs.Kept.{kept_round, rounds_below}
use Rattle.qh_link.proofs.Events.{moments_of-append, no_later}
use Rattle.qh_link.proofs.script.ScriptLinkLink.next_round.Goals as goal

pub overflow_add-round : goal.overflow_add-round
overflow_add-round c =
    let v = c.self.inside.events in omega (arith, rounds_below c.self.invariant, v.ok.0, v.ok.1, v.small)

pub invariant_of-self-2 : goal.invariant_of-self-2
invariant_of-self-2 c =
    let e = rw c.unwrap.ensures at c.push.ensures.items in
    rw (e, c.try_reserve.ensures.items)
    (kept_round {v = c.begin.new.self} c.self.invariant c.moment_of-moment.result.0 c.moment_of-moment.ensures (λ s. rw c.deref.ensures.value at (c.in_ok-begin.ensures.ready s)) c.in_ok-begin.ensures.later)

pub returns-clause-moments : goal.returns-clause-moments
returns-clause-moments c =
    let e = rw c.unwrap.ensures at c.push.ensures.items in
    rw (e, c.try_reserve.ensures.items, ← c.self.view_is) (moments_of-append c.self.inside.events.items (Round c.moment_of-moment.result.0 ∷ []))

pub returns-clause-order : goal.returns-clause-order
returns-clause-order c =
    rw (← c.self.view_is, c.moment_of-moment.ensures, c.self.invariant.round_is) (no_later c.self.inside.step c.self.inside.schedule.items c.self.inside.events.items c.self.invariant.scheduled)
