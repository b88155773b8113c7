use Rattle.qh_recovery.specs.Accepted.{IsWindow}
use Rattle.qh_recovery.proofs.LastRanges.{joined_last, few_last}
use Rattle.qh_recovery.proofs.Window.{window_more, remembers_kept}
use Rattle.qh_recovery.proofs.spaces.received.insert_received.Goals as goal

window : (c : goal.After-acks-1) → IsWindow c.forget_below.new.ranges
window c =
    rw (c.forget_below.ensures, c.window_start.ensures, c.max-next.ensures)
    (window_more c.dedup.inside.received c.insert_both.new.other c.args.number c.next_of.result c.dedup.invariant c.requires c.is_apart.ensures c.next_of.ensures.next c.in_ok-insert_both.ensures.other_ok)

pub invariant_of-dedup-2 : goal.invariant_of-dedup-2
invariant_of-dedup-2 c = window c

pub invariant_of-acks-2 : goal.invariant_of-acks-2
invariant_of-acks-2 c =
    rw c.forget_least.ensures
    (few_last c.acks.inside.ranges c.insert_both.new.self c.args.number c.is_apart-2.ensures c.acks.invariant c.requires c.in_ok-insert_both.ensures.ok)

pub returns-clause-remembers : goal.returns-clause-remembers
returns-clause-remembers c =
    rw (← c.dedup.view_is, c.forget_below.ensures, c.window_start.ensures, c.max-next.ensures) (λ accepted memory.
    remembers_kept accepted c.dedup.inside.received c.insert_both.new.other c.args.number c.next_of.result memory c.next_of.ensures.next c.in_ok-insert_both.ensures.other_ok)

pub returns-clause-few : goal.returns-clause-few
returns-clause-few c = (window c).few

pub returns-clause-numbers : goal.returns-clause-numbers
returns-clause-numbers c =
    rw (← c.acks.view_is, c.forget_least.ensures)
    (joined_last c.acks.inside.ranges c.insert_both.new.self c.args.number c.is_apart-2.ensures c.in_ok-insert_both.ensures.ok)
