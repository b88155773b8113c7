use Rattle.std.proofs.Common.{◌≡◌, ℕ, ◌+◌, List, length, cond, ltb, sym, ap, ◌∙◌, arith}
use Rattle.qh_spec.specs.declared.link.Upset.{Upset}
use Rattle.qh_spec.specs.Schedule.{copies_of, delay_of}
use Rattle.qh_link.proofs.Kept.{kept_sent, sends_below, rounds_below}
use Rattle.qh_link.proofs.script.ScriptLink.carry.Goals as goal

pub overflow_add-number : goal.overflow_add-number
overflow_add-number c =
    let v = c.self.inside.events in omega (arith, sends_below c.self.invariant, v.ok.0, v.ok.1, v.small)

pub overflow_add-round : goal.overflow_add-round
overflow_add-round c =
    let v = c.self.inside.events in omega (arith, rounds_below c.self.invariant, v.ok.0, v.ok.1, v.small)

pub overflow_add-round-2 : goal.overflow_add-round-2
overflow_add-round-2 c =
    let v = c.self.inside.events in omega (arith, rounds_below c.self.invariant, v.ok.0, v.ok.1, v.small)

pub invariant_of-self-2 : goal.invariant_of-self-2
invariant_of-self-2 c =
    let i = c.self.inside in
    let e = rw c.unwrap.ensures at c.push.ensures.items in
    let copies : c.copies_that_fit-copies.result ≡ cond (ltb 2048 (length c.in_ok-sent.sent)) 0 (copies_of i.schedule.items (i.sends + 1)) =
    c.copies_that_fit-copies.ensures
    ∙ ap (λ (z : List Upset). cond (ltb 2048 (length c.args.datagram.now)) 0 (copies_of z (i.sends + 1))) c.deref.ensures.value
    ∙ ap (λ (z : List ℕ). cond (ltb 2048 (length z)) 0 (copies_of i.schedule.items (i.sends + 1))) (sym c.in_ok-sent.ensures) in
    let round : i.round + 1 + c.delay_of.result ≡ i.round + 1 + delay_of i.schedule.items (i.sends + 1) =
    ap (λ (z : ℕ). i.round + 1 + z) (c.delay_of.ensures.value ∙ ap (λ (z : List Upset). delay_of z (i.sends + 1)) c.deref-2.ensures.value) in
    rw (e, c.try_reserve.ensures.items)
    (kept_sent {v = c.put.new.self} c.self.invariant c.args.from c.in_ok-sent.sent c.copies_that_fit-copies.result (i.round + 1 + c.delay_of.result) (rw (← c.self.view_is) at c.requires) copies round c.put.ensures.ready (λ s. rw c.other_end.ensures at (c.in_ok-put.ensures.ok s)))
