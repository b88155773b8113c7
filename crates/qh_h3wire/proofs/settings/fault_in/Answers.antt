use Rattle.std.proofs.Common.{◌≤◌, List, ℕ, length, drop, sym, ap, ◌∙◌, subst, arith, length-drop}
use Rattle.qh_h3wire.proofs.Pairs.{rest_bytes}
use Rattle.qh_h3wire.proofs.SettingsRead.{pair_shortens}
use Rattle.qh_h3wire.proofs.SettingsReading.{slice_is}
use Rattle.qh_h3wire.proofs.SettingsFaults.{passes_more, is_cut, is_repeated, is_own, all_pass}
use Rattle.qh_h3wire.specs.Pair.{pair_at}
use Rattle.qh_h3wire.proofs.settings.fault_in.Goals as goal

pub returns-in_default : goal.returns-in_default
returns-in_default c =
    is_cut c.args.payload.now c.loop-at.at c.loop-at-test.true c.loop-at.invariant (sym (ap pair_at (slice_is c.args.payload.now c.loop-at.at)) ∙ sym c.read.ensures.exact ∙ c.in_default.is)

pub returns-then-has_id : goal.returns-then-has_id
returns-then-has_id c =
    is_repeated c.args.payload.now c.loop-at.at c.in-Some.entry c.loop-at.invariant (λ i. omega (arith, c.type_inv.payload i))
    (sym (ap pair_at (slice_is c.args.payload.now c.loop-at.at)) ∙ sym c.read.ensures.exact ∙ c.in-Some.is) (sym (c.has_id.ensures c.loop-at.invariant.front c.loop-at.invariant.are) ∙ c.if-has_id.true)

pub returns-in-Some-own_fault : goal.returns-in-Some-own_fault
returns-in-Some-own_fault c =
    is_own c.args.payload.now c.loop-at.at c.in-Some.entry c.loop-at.invariant c.in-Some-own_fault.fault (λ i. omega (arith, c.type_inv.payload i))
    (sym (ap pair_at (slice_is c.args.payload.now c.loop-at.at)) ∙ sym c.read.ensures.exact ∙ c.in-Some.is) (sym (c.has_id.ensures c.loop-at.invariant.front c.loop-at.invariant.are) ∙ c.if-has_id.false)
    (sym c.own_fault.ensures ∙ c.in-Some-own_fault.is)

pub loop-at-smaller : goal.loop-at-smaller
loop-at-smaller c =
    let payload = c.args.payload.now in
    let place = c.loop-at.at in
    let less = pair_shortens (drop place payload) c.in-Some.entry (rest_bytes place payload (λ i. omega (arith, c.type_inv.payload i))) (sym (ap pair_at (slice_is payload place)) ∙ sym c.read.ensures.exact ∙ c.in-Some.is) in
    let l = length-drop c.in-Some.entry.size (drop place payload) in
    let here = c.loop-at-test.true in
    omega arith

pub loop-at-preserved : goal.loop-at-preserved
loop-at-preserved c =
    let payload = c.args.payload.now in
    let place = c.loop-at.at in
    passes_more payload place c.in-Some.entry c.loop-at.invariant (λ i. omega (arith, c.type_inv.payload i)) (sym (ap pair_at (slice_is payload place)) ∙ sym c.read.ensures.exact ∙ c.in-Some.is)
    (subst (λ (z : List ℕ). c.in-Some.entry.size ≤ length z) (slice_is payload place) c.in-Some.ensures.within) (sym (c.has_id.ensures c.loop-at.invariant.front c.loop-at.invariant.are) ∙ c.if-has_id.false)
    (sym c.own_fault.ensures ∙ c.in_default-own_fault.is)

pub returns : goal.returns
returns c = all_pass c.args.payload.now c.loop-at.at c.loop-at-test.false c.loop-at.invariant
