use Rattle.std.proofs.Common.{List, ℕ, length, sym, ◌∙◌, ◌<◌, subst, arith, refl}
use Rattle.qh_base.proofs.Varints.{IsBytes}
use Rattle.qh_h3wire.proofs.Pairs.{rest_bytes}
use Rattle.qh_h3wire.proofs.SettingsRead.{pair_shortens}
use Rattle.qh_h3wire.proofs.SettingsReading.{slice_is}
use Rattle.qh_h3wire.proofs.SettingsFaults.{Left, left_has, left_more, left_none}
use Rattle.qh_h3wire.proofs.settings.has_id.Goals as goal

pub loop-entry-init : goal.loop-entry-init
loop-entry-init c = (λ i. omega (arith, c.type_inv.entries i), λ es are. (es, are, refl))

pub returns-then-entry-id : goal.returns-then-entry-id
returns-then-entry-id c es are =
    left_has c.loop-entry.rest.now c.in-Some.entry c.args.id es c.loop-entry.invariant.0 (sym c.read.ensures.exact ∙ c.in-Some.is) c.if-entry-id.true (c.loop-entry.invariant.1 es are)

pub loop-entry-smaller : goal.loop-entry-smaller
loop-entry-smaller c =
    subst (λ (z : List ℕ). length z < length c.loop-entry.rest.now) (sym (slice_is c.loop-entry.rest.now c.in-Some.entry.size))
    (pair_shortens c.loop-entry.rest.now c.in-Some.entry c.loop-entry.invariant.0 (sym c.read.ensures.exact ∙ c.in-Some.is))

pub loop-entry-preserved : goal.loop-entry-preserved
loop-entry-preserved c =
    let rest = c.loop-entry.rest.now in
    let p = c.in-Some.entry in
    let same = sym (slice_is rest p.size) in (
      subst IsBytes same (rest_bytes p.size rest c.loop-entry.invariant.0),
      λ es are. subst (λ (z : List ℕ). Left z c.args.id es) same (left_more rest p c.args.id es c.loop-entry.invariant.0 (sym c.read.ensures.exact ∙ c.in-Some.is) c.if-entry-id.false (c.loop-entry.invariant.1 es are)),
    )

pub returns : goal.returns
returns c es are = left_none c.loop-entry.rest.now c.args.id es (sym c.read.ensures.exact ∙ c.in_default.is) (c.loop-entry.invariant.1 es are)
