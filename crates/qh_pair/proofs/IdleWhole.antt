-- The idle time in force between two ends that say the same.
use Rattle.std.proofs.Common.{◌≡◌, ◌≤◌, ◌<◌, ◌-◌, ◌*◌, ◌/◌, ◌^◌, ℕ, zero, suc, List, Option, Some, None, refl, sym, ◌∙◌, ap, subst, arith}
use Rattle.std.specs.Prelude.{min}
use Rattle.std.specs.Option.{option_map}
use Rattle.std.proofs.lemmas.Option.{same_Some}
use Rattle.qh_base.specs.declared.time.Span.{Span}
use Rattle.qh_conn.specs.declared.config.ConnConfig.{ConnConfig}
use Rattle.qh_converse.specs.Settled.{idle_of, milliseconds}
use Rattle.qh_spec.proofs.HelloSaidRows.{idle_lesser}
use Rattle.qh_spec.specs.declared.link.Event.{Event}
use Rattle.qh_pair.specs.Hellos.{AreGreetedAsSet, IsNoShorter, LeaveIdleTime}
use Rattle.qh_pair.specs.Settings.{whole_idle}

none_is : (span : Span) → ◌≡◌ {A = Option Span} None (Some span) → ⊥
none_is span e = cc

in_force : (n : ℕ) (span : Span) → idle_of n n ≡ Some span → span.0 ≡ min (2 ^ 64 - 1) (n * 1000000)
in_force zero span e = absurd (none_is span e)
in_force (suc n) span e =
    let some : 0 < suc n = omega arith in
    let is : idle_of (suc n) (suc n) ≡ Some (record { 0 = min (2 ^ 64 - 1) (min (suc n) (suc n) * 1000000) })
    = ap (option_map (λ (z : ℕ). let t : Span = record { 0 = min (2 ^ 64 - 1) (z * 1000000) } in t)) (idle_lesser (suc n) (suc n) some some) in
    let span_is = same_Some _ span (sym is ∙ e) in
    let whole : min (2 ^ 64 - 1) (min (suc n) (suc n) * 1000000) ≡ span.0 = ap (λ (z : Span). z.0) span_is in
    omega (arith, whole)

-- it is the idle time of either, rounded down to whole milliseconds
pub whole_in_force : (own : Option Span) (span : Span) → idle_of (milliseconds own) (milliseconds own) ≡ Some span → (w : Span) × (whole_idle own ≡ Some w) × (w.0 ≤ span.0)
whole_in_force None span e = absurd (none_is span e)
whole_in_force (Some own) span e =
    let is = in_force (own.0 / 1000000) span e in
    (record { 0 = min (2 ^ 64 - 1) (own.0 / 1000000 * 1000000) }, refl, omega (arith, is))

in_force_whole : (own o : Option Span) → idle_of (milliseconds own) (milliseconds own) ≡ o → IsNoShorter (whole_idle own) o
in_force_whole own None e = tt
in_force_whole own (Some span) e = whole_in_force own span e

-- hellos that say it leave it in force
pub set_idle : (k : ℕ) (config : ConnConfig) (events : List Event) → AreGreetedAsSet k config events → LeaveIdleTime k config events
set_idle k config events set side p of =
    subst (λ (z : ℕ). IsNoShorter (whole_idle config.idle) (idle_of (milliseconds config.idle) z)) (sym (set side p of).idle)
    (in_force_whole config.idle (idle_of (milliseconds config.idle) (milliseconds config.idle)) refl)

-- and no more than the idle time of its own
pub whole_own : (own : Option Span) (span : Span) → own ≡ Some span → (w : Span) × (whole_idle own ≡ Some w) × (w.0 ≤ span.0)
whole_own None span e = absurd (none_is span e)
whole_own (Some own) span e =
    let is : own.0 ≡ span.0 = ap (λ (z : Span). z.0) (same_Some own span e) in
    (record { 0 = min (2 ^ 64 - 1) (own.0 / 1000000 * 1000000) }, refl, omega (arith, is))
