-- Events that a link with an empty schedule lets happen, and events that it doesn't.
use Rattle.std.proofs.Common.{◌≡◌, ℕ, List, [], ◌∷◌, ◌++◌, refl, subst, append_assoc}
use Rattle.std.proofs.lemmas.List.{append-nil}
use Rattle.qh_spec.specs.declared.link.Event.{Event}
use Rattle.qh_spec.specs.declared.link.Event.TheVariants.{Sent, Dry, Round}
use Rattle.qh_spec.specs.declared.link.Upset.{Upset}
use Rattle.qh_spec.specs.declared.sides.Side.TheVariants.{Client, Server}
use Rattle.qh_spec.specs.EventRows.{scheduled_events}
use Rattle.qh_spec.specs.Schedule.{Happens, IsScheduled}

-- each of these events is what the link lets happen after those in front and those before it
abbrev Happen : (step : ℕ) → List Upset → (front events : List Event) → Type 0
Happen step schedule front [] = Unit {0}
Happen step schedule front (e ∷ es) = Happens step schedule front e × Happen step schedule (front ++ e ∷ []) es

each_happens : (step : ℕ) (schedule : List Upset) (front events before after : List Event) (e : Event)
    → Happen step schedule front events → events ≡ before ++ e ∷ after → Happens step schedule (front ++ before) e
each_happens step schedule front [] [] after e h q = absurd cc
each_happens step schedule front [] (b ∷ before) after e h q = absurd cc
each_happens step schedule front (x ∷ events) [] after e h q =
    let same : x ≡ e = cc in
    rw append-nil (subst (Happens step schedule front) same h.0)
each_happens step schedule front (x ∷ events) (b ∷ before) after e h q =
    let same : x ≡ b = cc in
    let rest : events ≡ before ++ e ∷ after = cc in
    let later = each_happens step schedule (front ++ x ∷ []) events before after e h.1 rest in
    subst (λ (z : List Event). Happens step schedule z e) (append_assoc front (b ∷ []) before)
    (subst (λ (z : Event). Happens step schedule ((front ++ z ∷ []) ++ before) e) same later)

pub scheduled_is : IsScheduled 1 [] scheduled_events
scheduled_is before after e q = each_happens 1 [] [] scheduled_events before after e (refl, (refl, (refl, (refl, (refl, tt))))) q

pub missing_not : IsScheduled 1 [] (Round 1000000 ∷ Sent Client (7 ∷ []) ∷ Round 2000000 ∷ Dry Server ∷ []) → ⊥
missing_not h = let no = h (Round 1000000 ∷ Sent Client (7 ∷ []) ∷ Round 2000000 ∷ []) [] (Dry Server) refl in cc

pub first_not : IsScheduled 1 [] (Round 0 ∷ []) → ⊥
first_not h = let no = h [] [] (Round 0) refl in cc
