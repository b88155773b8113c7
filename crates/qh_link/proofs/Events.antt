-- How what is counted in a list of events goes over one more event.
use Rattle.std.proofs.Common.{◌≡◌, ◌⊎◌, inl, inr, ℕ, ◌+◌, ◌*◌, ◌≤◌, zero, suc, List, [], ◌∷◌, ◌++◌, length, refl, sym, ◌∙◌, ap, subst, arith, append_assoc, length-append, All}
use Rattle.std.proofs.Math.Nat.{mul-le-mul_right}
use Rattle.std.proofs.lemmas.List.{append-nil}
use Rattle.qh_spec.specs.declared.sides.Side.{Side}
use Rattle.qh_spec.specs.declared.sides.Side.TheVariants.{Client, Server}
use Rattle.qh_spec.specs.declared.link.Event.{Event}
use Rattle.qh_spec.specs.declared.link.Event.TheVariants.{Sent, Given, Dry, Round, Fault}
use Rattle.qh_spec.specs.declared.link.Upset.{Upset}
use Rattle.qh_spec.specs.Link.{if_same_side, given_to, moments_of}
use Rattle.qh_spec.specs.Schedule.{send_count, round_count, Happens, IsScheduled, moment_of}

if_same_side-append : {X : Type 0} (s t : Side) (xs ys zs : List X) → if_same_side s t (xs ++ zs) (ys ++ zs) ≡ if_same_side s t xs ys ++ zs
if_same_side-append Client Client xs ys zs = refl
if_same_side-append Client Server xs ys zs = refl
if_same_side-append Server Client xs ys zs = refl
if_same_side-append Server Server xs ys zs = refl

pub given_to-append : (s : Side) (es fs : List Event) → given_to s (es ++ fs) ≡ given_to s es ++ given_to s fs
given_to-append s [] fs = refl
given_to-append s (Sent t d ∷ es) fs = given_to-append s es fs
given_to-append s (Given t d ∷ es) fs =
    ap (λ (z : List (List ℕ)). if_same_side s t (d ∷ z) z) (given_to-append s es fs) ∙ if_same_side-append s t (d ∷ given_to s es) (given_to s es) (given_to s fs)
given_to-append s (Dry t ∷ es) fs = given_to-append s es fs
given_to-append s (Round n ∷ es) fs = given_to-append s es fs
given_to-append s (Fault ∷ es) fs = given_to-append s es fs

pub moments_of-append : (es fs : List Event) → moments_of (es ++ fs) ≡ moments_of es ++ moments_of fs
moments_of-append [] fs = refl
moments_of-append (Sent t d ∷ es) fs = moments_of-append es fs
moments_of-append (Given t d ∷ es) fs = moments_of-append es fs
moments_of-append (Dry t ∷ es) fs = moments_of-append es fs
moments_of-append (Round n ∷ es) fs = ap (λ (z : List ℕ). n ∷ z) (moments_of-append es fs)
moments_of-append (Fault ∷ es) fs = moments_of-append es fs

pub round_count-append : (es fs : List Event) → round_count (es ++ fs) ≡ round_count es + round_count fs
round_count-append es fs = ap length (moments_of-append es fs) ∙ length-append (moments_of es) (moments_of fs)

pub send_count-append : (es fs : List Event) → send_count (es ++ fs) ≡ send_count es + send_count fs
send_count-append [] fs = omega arith
send_count-append (Sent t d ∷ es) fs = let h = send_count-append es fs in omega arith
send_count-append (Given t d ∷ es) fs = send_count-append es fs
send_count-append (Dry t ∷ es) fs = send_count-append es fs
send_count-append (Round n ∷ es) fs = send_count-append es fs
send_count-append (Fault ∷ es) fs = let h = send_count-append es fs in omega arith

pub round_count-le : (es : List Event) → round_count es ≤ length es
round_count-le [] = omega arith
round_count-le (Sent t d ∷ es) = let h = round_count-le es in omega arith
round_count-le (Given t d ∷ es) = let h = round_count-le es in omega arith
round_count-le (Dry t ∷ es) = let h = round_count-le es in omega arith
round_count-le (Round n ∷ es) = let h = round_count-le es in omega arith
round_count-le (Fault ∷ es) = let h = round_count-le es in omega arith

pub send_count-le : (es : List Event) → send_count es ≤ length es
send_count-le [] = omega arith
send_count-le (Sent t d ∷ es) = let h = send_count-le es in omega arith
send_count-le (Given t d ∷ es) = let h = send_count-le es in omega arith
send_count-le (Dry t ∷ es) = let h = send_count-le es in omega arith
send_count-le (Round n ∷ es) = let h = send_count-le es in omega arith
send_count-le (Fault ∷ es) = let h = send_count-le es in omega arith

-- where a longer list is cut at one event: that is the last, or stood there before
cut : (h before after : List Event) (x y : Event) → h ++ x ∷ [] ≡ before ++ y ∷ after → ((before ≡ h) × (y ≡ x)) ⊎ ((rest : List Event) × (h ≡ before ++ y ∷ rest))
cut [] [] after x y e = inl (refl, cc)
cut [] (b ∷ []) after x y e = let z : [] ≡ y ∷ after = cc in cc
cut [] (b ∷ c ∷ before) after x y e = let z : [] ≡ c ∷ (before ++ y ∷ after) = cc in cc
cut (a ∷ h) [] after x y e = let z : y ≡ a = cc in inr (h, ap (λ v. v ∷ h) (sym z))
cut (a ∷ h) (b ∷ before) after x y e =
    let rest : h ++ x ∷ [] ≡ before ++ y ∷ after = cc in
    let head : a ≡ b = cc in
    elim (cut h before after x y rest) as (λ _. ((b ∷ before ≡ a ∷ h) × (y ≡ x)) ⊎ ((r : List Event) × (a ∷ h ≡ b ∷ (before ++ y ∷ r)))) [
      | inl p ↦ inl ((let q : before ≡ h = p.0 in cc), p.1)
      | inr p ↦ inr (p.0, (let q : h ≡ before ++ y ∷ p.0 = p.1 in cc))
    ]

cut_none : (before after : List Event) (y : Event) → [] ≡ before ++ y ∷ after → ⊥
cut_none [] after y e = cc
cut_none (b ∷ before) after y e = cc

pub nothing_is_scheduled : (step : ℕ) (schedule : List Upset) → IsScheduled step schedule []
nothing_is_scheduled step schedule before after x e = absurd (cut_none before after x e)

-- one more event that happens keeps the events scheduled
pub scheduled_more : (step : ℕ) (schedule : List Upset) (es : List Event) (x : Event) → IsScheduled step schedule es → Happens step schedule es x → IsScheduled step schedule (es ++ x ∷ [])
scheduled_more step schedule es x old now before after y e =
    elim (cut es before after x y e) as (λ _. Happens step schedule before y) [
      | inl p ↦ subst (λ (b : List Event). Happens step schedule b y) (sym p.0) (subst (λ (z : Event). Happens step schedule es z) (sym p.1) now)
      | inr p ↦ old before p.0 y p.1
    ]

abbrev AllUpTo : ℕ → List ℕ → Type 0
AllUpTo m [] = Unit {0}
AllUpTo m (x ∷ xs) = (x ≤ m) × AllUpTo m xs

AllUpTo-all : (m : ℕ) (xs : List ℕ) → AllUpTo m xs → All (λ x. x ≤ m) xs
AllUpTo-all m [] h k d l = absurd (omega arith)
AllUpTo-all m (x ∷ xs) h zero d l = h.0
AllUpTo-all m (x ∷ xs) h (suc k) d l = AllUpTo-all m xs h.1 k d (omega arith)

moment_mono : (step a b : ℕ) → a ≤ b → moment_of step a ≤ moment_of step b
moment_mono step a b l = let h : a * (step * 1000000) ≤ b * (step * 1000000) = mul-le-mul_right (step * 1000000) l in omega arith

round_count-front : (all before after : List Event) → all ≡ before ++ after → round_count before ≤ round_count all
round_count-front all before after e =
    let h : round_count all ≡ round_count before + round_count after = ap round_count e ∙ round_count-append before after in omega arith

moments_rise : (step : ℕ) (u : List Upset) (all before after : List Event) → IsScheduled step u all → all ≡ before ++ after → AllUpTo (moment_of step (round_count all + 1)) (moments_of after)
moments_rise step u all before [] h e = tt
moments_rise step u all before (Sent s d ∷ after) h e = moments_rise step u all (before ++ Sent s d ∷ []) after h (e ∙ sym (append_assoc before (Sent s d ∷ []) after))
moments_rise step u all before (Given s d ∷ after) h e = moments_rise step u all (before ++ Given s d ∷ []) after h (e ∙ sym (append_assoc before (Given s d ∷ []) after))
moments_rise step u all before (Dry s ∷ after) h e = moments_rise step u all (before ++ Dry s ∷ []) after h (e ∙ sym (append_assoc before (Dry s ∷ []) after))
moments_rise step u all before (Round m ∷ after) h e =
    let at : m ≡ moment_of step (round_count before + 1) = h before after (Round m) e in
    let l : round_count before ≤ round_count all = round_count-front all before (Round m ∷ after) e in
    let le : moment_of step (round_count before + 1) ≤ moment_of step (round_count all + 1) = moment_mono step (round_count before + 1) (round_count all + 1) (omega arith) in
    (subst (λ (z : ℕ). z ≤ moment_of step (round_count all + 1)) (sym at) le, moments_rise step u all (before ++ Round m ∷ []) after h (e ∙ sym (append_assoc before (Round m ∷ []) after)))
moments_rise step u all before (Fault ∷ after) h e = moments_rise step u all (before ++ Fault ∷ []) after h (e ∙ sym (append_assoc before (Fault ∷ []) after))

-- the moment of the next round is not before those of the rounds that began
pub no_later : (step : ℕ) (u : List Upset) (es : List Event) → IsScheduled step u es → All (λ x. x ≤ moment_of step (round_count es + 1)) (moments_of es)
no_later step u es h = AllUpTo-all (moment_of step (round_count es + 1)) (moments_of es) (moments_rise step u es [] es h refl)

-- an event that is no round adds no moment
pub moments_stay : (es : List Event) (x : Event) → moments_of (x ∷ []) ≡ [] → moments_of (es ++ x ∷ []) ≡ moments_of es
moments_stay es x e = moments_of-append es (x ∷ []) ∙ ap (λ (z : List ℕ). moments_of es ++ z) e ∙ append-nil (moments_of es)
