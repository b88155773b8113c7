-- What an update keeps of the samples, and what it says of the first.
use Rattle.std.proofs.Common.{◌≡◌, ◌+◌, ◌<◌, ◌≤◌, ◌==◌, nat_lt, nat_le, Bool, true, false, cond, ◌&&◌, ◌||◌, refl, arith, All, Contains, ◌∷◌, []}
use Rattle.std.proofs.lemmas.Bool.{leb-false, ltb-false}
use Rattle.std.proofs.lemmas.List.Elements.{All-cons}
use Rattle.qh_parts.specs.declared.min_max.Sample.{Sample}
use Rattle.qh_parts.specs.declared.min_max.Samples.{Samples}
use Rattle.qh_parts.specs.MinMax.{age, starts_anew, all_three, with_second, with_third, without_first, ranked, moved_on, aged, with_sample, IsInOrder, list_of}

-- what holds whichever way a test goes
cond-either : {A : Type 0} (P : A → Type 0) (b : Bool) (x y : A) → (b ≡ true → P x) → (b ≡ false → P y) → P (cond b x y)
cond-either P true x y f g = f refl
cond-either P false x y f g = g refl

or-false : (a b : Bool) → (a || b) ≡ false → (a ≡ false) × (b ≡ false)
or-false true b h = cc
or-false false b h = (refl, h)

-- the ways of each definition
ranked-cases : (P : Samples → Type 0) (s : Samples) (x : Sample) → P (with_second s x) → (x.value < s.second.value → P (with_third s x)) → (x.value < s.second.value → x.value < s.third.value → P s) → P (ranked s x)
unfolding ranked
ranked-cases P s x two one none =
    let last : Bool = nat_le s.third.value x.value in
    cond-either P (nat_le s.second.value x.value) (with_second s x) (cond last (with_third s x) s) (λ _. two)
    (λ less. cond-either P last (with_third s x) s (λ _. one (leb-false _ _ less)) (λ least. none (leb-false _ _ less) (leb-false _ _ least)))

moved_on-cases : (P : Samples → Type 0) (s : Samples) (x : Sample) → P (without_first (without_first s x) x) → (age s.second x ≤ 10 → P (without_first s x)) → P (moved_on s x)
unfolding moved_on
moved_on-cases P s x twice once =
    cond-either P (nat_lt 10 (age s.second x)) (without_first (without_first s x) x) (without_first s x) (λ _. twice) (λ young. once (ltb-false _ _ young))

aged-cases : (P : Samples → Type 0) (s : Samples) (x : Sample) → P (moved_on s x) → (age s.first x ≤ 10 → P (with_second s x) × P (with_third s x) × P s) → P (aged s x)
unfolding aged
aged-cases P s x old young =
    let quarter : Bool = (s.second.round == s.first.round) && nat_lt 2 (age s.first x) in
    let half : Bool = (s.third.round == s.second.round) && nat_lt 5 (age s.first x) in
    cond-either P (nat_lt 10 (age s.first x)) (moved_on s x) (cond quarter (with_second s x) (cond half (with_third s x) s)) (λ _. old)
    (λ h.
    let ways = young (ltb-false _ _ h) in
    cond-either P quarter (with_second s x) (cond half (with_third s x) s) (λ _. ways.0)
    (λ _. cond-either P half (with_third s x) s (λ _. ways.1) (λ _. ways.2)))

with_sample-cases : (P : Samples → Type 0) (s : Samples) (x : Sample) → P (all_three x) → (x.value < s.first.value → age s.third x ≤ 10 → P (aged (ranked s x) x)) → P (with_sample s x)
unfolding with_sample
with_sample-cases P s x anew kept =
    cond-either P (starts_anew s x) (all_three x) (aged (ranked s x) x) (λ _. anew)
    (λ h.
    let outer = or-false ((s.first.value == 0) || nat_le s.first.value x.value) (nat_lt 10 (age s.third x)) h in
    let inner = or-false (s.first.value == 0) (nat_le s.first.value x.value) outer.0 in
    kept (leb-false _ _ inner.1) (ltb-false _ _ outer.1))

-- what each of the samples meets
pub record Each (P : Sample → Type 0) (s : Samples) : Type 0 where
  pub first : P s.first
  pub second : P s.second
  pub third : P s.third

pub Each-ranked : (P : Sample → Type 0) (s : Samples) (x : Sample) → P x → Each P s → Each P (ranked s x)
Each-ranked P s x h e =
    ranked-cases (Each P) s x (record { first = e.first; second = h; third = h }) (λ _. record { first = e.first; second = e.second; third = h }) (λ _ _. e)

Each-aged : (P : Sample → Type 0) (s : Samples) (x : Sample) → P x → Each P s → Each P (aged s x)
Each-aged P s x h e =
    aged-cases (Each P) s x (moved_on-cases (Each P) s x (record { first = e.third; second = h; third = h }) (λ _. record { first = e.second; second = e.third; third = h }))
    (λ _. (record { first = e.first; second = h; third = h }, record { first = e.first; second = e.second; third = h }, e))

pub Each-with_sample : (P : Sample → Type 0) (s : Samples) (x : Sample) → P x → Each P s → Each P (with_sample s x)
Each-with_sample P s x h e =
    with_sample-cases (Each P) s x (record { first = h; second = h; third = h }) (λ _ _. Each-aged P _ x h (Each-ranked P s x h e))

-- ranked, none of them is smaller than the new one
abbrev Reaches : Sample → Sample → Type 0
Reaches x y = x.value ≤ y.value

Reaches-ranked : (s : Samples) (x : Sample) → x.value < s.first.value → Each (Reaches x) (ranked s x)
Reaches-ranked s x h =
    ranked-cases (Each (Reaches x)) s x (record { first = omega arith; second = omega arith; third = omega arith }) (λ less. record { first = omega arith; second = omega arith; third = omega arith })
    (λ less least. record { first = omega arith; second = omega arith; third = omega arith })

-- the first is at least the new one
pub with_sample-greatest : (s : Samples) (x : Sample) → x.value ≤ (with_sample s x).first.value
with_sample-greatest s x =
    with_sample-cases (λ t. x.value ≤ t.first.value) s x (omega arith)
    (λ less _. (Each-aged (Reaches x) (ranked s x) x (omega arith) (Reaches-ranked s x less)).first)

-- the new one comes at most ten rounds after this one
abbrev Recent : Sample → Sample → Type 0
Recent x y = x.round ≤ y.round + 10

Recent-ranked : (s : Samples) (x : Sample) → Recent x s.third → Recent x (ranked s x).third
Recent-ranked s x h = ranked-cases (λ t. Recent x t.third) s x (omega arith) (λ _. omega arith) (λ _ _. h)

Recent-aged : (s : Samples) (x : Sample) → Recent x s.third → Recent x (aged s x).first
Recent-aged s x h =
    aged-cases (λ t. Recent x t.first) s x (moved_on-cases (λ t. Recent x t.first) s x h (λ young. omega arith))
    (λ young. (omega arith, omega arith, omega arith))

pub with_sample-recent : (s : Samples) (x : Sample) → x.round ≤ (with_sample s x).first.round + 10
with_sample-recent s x =
    with_sample-cases (λ t. Recent x t.first) s x (omega arith) (λ _ young. Recent-aged (ranked s x) x (Recent-ranked s x (omega arith)))

-- none is of a later round
abbrev pub NotAfter : Sample → Sample → Type 0
NotAfter x y = y.round ≤ x.round

pub Each-in_order : (s : Samples) (x : Sample) → IsInOrder s → s.third.round ≤ x.round → Each (NotAfter x) s
Each-in_order s x o h = record { first = omega arith; second = omega arith; third = h }

-- rounds stay in order
InOrder-ranked : (s : Samples) (x : Sample) → IsInOrder s → s.third.round ≤ x.round → IsInOrder (ranked s x)
InOrder-ranked s x o h =
    ranked-cases IsInOrder s x (record { second = omega arith; third = omega arith }) (λ _. record { second = o.second; third = omega arith }) (λ _ _. o)

InOrder-aged : (s : Samples) (x : Sample) → IsInOrder s → s.third.round ≤ x.round → IsInOrder (aged s x)
InOrder-aged s x o h =
    aged-cases IsInOrder s x (moved_on-cases IsInOrder s x (record { second = h; third = omega arith }) (λ _. record { second = o.third; third = h }))
    (λ _. (record { second = omega arith; third = omega arith }, record { second = o.second; third = omega arith }, o))

pub InOrder-with_sample : (s : Samples) (x : Sample) → IsInOrder s → s.third.round ≤ x.round → IsInOrder (with_sample s x)
InOrder-with_sample s x o h =
    with_sample-cases IsInOrder s x (record { second = omega arith; third = omega arith })
    (λ _ _. InOrder-aged (ranked s x) x (InOrder-ranked s x o h) (Each-ranked (NotAfter x) s x (omega arith) (Each-in_order s x o h)).third)

pub with_sample-rounds : (s : Samples) (x : Sample) → IsInOrder s → s.third.round ≤ x.round → (with_sample s x).third.round ≤ x.round
with_sample-rounds s x o h = (Each-with_sample (NotAfter x) s x (omega arith) (Each-in_order s x o h)).third

-- each sample was there, or is the new one
pub list_of-with_sample : (s : Samples) (x : Sample) (t : Samples) → t ≡ with_sample s x → All (Contains (x ∷ list_of s)) (list_of t)
list_of-with_sample s x t is =
    let P : Sample → Type 0 = Contains (x ∷ list_of s) in
    let e = Each-with_sample P s x (0, omega arith, refl) (record { first = (1, omega arith, refl); second = (2, omega arith, refl); third = (3, omega arith, refl) }) in
    let h : Each P t = rw is e in
    All-cons P t.first (t.second ∷ t.third ∷ []) h.first (All-cons P t.second (t.third ∷ []) h.second (All-cons P t.third [] h.third (λ k d h. absurd (omega arith))))
