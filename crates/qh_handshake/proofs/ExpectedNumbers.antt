-- One number is expected next of what is kept.
use Rattle.std.proofs.Common.{◌≡◌, ℕ, zero, suc, ◌+◌, ◌-◌, ◌<◌, ◌≤◌, true, List, [], ◌∷◌, ◌++◌, refl, inl, inr, arith}
use Rattle.std.proofs.lemmas.Bool.{cases_Bool}
use Rattle.std.proofs.lemmas.Bool.Decides.{eqb_tells, nat_tests}
use Rattle.qh_buffers.specs.Ranges.{PlainRange, is_in, has}
use Rattle.qh_handshake.specs.Incoming.{IsExpectedOf}
use Rattle.qh_handshake.specs.declared.initial_space.InitialSpace.{InitialSpace}
use Rattle.qh_recovery.specs.Accepted.{IsNextOf, Remembers}
use Rattle.qh_spec.proofs.Members.{in_left, in_right, in_split}
use Rattle.qh_spec.specs.Lists.{In}

-- the numbers from a start on, so many
abbrev numbers : (count start : ℕ) → List ℕ
numbers zero start = []
numbers (suc k) start = start ∷ numbers k (start + 1)

numbers_in : (k s n : ℕ) → s ≤ n → n < s + k → In n (numbers k s)
numbers_in zero s n low high = absurd (omega arith)
numbers_in (suc k) s n low high = elim (eqb_tells s n) [
  | inl same ↦ inl same.1
  | inr apart ↦ inr (numbers_in k (s + 1) n (let differ = apart.1 in omega arith) (omega arith))
]

in_numbers : (k s n : ℕ) → In n (numbers k s) → (s ≤ n) × (n < s + k)
in_numbers zero s n h = absurd h
in_numbers (suc k) s n (inl same) = (omega arith, omega arith)
in_numbers (suc k) s n (inr later) = let r = in_numbers k (s + 1) n later in (omega arith, omega arith)

-- the numbers of ranges
abbrev members : List PlainRange → List ℕ
members [] = []
members (r ∷ rs) = numbers (r.end - r.start) r.start ++ members rs

is_within : (r : PlainRange) (n : ℕ) → is_in r n ≡ true → (r.start ≤ n) × (n < r.end)
is_within r n h = grind (arith, nat_tests)

within_is : (r : PlainRange) (n : ℕ) → r.start ≤ n → n < r.end → is_in r n ≡ true
within_is r n low high = grind (arith, nat_tests)

has_in : (rs : List PlainRange) (n : ℕ) → has rs n ≡ true → In n (members rs)
has_in [] n h = cc
has_in (r ∷ rs) n h = elim (cases_Bool (is_in r n)) [
  | inl here ↦ let w = is_within r n here in in_left n (numbers (r.end - r.start) r.start) (members rs) (numbers_in (r.end - r.start) r.start n w.0 (omega (arith, w.0, w.1)))
  | inr other ↦ in_right n (numbers (r.end - r.start) r.start) (members rs) (has_in rs n (rw other at h))
]

in_has : (rs : List PlainRange) (n : ℕ) → In n (members rs) → has rs n ≡ true
in_has [] n h = absurd h
in_has (r ∷ rs) n h = elim (in_split n (numbers (r.end - r.start) r.start) (members rs) h) [
  | inl here ↦ let w = in_numbers (r.end - r.start) r.start n here in let is = within_is r n w.0 (omega (arith, w.0, w.1)) in rw is refl
  | inr later ↦ elim (cases_Bool (is_in r n)) [
    | inl here ↦ rw here refl
    | inr other ↦ rw other (in_has rs n later)
  ]
]

-- what is kept has a history: just these numbers were accepted
remembered : (kept : List PlainRange) → Remembers (members kept) kept
remembered kept = record { agrees = λ n _. (has_in kept n, in_has kept n) }

no_less : (accepted : List ℕ) (a b : ℕ) → IsNextOf accepted a → IsNextOf accepted b → a < b → ⊥
no_less accepted a b p q less = omega (arith, less, p.is_above (b - 1) (q.is_least (omega arith)))

pub one_expected : (s : InitialSpace) (a b : ℕ) → IsExpectedOf s a → IsExpectedOf s b → a ≡ b
one_expected s a b p q =
    let all = members s.dedup in
    let first = p all (remembered s.dedup) in
    let other = q all (remembered s.dedup) in
    let above : a < b → ⊥ = no_less all a b first other in
    let below : b < a → ⊥ = no_less all b a other first in
    omega arith
