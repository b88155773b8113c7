-- One number is expected next of a space.
use Rattle.std.proofs.Common.{◌≡◌, ℕ, zero, suc, ◌+◌, ◌-◌, ◌<◌, ◌≤◌, max, true, false, List, [], ◌∷◌, ◌++◌, refl, inl, inr, arith}
use Rattle.std.proofs.lemmas.Bool.{both_ways, cases_Bool, cases_lt, or_cases, or_left, or_right}
use Rattle.std.proofs.lemmas.Bool.Decides.{eqb_tells, nat_tests}
use Rattle.qh_buffers.proofs.RangeCounts.{in_end, in_start}
use Rattle.qh_buffers.proofs.RangeLaws.{inside}
use Rattle.qh_buffers.specs.Ranges.{PlainRange, is_in, has}
use Rattle.qh_core.specs.Receiving.{IsExpectedOf}
use Rattle.qh_recovery.proofs.Window.{next_is}
use Rattle.qh_recovery.specs.Accepted.{IsNextIn, IsNextOf, Remembers}
use Rattle.qh_space.specs.declared.data_space.DataSpace.{DataSpace}
use Rattle.qh_spec.proofs.Members.{in_left, in_right, in_split}
use Rattle.qh_spec.specs.Lists.{In}

-- the numbers from a start on, so many
abbrev numbers : (count start : ℕ) → List ℕ
numbers zero start = []
numbers (suc k) start = start ∷ numbers k (start + 1)

numbers_in : (k s n : ℕ) → s ≤ n → n < s + k → In n (numbers k s)
numbers_in zero s n low high = absurd (omega arith)
numbers_in (suc k) s n low high = elim (eqb_tells s n) [
  | inl same ↦ inl same.1
  | inr apart ↦ inr (numbers_in k (s + 1) n (let differ = apart.1 in omega arith) (omega arith))
]

in_numbers : (k s n : ℕ) → In n (numbers k s) → (s ≤ n) × (n < s + k)
in_numbers zero s n h = absurd h
in_numbers (suc k) s n (inl same) = (omega arith, omega arith)
in_numbers (suc k) s n (inr later) = let r = in_numbers k (s + 1) n later in (omega arith, omega arith)

-- the numbers of ranges
abbrev members : List PlainRange → List ℕ
members [] = []
members (r ∷ rs) = numbers (r.end - r.start) r.start ++ members rs

is_within : (r : PlainRange) (n : ℕ) → is_in r n ≡ true → (r.start ≤ n) × (n < r.end)
is_within r n h = grind (arith, nat_tests)

within_is : (r : PlainRange) (n : ℕ) → r.start ≤ n → n < r.end → is_in r n ≡ true
within_is r n low high = grind (arith, nat_tests)

has_in : (rs : List PlainRange) (n : ℕ) → has rs n ≡ true → In n (members rs)
has_in [] n h = cc
has_in (r ∷ rs) n h = elim (cases_Bool (is_in r n)) [
  | inl here ↦ let w = is_within r n here in in_left n (numbers (r.end - r.start) r.start) (members rs) (numbers_in (r.end - r.start) r.start n w.0 (omega (arith, w.0, w.1)))
  | inr other ↦ in_right n (numbers (r.end - r.start) r.start) (members rs) (has_in rs n (rw other at h))
]

in_has : (rs : List PlainRange) (n : ℕ) → In n (members rs) → has rs n ≡ true
in_has [] n h = absurd h
in_has (r ∷ rs) n h = elim (in_split n (numbers (r.end - r.start) r.start) (members rs) h) [
  | inl here ↦ let w = in_numbers (r.end - r.start) r.start n here in let is = within_is r n w.0 (omega (arith, w.0, w.1)) in rw is refl
  | inr later ↦ elim (cases_Bool (is_in r n)) [
    | inl here ↦ rw here refl
    | inr other ↦ rw other (in_has rs n later)
  ]
]

-- what is kept has a history: just these numbers were accepted
remembered : (kept : List PlainRange) → Remembers (members kept) kept
remembered kept = record { agrees = λ n _. (has_in kept n, in_has kept n) }

no_less : (accepted : List ℕ) (a b : ℕ) → IsNextOf accepted a → IsNextOf accepted b → a < b → ⊥
no_less accepted a b p q less = omega (arith, less, p.is_above (b - 1) (q.is_least (omega arith)))

pub one_expected : (s : DataSpace) (a b : ℕ) → IsExpectedOf s a → IsExpectedOf s b → a ≡ b
one_expected s a b p q =
    let all = members s.dedup in
    let first = p all (remembered s.dedup) in
    let other = q all (remembered s.dedup) in
    let above : a < b → ⊥ = no_less all a b first other in
    let below : b < a → ⊥ = no_less all b a other first in
    omega arith

-- ---- and there is one

one_range : (r : PlainRange) (rs : List PlainRange) (n : ℕ) → IsNextIn rs n → (next : ℕ) × IsNextIn (r ∷ rs) next
one_range r rs n is = elim (cases_lt (max n r.start) r.end) [
  | inl less ↦ (
    r.end,
    record {
      is_above = λ k h. elim (or_cases (is_in r k) (has rs k) h) [ inl here ↦ in_end r k here | inr later ↦ omega (arith, less, is.is_above k later) ];
      is_least = λ some. or_left (is_in r (r.end - 1)) (has rs (r.end - 1)) (inside r (r.end - 1) (omega arith) (omega arith));
    },
  )
  | inr more ↦ (
    n,
    record {
      is_above = λ k h. elim (or_cases (is_in r k) (has rs k) h) [ inl here ↦ omega (arith, more, in_start r k here, in_end r k here) | inr later ↦ is.is_above k later ];
      is_least = λ some. or_right (is_in r (n - 1)) (has rs (n - 1)) (is.is_least some);
    },
  )
]

next_in : (kept : List PlainRange) → (next : ℕ) × IsNextIn kept next
next_in [] = (0, record { is_above = λ k h. absurd (both_ways false refl h); is_least = λ some. absurd (omega arith) })
next_in (r ∷ rs) = let rest = next_in rs in one_range r rs rest.0 rest.1

pub expected_of : (s : DataSpace) → (expected : ℕ) × IsExpectedOf s expected
expected_of s = let next = next_in s.dedup in (next.0, λ accepted memory. next_is accepted s.dedup memory next.0 next.1)
