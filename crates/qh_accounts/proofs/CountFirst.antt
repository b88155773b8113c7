-- How many of the first numbers pass a test, when the test changes.
use Rattle.std.proofs.Common.{◌≡◌, ℕ, zero, suc, ◌+◌, ◌<◌, ◌≤◌, ◌==◌, Bool, true, false, refl, ap, ◌∙◌, arith, inl, inr}
use Rattle.std.proofs.lemmas.Bool.Decides.{eqb_tells}
use Rattle.qh_accounts.specs.Accounts.{count_first}

pub none_passes : (P : ℕ → Bool) (n : ℕ) → ((k : ℕ) → k < n → P k ≡ false) → count_first P n ≡ 0
none_passes P zero none = refl
none_passes P (suc n) none =
    let here = none n (omega arith) in
    let before = none_passes P n (λ k low. none k (omega (arith, low))) in
    rw (here, before) refl

pub some_passes : (P : ℕ → Bool) (n j : ℕ) → j < n → P j ≡ true → 0 < count_first P n
some_passes P zero j low passes = absurd (omega (arith, low))
some_passes P (suc n) j low passes = elim (eqb_tells n j) [
  | inl same ↦ let here : P n ≡ true = ap P same.1 ∙ passes in rw here (omega arith)
  | inr other ↦ let before = some_passes P n j (grind (arith, low, other.1)) passes in omega (arith, before)
]

pub same_count : (P Q : ℕ → Bool) (n : ℕ) → ((k : ℕ) → k < n → Q k ≡ P k) → count_first Q n ≡ count_first P n
same_count P Q zero same = refl
same_count P Q (suc n) same =
    let here = same n (omega arith) in
    let before = same_count P Q n (λ k low. same k (omega (arith, low))) in
    rw (here, before) refl

-- one number passes no more
pub one_less : (P Q : ℕ → Bool) (n j : ℕ) → j < n → P j ≡ true → Q j ≡ false → ((k : ℕ) → (k == j) ≡ false → Q k ≡ P k) → count_first P n ≡ count_first Q n + 1
one_less P Q zero j low was is away = absurd (omega (arith, low))
one_less P Q (suc n) j low was is away = elim (eqb_tells n j) [
  | inl same ↦
      let here : P n ≡ true = ap P same.1 ∙ was in
      let gone : Q n ≡ false = ap Q same.1 ∙ is in
      let before = same_count P Q n (λ k under. away k (apart k n j under same.1)) in
      rw (here, gone, before) (omega arith)
  | inr other ↦
      let here = away n other.0 in
      let before = one_less P Q n j (grind (arith, low, other.1)) was is away in
      rw (here, before) (omega arith)
] where
  apart : (k n j : ℕ) → k < n → n ≡ j → (k == j) ≡ false
  apart k n j under same = grind (arith, under, same)

-- all numbers from one on pass
pub more_pass : (P Q : ℕ → Bool) (n m : ℕ) → n ≤ m → ((k : ℕ) → k < n → Q k ≡ P k) → ((k : ℕ) → n ≤ k → k < m → Q k ≡ true) → count_first Q m + n ≡ count_first P n + m
more_pass P Q n zero below same all =
    let none : n ≡ 0 = omega (arith, below) in
    rw none refl
more_pass P Q n (suc m) below same all = elim (eqb_tells n (suc m)) [
  | inl is ↦ rw is.1 (rw (same_count P Q (suc m) (λ k low. same k (omega (arith, low, is.1)))) refl)
  | inr other ↦
      let under : n ≤ m = grind (arith, below, other.1) in
      let here = all m under (omega arith) in
      let before = more_pass P Q n m under same (λ k from low. all k from (omega (arith, low))) in
      rw here (omega (arith, before))
]
