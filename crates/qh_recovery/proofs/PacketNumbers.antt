-- Numbers that end in the same low bytes, and which of them is nearest to another.
use Rattle.std.proofs.Common.{◌≡◌, ℕ, zero, suc, ◌+◌, ◌-◌, ◌*◌, ◌/◌, ◌%◌, ◌^◌, ◌<◌, ◌≤◌, ◌⊎◌, inl, inr, refl, sym, ap, ◌∙◌, arith}
use Rattle.std.specs.Int.{abs_diff}
use Rattle.std.proofs.lemmas.Bool.{cases_lt, cases_order}
use Rattle.std.proofs.lemmas.Nat.{div-add-mod', mod-mul-add, mul-le, row_fits}
use Rattle.std.proofs.Math.Nat.{add-mod_right}
use Rattle.qh_recovery.specs.PacketNumber.{IsCandidate, IsExpanded, IsNearest}

-- how many numbers some low bytes can say: a whole number of times in 2^62
pub record IsWindow (w : ℕ) : Type 0 where
  pub positive : 0 < w
  pub even : w % 2 ≡ 0
  pub divides : 2 ^ 62 % w ≡ 0
  pub small : w ≤ 2 ^ 32

pub is_window : (width : ℕ) → 1 ≤ width → width ≤ 4 → IsWindow (256 ^ width)
is_window zero least most = absurd (omega arith)
is_window (suc zero) least most = record { positive = omega arith; even = refl; divides = refl; small = omega arith }
is_window (suc (suc zero)) least most = record { positive = omega arith; even = refl; divides = refl; small = omega arith }
is_window (suc (suc (suc zero))) least most = record { positive = omega arith; even = refl; divides = refl; small = omega arith }
is_window (suc (suc (suc (suc zero)))) least most = record { positive = omega arith; even = refl; divides = refl; small = omega arith }
is_window (suc (suc (suc (suc (suc n))))) least most = absurd (omega arith)

-- two numbers that end in the same low bytes are a window apart
apart : (w low n m : ℕ) → n % w ≡ low → m % w ≡ low → n < m → n + w ≤ m
apart w low n m p q less =
    let a = div-add-mod' n w in
    let b = div-add-mod' m w in
    elim (cases_lt (n / w) (m / w)) [ inl h ↦ omega (arith, row_fits (n / w) w (m / w) w h (omega arith)) | inr h ↦ absurd (omega (arith, mul-le (m / w) w (n / w) w h (omega arith))) ]

-- what a number that ends in the low bytes is to the one that is meant
record IsBest (e n m : ℕ) : Type 0 where
  nearest : abs_diff n e ≤ abs_diff m e
  tie : abs_diff m e ≡ abs_diff n e → m ≤ n

best_within : (w low e n m : ℕ) → w % 2 ≡ 0 → n % w ≡ low → m % w ≡ low → e < n + w / 2 → n ≤ e + w / 2 → IsBest e n m
best_within w low e n m even p q above below =
    elim (cases_order n m) [
      | inl same ↦ record { nearest = omega arith; tie = λ t. omega arith }
      | inr (inl less) ↦ let far = apart w low n m p q less in record { nearest = omega arith; tie = λ t. absurd (omega arith) }
      | inr (inr more) ↦ let far = apart w low m n q p more in record { nearest = omega arith; tie = λ t. omega arith }
    ]

best_at_end : (w low e n m : ℕ) → n % w ≡ low → m % w ≡ low → n ≤ e → 2 ^ 62 ≤ n + w → m < 2 ^ 62 → IsBest e n m
best_at_end w low e n m p q below last number =
    elim (cases_order n m) [
      | inl same ↦ record { nearest = omega arith; tie = λ t. omega arith }
      | inr (inl less) ↦ let far = apart w low n m p q less in absurd (omega arith)
      | inr (inr more) ↦ record { nearest = omega arith; tie = λ t. omega arith }
    ]

best_at_start : (w low e n m : ℕ) → n % w ≡ low → m % w ≡ low → e ≤ n → n < w → IsBest e n m
best_at_start w low e n m p q above first =
    elim (cases_order n m) [
      | inl same ↦ record { nearest = omega arith; tie = λ t. omega arith }
      | inr (inl less) ↦ record { nearest = omega arith; tie = λ t. absurd (omega arith) }
      | inr (inr more) ↦ let far = apart w low m n q p more in absurd (omega arith)
    ]

-- the candidate of a window: it ends in the low bytes, and it is a packet number if the expected one is
record IsFirst (e low w c : ℕ) : Type 0 where
  same_low : c % w ≡ low
  number : e < 2 ^ 62 → c < 2 ^ 62
  past : e ≡ 2 ^ 62 → e ≤ c

first : (e low w : ℕ) → IsWindow w → low < w → IsFirst e low w (e - e % w + low)
first e low w window less =
    let parts = div-add-mod' e w in
    let start : e - e % w ≡ e / w * w = omega arith in
    let whole : (e / w * w + 0) % w ≡ 0 = mod-mul-add (e / w) w 0 window.positive in
    record {
      same_low = rw start (mod-mul-add (e / w) w low less);
      number = λ h. let far = apart w 0 (e / w * w + 0) (2 ^ 62) whole window.divides (omega arith) in omega arith;
      past = λ h. let none : e % w ≡ 0 = rw h window.divides in omega arith;
    }

-- the number ends in the low bytes too
steps_low : (w low c n : ℕ) → c % w ≡ low → (n ≡ c) ⊎ ((n ≡ c + w) × n < 2 ^ 62) ⊎ (n + w ≡ c) → n % w ≡ low
steps_low w low c n p (inl same) = rw same p
steps_low w low c n p (inr (inl up)) = rw (up.0, add-mod_right c w) p
steps_low w low c n p (inr (inr down)) = sym (add-mod_right n w) ∙ (ap (λ x. x % w) down ∙ p)

steps_number : (w c n : ℕ) → c < 2 ^ 62 → (n ≡ c) ⊎ ((n ≡ c + w) × n < 2 ^ 62) ⊎ (n + w ≡ c) → n < 2 ^ 62
steps_number w c n p (inl same) = omega arith
steps_number w c n p (inr (inl up)) = up.1
steps_number w c n p (inr (inr down)) = omega arith

best : (e low w c n m : ℕ) → IsWindow w → IsFirst e low w c → e ≤ 2 ^ 62 → n % w ≡ low → m % w ≡ low → (e < 2 ^ 62 → m < 2 ^ 62)
    → ((e < n + w / 2) × (n ≤ e + w / 2)) ⊎ ((n ≡ c) × (n + w / 2 ≤ e) × (2 ^ 62 ≤ n + w)) ⊎ ((e ≤ n) × n < w) → IsBest e n m
best e low w c n m window is_first most p q number (inl near) = best_within w low e n m window.even p q near.0 near.1
best e low w c n m window is_first most p q number (inr (inl last)) =
    let pos = window.positive in
    let even = window.even in
    elim (cases_lt e (2 ^ 62)) [
      | inl less ↦ best_at_end w low e n m p q (omega arith) last.2 (number less)
      | inr end ↦ let at : e ≤ c = is_first.past (omega arith) in absurd (omega arith)
    ]
best e low w c n m window is_first most p q number (inr (inr near)) = best_at_start w low e n m p q near.0 near.1

-- the number that is found is the one that is meant
pub expanded : (e low width n : ℕ) → 1 ≤ width → width ≤ 4 → low < 256 ^ width → e ≤ 2 ^ 62 → IsNearest e (e - e % 256 ^ width + low) (256 ^ width) n → IsExpanded e low width n
expanded e low width n least most less number by =
    let window = is_window width least most in
    let is_first = first e low (256 ^ width) window less in
    let same_low = steps_low (256 ^ width) low (e - e % 256 ^ width + low) n is_first.same_low by.steps in
    let each : (m : ℕ) → IsCandidate e low width m → IsBest e n m =
    λ m candidate. best e low (256 ^ width) (e - e % 256 ^ width + low) n m window is_first number same_low candidate.same_low candidate.number by.near in
    record {
      candidate = record { same_low = same_low; number = λ h. steps_number (256 ^ width) (e - e % 256 ^ width + low) n (is_first.number h) by.steps };
      nearest = λ m candidate. (each m candidate).nearest;
      tie = λ m candidate. (each m candidate).tie;
    }

-- a number within half a window is the one that is meant
pub found : (e low width n m : ℕ) → 1 ≤ width → width ≤ 4 → IsExpanded e low width n → IsCandidate e low width m
    → e < m + 256 ^ width / 2 → m ≤ e + 256 ^ width / 2 → n ≡ m
found e low width n m least most by candidate above below =
    let window = is_window width least most in
    let even = window.even in
    let w = 256 ^ width in
    let nearer = by.nearest m candidate in
    let tie = by.tie m candidate in
    elim (cases_order n m) [
      | inl same ↦ same
      | inr (inl less) ↦ let far = apart w low n m by.candidate.same_low candidate.same_low less in absurd (omega (arith, by.tie m candidate (omega arith)))
      | inr (inr more) ↦ let far = apart w low m n candidate.same_low by.candidate.same_low more in absurd (omega arith)
    ]

-- low bytes mean one number
pub meant_once : (e low width n m : ℕ) → IsExpanded e low width n → IsExpanded e low width m → n ≡ m
meant_once e low width n m p q =
    let there = p.nearest m q.candidate in
    let back = q.nearest n p.candidate in
    let same : abs_diff m e ≡ abs_diff n e = omega arith in
    let more = p.tie m q.candidate same in
    let less = q.tie n p.candidate (sym same) in
    omega arith
