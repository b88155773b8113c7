-- The whole number of a packet, of which its header has the low bytes (RFC 9000, sections 12.3 and 17.1, and appendix A.3).
use Rattle.std.specs.Prelude.{◌≡◌, ℕ, ◌+◌, ◌<◌, ◌≤◌, ◌/◌, ◌%◌, ◌^◌, ◌⊎◌}
use Rattle.std.specs.Int.{abs_diff}

-- A number that these low bytes can mean: it ends in them, and it is below 2^62, unless the expected one isn't either.
pub record IsCandidate (expected low width n : ℕ) : Type 0 where
  pub same_low : n % 256 ^ width ≡ low
  pub number : expected < 2 ^ 62 → n < 2 ^ 62

-- The number that low bytes mean: of those that they can mean it is the nearest to the expected one, and the greater of two
-- that are as near (appendix A.3).
pub record IsExpanded (expected low width n : ℕ) : Type 0 where
  pub candidate : IsCandidate expected low width n
  pub nearest : (m : ℕ) → IsCandidate expected low width m → abs_diff n expected ≤ abs_diff m expected
  pub tie : (m : ℕ) → IsCandidate expected low width m → abs_diff m expected ≡ abs_diff n expected → m ≤ n

-- What follows are words of the private functions.

-- The number is within half a window of the expected one, or else it is a candidate with no packet number a window above it, or
-- one with no number a window below it.
pub record IsNearest (expected candidate window n : ℕ) : Type 0 where
  pub steps : (n ≡ candidate) ⊎ ((n ≡ candidate + window) × n < 2 ^ 62) ⊎ (n + window ≡ candidate)
  pub near : ((expected < n + window / 2) × (n ≤ expected + window / 2)) ⊎ ((n ≡ candidate) × (n + window / 2 ≤ expected) × (2 ^ 62 ≤ n + window)) ⊎ ((expected ≤ n) × n < window)
