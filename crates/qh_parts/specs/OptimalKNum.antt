-- The number of positions at which a bit filter refuses the fewest entries that it doesn't hold.
use Rattle.std.specs.Prelude.{ℕ, ◌+◌, ◌-◌, ◌*◌, ◌/◌, ◌^◌, min, max}

-- ln 2, in units of 10^-18
abbrev pub ln_2 : ℕ
ln_2 = 693147180559945309

-- the whole number nearest to a quotient, the greater of two
abbrev pub nearest : (n d : ℕ) → ℕ
nearest n d = (2 * n + d) / (2 * d)

-- (m / n) ln 2 for m bits and n entries, where the bits are counted up to 2^64 - 1
abbrev pub optimal_k_num : (bytes hits : ℕ) → ℕ
optimal_k_num bytes hits = min (2 ^ 32 - 1) (max 1 (nearest (min (2 ^ 64 - 1) (8 * bytes) * ln_2) (max 1 hits * 10 ^ 18)))
