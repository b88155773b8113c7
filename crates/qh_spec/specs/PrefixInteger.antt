-- Prefixed integers (RFC 7541, section 5.1, as RFC 9204, section 4.1.1, takes them), below 2 ^ 63.
use Rattle.std.specs.Prelude.{◌≡◌, ℕ, ◌+◌, ◌-◌, ◌*◌, ◌/◌, ◌%◌, ◌^◌, ◌<◌, ◌≤◌, nat_lt, zero, suc, List, [], ◌∷◌, if◌then◌else◌}

-- seven bits a byte, the least significant first; a byte from 128 on has another behind it
abbrev pub IsContinued : List ℕ → ℕ → Type 0
IsContinued [] n = ⊥
IsContinued (b ∷ []) n = (b < 128) × (n ≡ b)
IsContinued (b ∷ c ∷ bs) n = (128 ≤ b) × (b < 256) × (high : ℕ) × (n + 128 ≡ b + 128 * high) × IsContinued (c ∷ bs) high

-- the integer, in the low bits of a byte whose other bits are `lead`, or past what these bits hold
pub data IsPrefixed (lead bits : ℕ) (bytes : List ℕ) (n : ℕ) : Type 0 where
  short : n + 1 < 2 ^ bits → bytes ≡ (lead + n) ∷ [] → IsPrefixed lead bits bytes n
  long : (more : List ℕ) (over : ℕ) → bytes ≡ (lead + (2 ^ bits - 1)) ∷ more → IsContinued more over
      → n + 1 ≡ 2 ^ bits + over → n < 2 ^ 63 → IsPrefixed lead bits bytes n

-- at most so many bytes that continue
abbrev pub continued_within : ℕ → ℕ → List ℕ
continued_within zero n = n ∷ []
continued_within (suc k) n = if nat_lt n 128 then n ∷ [] else (128 + n % 128) ∷ continued_within k (n / 128)

-- the shortest form of an integer below 2 ^ 63
abbrev pub prefixed : (lead bits n : ℕ) → List ℕ
prefixed lead bits n = if nat_lt (n + 1) (2 ^ bits) then (lead + n) ∷ [] else (lead + (2 ^ bits - 1)) ∷ continued_within 9 (n + 1 - 2 ^ bits)
