-- Variable-length integers (RFC 9000, section 16): numbers below 2 ^ 62 in one, two, four or eight bytes in network
-- order, of which the two most significant bits of the first tell the length.
use Rattle.std.specs.Prelude.{◌≡◌, ℕ, ◌+◌, ◌^◌, ◌<◌, nat_lt, List, [], ◌∷◌, if◌then◌else◌}
use Rattle.std.specs.Int.{w16, w32, w64, to_be_bytes}

-- the bytes are a form of the number: with the bits 00, 01, 10 or 11 in front of 6, 14, 30 or 62 bits
pub data IsVarint (bytes : List ℕ) (n : ℕ) : Type 0 where
  one : n < 2 ^ 6 → bytes ≡ n ∷ [] → IsVarint bytes n
  two : n < 2 ^ 14 → bytes ≡ to_be_bytes w16 (2 ^ 14 + n) → IsVarint bytes n
  four : n < 2 ^ 30 → bytes ≡ to_be_bytes w32 (2 ^ 31 + n) → IsVarint bytes n
  eight : n < 2 ^ 62 → bytes ≡ to_be_bytes w64 (2 ^ 63 + 2 ^ 62 + n) → IsVarint bytes n

-- the shortest form of a number below 2 ^ 62
unfoldable pub varint : ℕ → List ℕ
varint n = if nat_lt n (2 ^ 6) then n ∷ [] else if nat_lt n (2 ^ 14) then to_be_bytes w16 (2 ^ 14 + n)
    else if nat_lt n (2 ^ 30) then to_be_bytes w32 (2 ^ 31 + n) else to_be_bytes w64 (2 ^ 63 + 2 ^ 62 + n)
