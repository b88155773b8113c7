-- A filter of the log of used tokens: a set, or a bit filter once the set is too long (quinn-proto, `bloom_token_log`).
use Rattle.std.specs.Prelude.{ℕ, zero, suc, ◌+◌, ◌*◌, ◌/◌, ◌%◌, ◌^◌, ◌==◌, nat_lt, min, max, bit_xor, Bool, true, false, List, [], ◌∷◌, length, flat_map, if◌then◌else◌}
use Rattle.std.specs.List.{list_any, list_all}

-- the bytes that both filters of a log may take, and the number of positions of a fingerprint before it is bounded
pub record TokenLimits : Type 0 where
  pub max_bytes : ℕ
  pub k_num : ℕ

-- the fingerprints that a filter took since it was last empty, the newest first, and whether it is a bit filter by now
pub record TokenFilter : Type 0 where
  pub accepted : List ℕ
  pub is_bits : Bool

abbrev pub empty_filter : TokenFilter
empty_filter = record { accepted = []; is_bits = false }

-- the bytes of one filter
abbrev pub filter_bytes : TokenLimits → ℕ
filter_bytes limits = limits.max_bytes / 2

abbrev pub bit_count : TokenLimits → ℕ
bit_count limits = max 1 (8 * filter_bytes limits)

abbrev pub position_count : TokenLimits → ℕ
position_count limits = min 128 (max 1 limits.k_num)

-- the high bits folded in
abbrev pub folded : (shift z : ℕ) → ℕ
folded shift z = bit_xor z (z / 2 ^ shift)

-- the number of which splitmix64 makes its j-th word
abbrev pub stream_word : (fingerprint j : ℕ) → ℕ
stream_word fingerprint j = (fingerprint + j * 11400714819323198485) % 2 ^ 64

-- one round of splitmix64
abbrev pub mixed : (shift factor z : ℕ) → ℕ
mixed shift factor z = (folded shift z * factor) % 2 ^ 64

-- the j-th word of splitmix64 from a fingerprint on
abbrev pub hash_word : (fingerprint j : ℕ) → ℕ
hash_word fingerprint j = folded 31 (mixed 27 10723151780598845931 (mixed 30 13787848793156543929 (stream_word fingerprint j)))

-- the positions of a fingerprint among so many bits, from the n-th down to the first
abbrev pub positions_to : (bits fingerprint n : ℕ) → List ℕ
positions_to bits fingerprint zero = []
positions_to bits fingerprint (suc n) = (hash_word fingerprint (suc n) % bits) ∷ positions_to bits fingerprint n

-- all positions of a fingerprint in a bit filter
abbrev pub positions : TokenLimits → ℕ → List ℕ
positions limits fingerprint = positions_to (bit_count limits) fingerprint (position_count limits)

abbrev pub is_among : List ℕ → ℕ → Bool
is_among xs x = list_any (λ y. y == x) xs

-- A set refuses what it holds. A bit filter refuses a fingerprint whose positions are all positions of what it holds.
abbrev pub refuses : TokenLimits → TokenFilter → ℕ → Bool
refuses limits filter fingerprint =
    if filter.is_bits then list_all (is_among (flat_map (positions limits) filter.accepted)) (positions limits fingerprint)
    else is_among filter.accepted fingerprint

-- so many fingerprints, of 8 bytes each, are too long for a set
abbrev pub is_too_long : TokenLimits → ℕ → Bool
is_too_long limits count = nat_lt (filter_bytes limits) (8 * count)

-- the filter with a fingerprint that it didn't refuse: a set that is too long with it is a bit filter from then on
abbrev pub with_fingerprint : TokenLimits → TokenFilter → ℕ → TokenFilter
with_fingerprint limits filter fingerprint = record {
  accepted = fingerprint ∷ filter.accepted;
  is_bits = if filter.is_bits then true else is_too_long limits (length (fingerprint ∷ filter.accepted));
}
