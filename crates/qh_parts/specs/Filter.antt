-- What a filter of a log keeps of the filter of the definition.
use Rattle.std.specs.Prelude.{◌≡◌, ℕ, true, false, length, flat_map, Result, Ok, Err, Option, Some, None}
use Rattle.std.specs.Ordering.{nat_cmp}
use Rattle.std.specs.BTreeSet.{BTreeSet, btree_set_len, contains}
use Rattle.qh_spec.specs.TokenFilter.{TokenLimits, TokenFilter, empty_filter, bit_count, positions, is_among, refuses, with_fingerprint}
use Rattle.qh_parts.specs.declared.bloom_token_log.filter.FilterConfig.{FilterConfig}
use Rattle.qh_parts.specs.declared.bloom_token_log.filter.Filter.{Filter}
use Rattle.qh_parts.specs.declared.bloom_token_log.filter.Filter.TheVariants.{Empty, Set, Bits}
use Rattle.qh_parts.specs.declared.bloom_token_log.bit_filter.BitFilter.{BitFilter}
use Rattle.qh_parts.specs.declared.token_log.TokenFault.{TokenFault}
use Rattle.qh_parts.specs.declared.token_log.TokenFault.TheVariants.{Reused, Memory}
use Rattle.qh_parts.specs.BitFilter.{has_bit}

abbrev pub limits_of : FilterConfig → TokenLimits
limits_of config = record { max_bytes = config.max_bytes; k_num = config.k_num }

-- The set holds just the fingerprints that were accepted, each once.
pub record IsSetOf (set : BTreeSet ℕ) (filter : TokenFilter) : Type 0 where
  pub is_set : filter.is_bits ≡ false
  pub same : (x : ℕ) → contains nat_cmp set x ≡ is_among filter.accepted x
  pub count : btree_set_len set ≡ length filter.accepted

-- A bit is set exactly where it is a position of a fingerprint that was accepted.
pub record IsBitsOf (limits : TokenLimits) (kept : BitFilter) (filter : TokenFilter) : Type 0 where
  pub is_bits : filter.is_bits ≡ true
  pub bits : kept.bits ≡ bit_count limits
  pub same : (p : ℕ) → has_bit kept.words.items p ≡ is_among (flat_map (positions limits) filter.accepted) p

abbrev pub IsKept : TokenLimits → Filter → TokenFilter → Type 0
IsKept limits Empty filter = filter ≡ empty_filter
IsKept limits (Set set) filter = IsSetOf set filter
IsKept limits (Bits bits) filter = IsBitsOf limits bits filter

-- The filter took a fingerprint, or refused it, or a set would have taken it if there had been memory.
abbrev pub IsSeen : TokenLimits → TokenFilter → ℕ → Result (Unit {0}) TokenFault → (TokenFilter → Type 0) → Type 0
IsSeen limits filter fingerprint (Ok done) Next = (refuses limits filter fingerprint ≡ false) × Next (with_fingerprint limits filter fingerprint)
IsSeen limits filter fingerprint (Err Reused) Next = (refuses limits filter fingerprint ≡ true) × Next filter
IsSeen limits filter fingerprint (Err Memory) Next = (refuses limits filter fingerprint ≡ false) × (filter.is_bits ≡ false) × Next filter

-- The same of a set, which answers the bit filter that stands in its place from then on, where it is too long.
abbrev pub IsSeenBySet : TokenLimits → TokenFilter → ℕ → BTreeSet ℕ → Result (Option BitFilter) TokenFault → Type 0
IsSeenBySet limits filter fingerprint set (Ok None) = (refuses limits filter fingerprint ≡ false) × IsSetOf set (with_fingerprint limits filter fingerprint)
IsSeenBySet limits filter fingerprint set (Ok (Some bits)) = (refuses limits filter fingerprint ≡ false) × IsBitsOf limits bits (with_fingerprint limits filter fingerprint)
IsSeenBySet limits filter fingerprint set (Err Reused) = (refuses limits filter fingerprint ≡ true) × IsSetOf set filter
IsSeenBySet limits filter fingerprint set (Err Memory) = (refuses limits filter fingerprint ≡ false) × IsSetOf set filter
