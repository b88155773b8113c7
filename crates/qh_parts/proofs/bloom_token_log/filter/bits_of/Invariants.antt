use Rattle.std.proofs.Common.{◌≡◌, ℕ, map, flat_map}
use Rattle.std.specs.Map.Iter.{deref}
use Rattle.qh_spec.specs.TokenFilter.{positions, is_among}
use Rattle.qh_parts.specs.BitFilter.{has_bit}
use Rattle.qh_parts.specs.Filter.{limits_of}
use Rattle.qh_parts.proofs.bloom_token_log.filter.bits_of.Given as goal

abbrev pub invariant-loop-fingerprint : goal.invariant-loop-fingerprint
invariant-loop-fingerprint l = record {
  bits : l.filter.bits ≡ l.bits;
  set : (p : ℕ) → has_bit l.filter.words.items p ≡ is_among (flat_map (positions (limits_of l.fn.config)) (map deref l.yielded)) p;
}
