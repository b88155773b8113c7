use Rattle.std.proofs.Common.{◌≡◌, ◌||◌, ℕ}
use Rattle.qh_spec.specs.TokenFilter.{positions_to, is_among}
use Rattle.qh_parts.specs.BitFilter.{has_bit}
use Rattle.qh_parts.proofs.bloom_token_log.words.set_all.Given as goal

abbrev pub invariant-loop-index : goal.invariant-loop-index
invariant-loop-index l =
    (p : ℕ) → has_bit l.words p ≡ (is_among (positions_to l.bits l.fingerprint l.index) p || has_bit l.initial.words p)
