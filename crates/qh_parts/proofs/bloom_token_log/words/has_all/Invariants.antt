use Rattle.std.proofs.Common.{◌≡◌, true}
use Rattle.std.specs.List.{list_all}
use Rattle.qh_spec.specs.TokenFilter.{positions_to}
use Rattle.qh_parts.specs.BitFilter.{has_bit}
use Rattle.qh_parts.proofs.bloom_token_log.words.has_all.Given as goal

abbrev pub invariant-loop-index : goal.invariant-loop-index
invariant-loop-index l = list_all (has_bit l.words) (positions_to l.bits l.fingerprint l.index) ≡ true
