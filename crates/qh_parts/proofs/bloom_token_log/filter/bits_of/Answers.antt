use Rattle.std.proofs.Common.{◌≡◌, ap, ◌∙◌, map, flat_map, rules}
use Rattle.std.specs.Map.Iter.{deref}
use Rattle.std.proofs.lemmas.List.{map-append}
use Rattle.std.proofs.lemmas.Map.Iter.{iter_end}
use Rattle.qh_spec.specs.TokenFilter.{positions, is_among}
use Rattle.qh_parts.specs.Filter.{limits_of}
use Rattle.qh_parts.proofs.Positions.{set_last}
use Rattle.qh_parts.proofs.bloom_token_log.filter.bits_of.Goals as goal

pub loop-fingerprint-preserved : goal.loop-fingerprint-preserved
loop-fingerprint-preserved c = record {
  bits = c.insert.ensures.bits ∙ c.loop-fingerprint.invariant.bits;
  set = λ p.
      rw map-append
      (set_last (limits_of c.args.config) (map deref c.loop-fingerprint.yielded) c.in-Some-fingerprint.fingerprint.now p _ _ _ _
      (c.loop-fingerprint.invariant.bits ∙ c.in-Some.ensures) c.position_count-count.ensures (c.insert.ensures.set p) (c.loop-fingerprint.invariant.set p));
}

pub returns-clause-set : goal.returns-clause-set
returns-clause-set c =
    let e : map deref c.loop-fingerprint.yielded ≡ c.args.set.now.keys = search (rules, iter_end) in
    λ p. c.loop-fingerprint.invariant.set p ∙ ap (λ ks. is_among (flat_map (positions (limits_of c.args.config)) ks) p) e
