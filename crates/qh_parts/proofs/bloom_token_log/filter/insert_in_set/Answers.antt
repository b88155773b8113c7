use Rattle.std.proofs.Common.{◌≡◌, ◌+◌, suc, length, sym, ap, ◌∙◌, arith}
use Rattle.qh_spec.specs.TokenFilter.{is_too_long}
use Rattle.qh_parts.specs.Filter.{limits_of}
use Rattle.qh_parts.proofs.Members.{contains_is, is_among-flat_map}
use Rattle.qh_parts.proofs.Positions.{set_first}
use Rattle.qh_parts.proofs.bloom_token_log.filter.insert_in_set.Goals as goal

pub returns-then-is_too_long : goal.returns-then-is_too_long
returns-then-is_too_long c = λ f kept.
    let limits = limits_of c.args.config in
    let count : c.len.result + 1 ≡ suc (length f.accepted) = omega (arith, kept.count, c.len.ensures.len) in (
      rw kept.is_set (sym (kept.same c.args.fingerprint) ∙ sym c.contains.ensures ∙ c.if-contains.false),
      record {
        is_bits = rw kept.is_set (ap (is_too_long limits) (sym count) ∙ sym c.is_too_long.ensures ∙ c.if-is_too_long.true);
        bits = c.insert.ensures.bits ∙ c.in_ok-filter.ensures.bits;
        same = λ p.
            set_first limits f.accepted c.args.fingerprint p _ _ _ _ c.in_ok-filter.ensures.bits c.position_count.ensures (c.insert.ensures.set p)
            (c.in_ok-filter.ensures.set p ∙ is_among-flat_map _ c.args.set.now.keys f.accepted p (λ x. sym (contains_is x c.args.set.now.keys) ∙ kept.same x));
      },
    )
