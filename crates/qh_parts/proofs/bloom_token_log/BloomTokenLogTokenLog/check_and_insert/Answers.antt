use Rattle.std.proofs.Common.{◌≡◌, false, refl, sym, ◌∙◌, arith}
use Rattle.qh_spec.specs.TokenLog.{Token, is_stale, moved}
use Rattle.qh_parts.specs.BloomTokenLog.{log_limits}
use Rattle.qh_parts.proofs.Looks.{is_fresh, second_takes, first_takes}
use Rattle.qh_parts.proofs.bloom_token_log.BloomTokenLogTokenLog.check_and_insert.Goals as goal

pub returns-then-turn_over-clause-answers : goal.returns-then-turn_over-clause-answers
returns-then-turn_over-clause-answers c = λ l stands.
    let t : Token = record { nonce = c.args.nonce; issued = c.args.issued.0; lifetime = c.args.lifetime.0 } in
    let fresh : is_stale l t ≡ false = is_fresh l t (omega arith) (omega (arith, stands.start)) in
    let at = c.turn_over.ensures.moves l t stands (omega arith) refl in
    second_takes (log_limits c.args.self.now) c.turn_over.new.self c.check_and_insert.new.self l t _ c.check_and_insert.result c.turn_over.ensures.limits
    at.0 fresh c.fingerprint_of-fingerprint.ensures (sym at.1 ∙ c.if-turn_over.true) (c.check_and_insert.ensures (moved l t).second at.0.second)

pub returns-else-turn_over-clause-answers : goal.returns-else-turn_over-clause-answers
returns-else-turn_over-clause-answers c = λ l stands.
    let t : Token = record { nonce = c.args.nonce; issued = c.args.issued.0; lifetime = c.args.lifetime.0 } in
    let fresh : is_stale l t ≡ false = is_fresh l t (omega arith) (omega (arith, stands.start)) in
    let at = c.turn_over.ensures.moves l t stands (omega arith) refl in
    first_takes (log_limits c.args.self.now) c.turn_over.new.self c.check_and_insert-else-turn_over.new.self l t _ c.check_and_insert-else-turn_over.result c.turn_over.ensures.limits
    at.0 fresh c.fingerprint_of-fingerprint.ensures (sym at.1 ∙ c.if-turn_over.false) (c.check_and_insert-else-turn_over.ensures (moved l t).first at.0.first)
