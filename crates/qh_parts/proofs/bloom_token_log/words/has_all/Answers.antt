use Rattle.std.proofs.Common.{sym, ◌∙◌, ap, arith}
use Rattle.qh_parts.specs.BitFilter.{has_bit}
use Rattle.qh_parts.proofs.Bits.{fails_beyond}
use Rattle.qh_parts.proofs.bloom_token_log.words.has_all.Goals as goal

pub returns-then-not-has_bit : goal.returns-then-not-has_bit
returns-then-not-has_bit c =
    sym (fails_beyond c.args.words.now c.args.bits c.args.fingerprint c.loop-index.index c.args.count (omega arith)
    (ap (has_bit c.args.words.now) (sym c.position.ensures.value) ∙ sym c.has_bit.ensures ∙ c.if-not-has_bit.true))
