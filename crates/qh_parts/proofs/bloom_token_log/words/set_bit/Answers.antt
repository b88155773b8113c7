use Rattle.qh_parts.proofs.Bits.{has_bit-set}
use Rattle.qh_parts.proofs.bloom_token_log.words.set_bit.Goals as goal

pub returns : goal.returns
returns c = λ p. has_bit-set c.args.words.now c.args.position p c.requires
