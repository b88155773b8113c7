use Rattle.std.proofs.Common.{arith}
use Rattle.qh_plain.proofs.TagReads.{key_from, key_back}
use Rattle.qh_plain.proofs.packets.tag.has_key.Goals as goal

pub returns-then-zero_from : goal.returns-then-zero_from
returns-then-zero_from c = (
  λ t. key_from c.args.front.now c.args.back.now c.args.key_length c.min-in_front.result c.requires.front c.requires.back (omega arith) c.min-in_front.ensures
      (c.zero_from.ensures.0 c.if-zero_from.true) (c.zero_from-then-zero_from.ensures.0 t),
  λ k. c.zero_from-then-zero_from.ensures.1 (key_back c.args.front.now c.args.back.now c.args.key_length c.min-in_front.result c.requires.back c.min-in_front.ensures k),
)
