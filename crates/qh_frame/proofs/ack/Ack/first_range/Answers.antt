use Rattle.std.proofs.Common.{arith}
use Rattle.qh_frame.proofs.Acks.{whole_fits}
use Rattle.qh_frame.proofs.ack.Ack.first_range.Goals as goal

pub overflow_sub-least : goal.overflow_sub-least
overflow_sub-least c =
    omega (arith, whole_fits c.args.self.now.greatest c.args.self.now.first c.args.self.now.pairs c.args.self.now.bytes.now c.args.self.now.whole, c.into_inner.ensures.value, c.into_inner-greatest.ensures.value)

pub returns-clause-least : goal.returns-clause-least
returns-clause-least c =
    omega (arith, whole_fits c.args.self.now.greatest c.args.self.now.first c.args.self.now.pairs c.args.self.now.bytes.now c.args.self.now.whole, c.into_inner.ensures.value, c.into_inner-greatest.ensures.value)
