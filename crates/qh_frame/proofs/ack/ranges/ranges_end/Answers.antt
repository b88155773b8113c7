use Rattle.std.proofs.Common.{◌+◌, ◌-◌, refl, arith}
use Rattle.qh_frame.proofs.Acks.{at_gap, at_range, at_low, at_step, at_last, at_last_low}
use Rattle.qh_frame.proofs.ack.ranges.ranges_end.Goals as goal

pub loop-preserved : goal.loop-preserved
loop-preserved c = (
  at_step _ c.loop.greatest c.loop.range (c.args.pairs - c.loop.counter) (c.args.pairs - (c.loop.counter + 1)) c.in-Some.gap c.in-Some-value_of.next (2 + c.in-Some.gap + c.loop.range)
      c.loop.rest.now c.in-Some.more.now c.in-Some-value_of.more.now c.loop.invariant.0 (omega (arith, c.loop-test.true)) c.in-Some.ensures.exact c.in-Some-value_of.ensures.exact refl
      c.if-greatest-below.false,
  c.in-Some-value_of.ensures.bound,
)

pub returns-then-greatest-below : goal.returns-then-greatest-below
returns-then-greatest-below c =
    at_low _ c.loop.greatest c.loop.range (c.args.pairs - c.loop.counter) (c.args.pairs - (c.loop.counter + 1)) c.in-Some.gap c.in-Some-value_of.next
    c.loop.rest.now c.in-Some.more.now c.in-Some-value_of.more.now c.loop.invariant.0 (omega (arith, c.loop-test.true)) c.in-Some.ensures.exact c.in-Some-value_of.ensures.exact
    c.if-greatest-below.true

pub returns-in_default : goal.returns-in_default
returns-in_default c =
    at_gap _ c.loop.greatest c.loop.range (c.args.pairs - c.loop.counter) (c.args.pairs - (c.loop.counter + 1)) c.loop.rest.now c.loop.invariant.0 (omega (arith, c.loop-test.true)) c.in_default.ensures.exact

pub returns-in_default-value_of : goal.returns-in_default-value_of
returns-in_default-value_of c =
    at_range _ c.loop.greatest c.loop.range (c.args.pairs - c.loop.counter) (c.args.pairs - (c.loop.counter + 1)) c.in-Some.gap c.loop.rest.now c.in-Some.more.now c.loop.invariant.0 (omega (arith, c.loop-test.true))
    c.in-Some.ensures.exact c.in_default-value_of.ensures.exact

pub returns-then-greatest-range : goal.returns-then-greatest-range
returns-then-greatest-range c =
    at_last_low _ c.loop.greatest c.loop.range (c.args.pairs - c.loop.counter) c.loop.rest.now c.loop.invariant.0 (omega arith) c.if-greatest-range.true

pub returns : goal.returns
returns c =
    at_last _ c.loop.greatest c.loop.range (c.args.pairs - c.loop.counter) c.loop.rest.now c.loop.invariant.0 (omega arith) c.if-greatest-range.false
