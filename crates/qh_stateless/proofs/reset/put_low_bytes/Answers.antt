use Rattle.std.proofs.Common.{◌%◌, [], ◌∷◌, arith}
use Rattle.qh_frame.proofs.FramesWritten.{appended}
use Rattle.qh_stateless.proofs.Resets.{one_drawn, one_word, then_drawn}
use Rattle.qh_stateless.proofs.reset.put_low_bytes.Goals as goal

pub loop-preserved : goal.loop-preserved
loop-preserved g c = (
  one_drawn (g.W.Words.given c.args.words.now) (g.W.Words.given c.loop.words) (g.W.Words.given c.next-word.new.self) c.args.out.now.items c.loop.out.items c.push.new.self.items c.loop.counter c.next-word.result
      c.loop.invariant.0 c.next-word.ensures
      (appended c.push.result c.loop.out.items c.push.new.self.items ((c.next-word.result % 256) ∷ []) c.if-is_err.ensures.value c.push.ensures.items),
  c.loop.invariant.1,
)

pub returns-then-is_err-clause-drawn : goal.returns-then-is_err-clause-drawn
returns-then-is_err-clause-drawn g c = let size = c.loop.invariant.0.count_is in then_drawn c.loop.counter 1 _ _ _ _ (omega arith) (c.loop.invariant.0.drawn, omega (arith, size), c.loop.invariant.0.given_are) (one_word 1 _ _ c.next-word.result (omega arith) c.next-word.ensures)

pub returns-clause-drawn : goal.returns-clause-drawn
returns-clause-drawn g c = let size = c.loop.invariant.0.count_is in (c.loop.invariant.0.drawn, omega (arith, size), c.loop.invariant.0.given_are)
