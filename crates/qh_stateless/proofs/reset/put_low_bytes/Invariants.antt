use Rattle.std.proofs.Common.{◌≡◌, length}
use Rattle.qh_stateless.proofs.Resets.{IsDrawn}
use Rattle.qh_stateless.proofs.reset.put_low_bytes.Given as goal

abbrev pub invariant-loop : goal.invariant-loop
invariant-loop g l = IsDrawn (g.W.Words.given l.initial.words) (g.W.Words.given l.words) l.initial.out.items l.out.items l.counter × (l.start ≡ length l.initial.out.items)
