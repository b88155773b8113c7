use Rattle.std.proofs.Common.{◌≡◌, ◌++◌, length}
use Rattle.std.specs.Prelude.{replicate}
use Rattle.qh_frame.proofs.write.put_zeros.Given as goal

abbrev pub invariant-loop : goal.invariant-loop
invariant-loop l = (l.out.items ≡ l.initial.out.items ++ replicate l.counter 0) × (l.start ≡ length l.initial.out.items)
