use Rattle.std.proofs.Common.{◌≡◌, ◌++◌, take, length}
use Rattle.qh_frame.specs.FrameBytes.{numbers_bytes}
use Rattle.qh_frame.proofs.write.put_numbers.Given as goal

abbrev pub invariant-loop-n : goal.invariant-loop-n
invariant-loop-n l =
    (l.out.items ≡ l.initial.out.items ++ numbers_bytes (take l.n-index l.numbers)) × (l.start ≡ length l.initial.out.items)
