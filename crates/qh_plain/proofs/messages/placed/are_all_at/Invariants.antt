use Rattle.std.proofs.Common.{take}
use Rattle.std.specs.List.{AllByRecursion}
use Rattle.qh_plain.specs.Placed.{IsAt}
use Rattle.qh_plain.proofs.messages.placed.are_all_at.Given as goal

-- the bytes so far
abbrev pub invariant-loop-offset : goal.invariant-loop-offset
invariant-loop-offset l = AllByRecursion (IsAt l.bytes) (take l.offset-index l.placed)
