use Rattle.std.proofs.Common.{take}
use Rattle.qh_plain.specs.Placed.{IsEmptyAt}
use Rattle.qh_plain.proofs.messages.placed.byte_at.Given as goal

-- none so far
abbrev pub invariant-loop-at : goal.invariant-loop-at
invariant-loop-at l = IsEmptyAt (take l.at-index l.placed) l.offset
