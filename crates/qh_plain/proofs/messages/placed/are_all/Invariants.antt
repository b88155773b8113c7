use Rattle.std.proofs.Common.{◌≡◌, ℕ, take}
use Rattle.std.specs.List.{AllByRecursion}
use Rattle.qh_plain.proofs.messages.placed.are_all.Given as goal

-- the ends so far
abbrev pub invariant-loop-other : goal.invariant-loop-other
invariant-loop-other l = AllByRecursion (λ (other : ℕ). other ≡ l.end) (take l.other-index l.ends)
