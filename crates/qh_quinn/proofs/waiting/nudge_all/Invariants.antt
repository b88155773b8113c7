use Rattle.std.proofs.Common.{◌≡◌}
use Rattle.qh_quinn.proofs.WaitingLists.{nudged_front}
use Rattle.qh_quinn.proofs.waiting.nudge_all.Given as goal

abbrev pub invariant-loop-at : goal.invariant-loop-at
invariant-loop-at l = l.waiting ≡ nudged_front l.at l.fn.waiting
