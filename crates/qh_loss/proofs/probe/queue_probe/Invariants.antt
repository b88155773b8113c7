use Rattle.std.proofs.Common.{◌-◌, ◌^◌}
use Rattle.qh_loss.proofs.ProbeQueued.{IsWalked}
use Rattle.qh_loss.proofs.probe.queue_probe.Given as goal

abbrev pub invariant-loop-number : goal.invariant-loop-number
invariant-loop-number l = IsWalked l.fn.streams l.streams l.sent l.at

abbrev pub decreases-loop-number : goal.decreases-loop-number
decreases-loop-number l = 2 ^ 64 - l.at
