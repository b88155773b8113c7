use Rattle.std.proofs.Common.{◌≡◌, ◌≤◌, take, fold}
use Rattle.qh_spec.specs.Schedule.{delay_by}
use Rattle.qh_link.proofs.schedule.delay_of.Given as goal

abbrev pub invariant-loop-upset : goal.invariant-loop-upset
invariant-loop-upset l = (l.delay ≡ fold (delay_by l.number) 0 (take l.upset-index l.schedule)) × (l.delay ≤ 1000)
