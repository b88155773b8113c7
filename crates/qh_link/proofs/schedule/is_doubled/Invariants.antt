use Rattle.std.proofs.Common.{◌≡◌, false, take}
use Rattle.std.specs.List.{list_any}
use Rattle.qh_spec.specs.Schedule.{doubles}
use Rattle.qh_link.proofs.schedule.is_doubled.Given as goal

abbrev pub invariant-loop-upset : goal.invariant-loop-upset
invariant-loop-upset l = list_any (doubles l.number) (take l.upset-index l.schedule) ≡ false
