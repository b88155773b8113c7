use Rattle.std.proofs.Common.{◌≡◌, ◌++◌, drop}
use Rattle.qh_spec.specs.Schedule.{forged}
use Rattle.qh_link.proofs.schedule.forged.Given as goal

abbrev pub invariant-loop-upset : goal.invariant-loop-upset
invariant-loop-upset l =
    l.datagrams.items ++ forged (drop l.upset-index l.schedule) l.round l.side ≡ forged l.schedule l.round l.side
