use Rattle.std.proofs.Common.{◌≡◌, take}
use Rattle.std.specs.List.{flat_map}
use Rattle.qh_plain.specs.Carried.{ends_in}
use Rattle.qh_plain.proofs.carried.run_ends.Given as goal

abbrev pub invariant-loop-run : goal.invariant-loop-run
invariant-loop-run l = l.ends.items ≡ flat_map (ends_in l.stream) (take l.run-index l.runs)
