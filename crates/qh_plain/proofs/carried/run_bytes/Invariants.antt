use Rattle.std.proofs.Common.{◌≡◌, take}
use Rattle.std.specs.List.{flat_map}
use Rattle.qh_plain.specs.Carried.{bytes_in}
use Rattle.qh_plain.proofs.carried.run_bytes.Given as goal

abbrev pub invariant-loop-run : goal.invariant-loop-run
invariant-loop-run l = l.bytes.items ≡ flat_map (bytes_in l.stream) (take l.run-index l.runs)
