use Rattle.std.proofs.Common.{◌≡◌, ◌++◌, take}
use Rattle.std.specs.List.{flat_map}
use Rattle.qh_plain.specs.Carried.{runs_of}
use Rattle.qh_plain.proofs.carried.push_packets.Given as goal

abbrev pub invariant-loop-packet : goal.invariant-loop-packet
invariant-loop-packet l = l.runs.items ≡ l.fn.runs.items ++ flat_map (runs_of l.sender) (take l.packet-index l.packets)
