use Rattle.std.proofs.Common.{take}
use Rattle.qh_plain.proofs.CarriedReads.{RunsRead}
use Rattle.qh_plain.proofs.carried.all_runs.Given as goal

abbrev pub invariant-loop-datagram : goal.invariant-loop-datagram
invariant-loop-datagram l = RunsRead l.id_length (take l.datagram-index l.datagrams) l.sender l.runs.items
