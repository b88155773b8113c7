use Rattle.qh_halves.specs.RecvHalves.{AreRecvAdded}
use Rattle.qh_halves.proofs.recv_halves.RecvHalves.insert_range.Given as goal

abbrev pub invariant-loop-i : goal.invariant-loop-i
invariant-loop-i l = AreRecvAdded l.fn.self l.self l.first l.i
