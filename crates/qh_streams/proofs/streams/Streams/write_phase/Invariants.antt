use Rattle.std.proofs.Common.{◌-◌, length}
use Rattle.qh_streams.proofs.PhasesWritten.{IsPhaseSoFar}
use Rattle.qh_streams.proofs.streams.Streams.write_phase.Given as goal

abbrev pub invariant-loop-sent : goal.invariant-loop-sent
invariant-loop-sent l = IsPhaseSoFar l.phase l.most l.room l.fn.self l.self l.fn.out.items l.out.items l.fn.sent.items l.sent.items

abbrev pub decreases-loop-sent : goal.decreases-loop-sent
decreases-loop-sent l = l.room - (length l.out.items - length l.fn.out.items)
