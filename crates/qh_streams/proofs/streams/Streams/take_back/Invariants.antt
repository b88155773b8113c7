use Rattle.std.proofs.Common.{◌≤◌, length}
use Rattle.qh_streams.proofs.TakenBack.{AreTakenSoFar}
use Rattle.qh_streams.proofs.streams.Streams.take_back.Given as goal

abbrev pub invariant-loop-sent : goal.invariant-loop-sent
invariant-loop-sent l = AreTakenSoFar l.before l.fn.self l.self l.fn.sent.items l.sent.items

abbrev pub decreases-loop-sent : goal.decreases-loop-sent
decreases-loop-sent l = goal.left-loop-sent l
