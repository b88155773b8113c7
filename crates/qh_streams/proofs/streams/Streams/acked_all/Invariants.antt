use Rattle.qh_streams.proofs.ItemLogs.{AreConfirmedSoFar}
use Rattle.qh_streams.proofs.streams.Streams.acked_all.Given as goal

abbrev pub invariant-loop-frame : goal.invariant-loop-frame
invariant-loop-frame l = AreConfirmedSoFar l.fn.self l.self l.fn.log l.log l.fn.frames.items l.yielded l.frame-iterator.rest.items
