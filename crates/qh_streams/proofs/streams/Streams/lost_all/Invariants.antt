use Rattle.qh_streams.specs.Streams.{AreLost}
use Rattle.qh_streams.proofs.StreamsSettledAll.{AreSoFar}
use Rattle.qh_streams.proofs.streams.Streams.lost_all.Given as goal

abbrev pub invariant-loop-frame : goal.invariant-loop-frame
invariant-loop-frame l = AreSoFar AreLost l.fn.self l.self l.fn.frames.items l.yielded l.frame-iterator.rest.items
