use Rattle.qh_exchange.proofs.Pieces.{WrittenSoFar}
use Rattle.qh_exchange.proofs.output.write_text.Given as goal

abbrev pub invariant-loop-piece : goal.invariant-loop-piece
invariant-loop-piece g l =
    WrittenSoFar l.text l.rest (g.K.Sink.written l.fn.sink) (g.K.Sink.written l.sink) (g.K.Sink.faults l.fn.sink) (g.K.Sink.faults l.sink) l._piece
