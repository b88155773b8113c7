use Rattle.qh_exchange.proofs.Pieces.{ReadSoFar}
use Rattle.qh_exchange.proofs.input.read_text.Given as goal

abbrev pub invariant-loop-piece : goal.invariant-loop-piece
invariant-loop-piece g l = ReadSoFar (g.S.Source.left l.fn.source) (g.S.Source.left l.source) l.text.items (g.S.Source.faults l.fn.source) (g.S.Source.faults l.source) l._piece
