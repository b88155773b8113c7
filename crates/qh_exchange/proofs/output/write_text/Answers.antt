use Rattle.std.proofs.Common.{arith}
use Rattle.qh_exchange.proofs.Pieces.{written_more, written_all, written_cut}
use Rattle.qh_exchange.proofs.Unbuilt.{no_length}
use Rattle.qh_exchange.proofs.output.write_text.Goals as goal

pub returns-then-is_empty : goal.returns-then-is_empty
returns-then-is_empty g c = written_all _ _ _ _ _ _ _ c.loop-piece.invariant (no_length _ c.if-is_empty.ensures)

pub returns : goal.returns
returns g c = written_all _ _ _ _ _ _ _ c.loop-piece.invariant (let few = c.loop-piece.invariant.few in omega arith)

pub returns-in_default : goal.returns-in_default
returns-in_default g c = written_cut _ _ _ _ _ _ _ _ _ c.loop-piece.invariant c.in_default.ensures.none c.in_default.ensures.fault

pub loop-piece-preserved : goal.loop-piece-preserved
loop-piece-preserved g c =
    rw c.split_at.ensures.back
    (written_more _ _ _ _ _ _ _ _ _ c.in-Some.len c.loop-piece.invariant c.in-Some.ensures.some c.in-Some.ensures.fits c.in-Some.ensures.bytes c.in-Some.ensures.stays)
