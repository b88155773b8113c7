use Rattle.std.proofs.Common.{subst, arith}
use Rattle.qh_exchange.specs.declared.input.Piece.{Piece}
use Rattle.qh_exchange.specs.Pieces.{ReadsPiece}
use Rattle.qh_exchange.proofs.Pieces.{read_more, read_long, unread_more, at_err}
use Rattle.qh_exchange.proofs.input.read_text.Goals as goal

pub returns-then-len-gt-MAX_SCRIPT-clause-text : goal.returns-then-len-gt-MAX_SCRIPT-clause-text
returns-then-len-gt-MAX_SCRIPT-clause-text g c =
    let piece = subst
    (λ (p : Piece). ReadsPiece p (g.S.Source.left c.loop-piece.source) (g.S.Source.left c.read_piece.new.source) c.loop-piece.text.items c.read_piece.new.text.items
    (g.S.Source.faults c.loop-piece.source) (g.S.Source.faults c.read_piece.new.source))
    c.in-Bytes.is c.in_ok-read_piece.ensures.piece in
    let long = c.if-len-gt-MAX_SCRIPT.true in
    let e = c.len.ensures in
    read_long _ _ _ _ _ _ (read_more _ _ _ _ _ _ _ _ _ c.loop-piece.invariant piece.0 piece.1) (omega (arith, e, long))

pub returns-in_err-read_piece-clause-unread : goal.returns-in_err-read_piece-clause-unread
returns-in_err-read_piece-clause-unread g c = at_err c.from_residual.result _ (unread_more _ _ _ _ _ _ _ _ c.loop-piece.invariant c.in_err-read_piece.ensures.unread)
