use Rattle.std.proofs.Common.{rules, ◌≡◌, ap, sym, ◌∙◌, arith}
use Rattle.std.proofs.lemmas.Bool.{false≢true}
use Rattle.qh_buffers.specs.declared.send_buffer.Piece.{Piece}
use Rattle.qh_buffers.specs.declared.send_buffer.Mark.TheVariants.{Queued}
use Rattle.qh_buffers.proofs.QueuedPieces.{found_queued, passed_queued, first_queued_within}
use Rattle.qh_buffers.proofs.send_buffer.pieces.next_queued.Goals as goal

pub returns-then-eq : goal.returns-then-eq
returns-then-eq c =
    let is : c.index.result.now.mark ≡ Queued = search rules in
    found_queued c.args.pieces.now.items c.loop-place.place c.index.result.now c.loop-place.invariant (omega arith)
    (sym (ap (λ (p : Piece). p.mark) c.index.ensures) ∙ is)

pub loop-place-preserved : goal.loop-place-preserved
loop-place-preserved c =
    passed_queued c.args.pieces.now.items c.loop-place.place c.index.result.now c.loop-place.invariant (omega arith)
    (λ h. let is : c.index.result.now.mark ≡ Queued = ap (λ (p : Piece). p.mark) c.index.ensures ∙ h in let e = rw is at c.eq.ensures in false≢true (sym c.if-eq.false ∙ e))

pub returns : goal.returns
returns c = let top = first_queued_within c.args.pieces.now.items in omega arith
