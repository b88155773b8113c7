use Rattle.std.proofs.Common.{◌∙◌, arith}
use Rattle.qh_buffers.proofs.PieceSteps.{marks_none, marks_more, marks_all}
use Rattle.qh_buffers.proofs.send_buffer.pieces.mark_between.Goals as goal

pub loop-place-init : goal.loop-place-init
loop-place-init c = marks_none c.args.mark c.args.start c.args.end c.args.pieces.now.items c.place_of-first.result c.place_of-first.ensures.before

pub loop-place-preserved : goal.loop-place-preserved
loop-place-preserved c =
    marks_more c.args.mark c.args.start c.args.end c.args.pieces.now.items c.loop-place.pieces.items c.loop-place.place c.index_mut-piece.result.now c.marked-piece.result
    (omega (arith, c.place_of-place-end.ensures.bound)) (c.place_of-first.ensures.behind _ _ (omega arith) (omega arith)) (c.place_of-place-end.ensures.before _ _ (omega arith) (omega arith))
    c.loop-place.invariant c.index_mut-piece.ensures.value c.marked-piece.ensures

pub returns-clause-marks : goal.returns-clause-marks
returns-clause-marks c =
    c.loop-place.invariant ∙ marks_all c.args.mark c.args.start c.args.end c.args.pieces.now.items c.loop-place.place
    (λ k d low high. c.place_of-place-end.ensures.behind k d (omega arith) high)
