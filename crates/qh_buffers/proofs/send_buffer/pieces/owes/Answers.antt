use Rattle.std.proofs.Common.{sym, arith}
use Rattle.qh_buffers.proofs.PieceSteps.{none_owed_at}
use Rattle.qh_buffers.proofs.send_buffer.pieces.owes.Goals as goal

pub returns : goal.returns
returns c = sym (none_owed_at c.args.start c.args.end c.args.pieces.now.items c.place_of-place.result c.place_of-place-end.result c.place_of-place.ensures.before c.place_of-place-end.ensures.behind
    (λ j d low high. c.loop-place.invariant j d low (omega arith)))
