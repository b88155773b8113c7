use Rattle.std.proofs.Common.{◌∙◌}
use Rattle.qh_buffers.proofs.PieceSteps.{sent_again_part, sent_again_whole}
use Rattle.qh_buffers.proofs.send_buffer.pieces.send_again.Goals as goal

pub returns-then-end-index-clause-ok : goal.returns-then-end-index-clause-ok
returns-then-end-index-clause-ok c =
    c.in_ok-insert.ensures.items ∙ sent_again_part c.args.pieces.now.items c.args.end c.args.place c.index.result.now c.requires c.index.ensures c.if-end-index.true

pub returns-clause-ok : goal.returns-clause-ok
returns-clause-ok c = sent_again_whole c.args.pieces.now.items c.args.end c.args.place c.index.result.now c.index_mut.result.now c.requires c.index.ensures c.index_mut.ensures.value c.if-end-index.false
