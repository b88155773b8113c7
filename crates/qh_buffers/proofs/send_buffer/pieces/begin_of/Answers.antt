use Rattle.qh_buffers.proofs.Pieces.{begin_read}
use Rattle.qh_buffers.proofs.send_buffer.pieces.begin_of.Goals as goal

pub returns : goal.returns
returns c = begin_read c.args.pieces.now.items c.args.start c.args.place c.index.result.now c.if-place-eq0.false c.requires c.index.ensures
