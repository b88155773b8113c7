use Rattle.std.proofs.Common.{rules}
use Rattle.qh_h3.specs.Buffers.{held_of}
use Rattle.qh_h3.proofs.Moving.{ended_again}
use Rattle.qh_h3.proofs.frame.poll.take_piece.Goals as goal

pub returns-then-buffer-clause-piece : goal.returns-then-buffer-clause-piece
returns-then-buffer-clause-piece g c =
    ended_again (g.R.Stream.received c.args.stream.now c.args.at.now) (g.R.Stream.counts c.args.stream.now c.args.at.now) (held_of c.args.buffer.now) c.if-buffer.true
