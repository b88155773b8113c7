use Rattle.std.proofs.Common.{refl}
use Rattle.std.specs.Prelude.{slice_index_or}
use Rattle.qh_plain.proofs.Placed.{read_again, one_elsewhere, here_placed, nowhere_placed}
use Rattle.qh_plain.proofs.messages.placed.byte_at.Goals as goal

pub returns-then-at-offset : goal.returns-then-at-offset
returns-then-at-offset c =
    let p = slice_index_or c.args.placed.now c.loop-at.at-index (0, 0) in
    here_placed c.args.placed.now c.loop-at.at-index c.args.offset p.1 p c.loop-at-test.true (read_again c.args.placed.now c.loop-at.at-index (0, 0) c.loop-at-test.true) c.if-at-offset.true refl

pub loop-at-preserved : goal.loop-at-preserved
loop-at-preserved c =
    let p = slice_index_or c.args.placed.now c.loop-at.at-index (0, 0) in
    one_elsewhere c.args.placed.now c.loop-at.at-index c.args.offset p c.loop-at-test.true (read_again c.args.placed.now c.loop-at.at-index (0, 0) c.loop-at-test.true) c.if-at-offset.false c.loop-at.invariant

pub returns : goal.returns
returns c = nowhere_placed c.args.placed.now c.loop-at.at-index c.args.offset c.loop-at-test.false c.loop-at.invariant
