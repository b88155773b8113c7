use Rattle.qh_script.proofs.Spaces.{no_space_more, parted}
use Rattle.qh_script.proofs.line.words.split_first.Goals as goal

pub returns-then-byte-eq32 : goal.returns-then-byte-eq32
returns-then-byte-eq32 c = (parted c.args.text.now c.loop-i.i c.loop-i-test.true c.if-byte-eq32.true, c.loop-i.invariant)

pub loop-i-preserved : goal.loop-i-preserved
loop-i-preserved c = no_space_more c.args.text.now c.loop-i.i c.loop-i-test.true c.loop-i.invariant c.if-byte-eq32.false
