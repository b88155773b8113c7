use Rattle.qh_plain.proofs.FrameReads.{no_kind}
use Rattle.qh_plain.proofs.packets.frame.Frame.read.Goals as goal

pub returns-in_default-clause-none : goal.returns-in_default-clause-none
returns-in_default-clause-none c = no_kind c.args.bytes.now c.in_default.ensures.none
