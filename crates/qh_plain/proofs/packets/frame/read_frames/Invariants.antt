use Rattle.std.proofs.Common.{length}
use Rattle.qh_plain.proofs.FrameReads.{FramesRead}
use Rattle.qh_plain.proofs.packets.frame.read_frames.Given as goal

abbrev pub invariant-loop-rest : goal.invariant-loop-rest
invariant-loop-rest l = FramesRead l.bytes l.rest l.frames.items

abbrev pub decreases-loop-rest : goal.decreases-loop-rest
decreases-loop-rest l = length l.rest
