use Rattle.qh_h3wire.proofs.FramesWritten.{written_read}
use Rattle.qh_h3wire.proofs.frame.written_frames_are_read.Goals as goal

pub returns : goal.returns
returns c = written_read
