use Rattle.qh_h3wire.proofs.FramesWritten.{one_frame}
use Rattle.qh_h3wire.proofs.frame.payloads_mean_one_frame.Goals as goal

pub returns : goal.returns
returns c = one_frame
