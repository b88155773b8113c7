use Rattle.qh_frame.proofs.FramesWritten.{padding_frames}
use Rattle.qh_frame.proofs.put.put_padding.Goals as goal

pub returns-clause-frames : goal.returns-clause-frames
returns-clause-frames c = λ rest fs are. padding_frames c.args.count rest fs are
