use Rattle.qh_handshake.proofs.FramesMade.{frames_made}
use Rattle.qh_handshake.proofs.laws.made_frames.Goals as goal

pub returns : goal.returns
returns c = λ now room old new frames is_eliciting padding made. frames_made now room old new frames is_eliciting made padding
