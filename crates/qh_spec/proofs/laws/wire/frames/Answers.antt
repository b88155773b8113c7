use Rattle.qh_spec.proofs.FrameLaws.{quic_frames_agree, quic_frame_agrees}
use Rattle.qh_spec.proofs.FrameRows.{unknown_none, ping_may, stream_may_not, initial_frames, views}
use Rattle.qh_spec.proofs.StreamViews.{stream_there, stream_back}
use Rattle.qh_spec.proofs.WrittenFrames.{stream_written, hi_is, cut_stream_none}
use Rattle.qh_spec.proofs.laws.wire.frames.Goals as goal

pub returns-clause-list : goal.returns-clause-list
returns-clause-list c = quic_frames_agree

pub returns-clause-one : goal.returns-clause-one
returns-clause-one c = λ bytes x y f g p q. quic_frame_agrees bytes f g x y p q

pub returns-clause-stream : goal.returns-clause-stream
returns-clause-stream c = stream_there

pub returns-clause-stream_back : goal.returns-clause-stream_back
returns-clause-stream_back c = stream_back

pub returns-clause-stream_written : goal.returns-clause-stream_written
returns-clause-stream_written c = stream_written

pub returns-clause-stream_row : goal.returns-clause-stream_row
returns-clause-stream_row c = hi_is

pub returns-clause-near_stream_row : goal.returns-clause-near_stream_row
returns-clause-near_stream_row c = cut_stream_none

pub returns-clause-near_row : goal.returns-clause-near_row
returns-clause-near_row c = unknown_none

pub returns-clause-initial_row : goal.returns-clause-initial_row
returns-clause-initial_row c = ping_may

pub returns-clause-near_initial_row : goal.returns-clause-near_initial_row
returns-clause-near_initial_row c = stream_may_not

pub returns-clause-view_row : goal.returns-clause-view_row
returns-clause-view_row c = views

pub returns-clause-initial_frames_row : goal.returns-clause-initial_frames_row
returns-clause-initial_frames_row c = initial_frames
