use Rattle.qh_spec.proofs.FrameRows.{headers_is, cut_none}
use Rattle.qh_spec.proofs.HttpFrameLaws.{no_prefix, frames_are_one}
use Rattle.qh_spec.proofs.WrittenFrames.{http_written}
use Rattle.qh_spec.proofs.laws.wire.http_frames.Goals as goal

pub returns-clause-prefix_free : goal.returns-clause-prefix_free
returns-clause-prefix_free c = no_prefix

pub returns-clause-list : goal.returns-clause-list
returns-clause-list c = frames_are_one

pub returns-clause-written : goal.returns-clause-written
returns-clause-written c = http_written

pub returns-clause-row : goal.returns-clause-row
returns-clause-row c = headers_is

pub returns-clause-near_row : goal.returns-clause-near_row
returns-clause-near_row c = cut_none
