-- How the space of application data stands to what was done with a connection (RFC 9000, section 2.2).
use Rattle.std.specs.Prelude.{◌≡◌, ℕ, List, [], ◌∷◌, ◌++◌, Option, Some, None}
use Rattle.qh_frame.specs.declared.frame.Frame.{Frame}
use Rattle.qh_space.specs.Receiving.{coming_of}
use Rattle.qh_space.specs.declared.data_space.DataSpace.{DataSpace}
use Rattle.qh_spec.specs.QuicFrame.{StreamFrame}
use Rattle.qh_spec.specs.QuicFrames.{QuicFrame, AreQuicFrames}
use Rattle.qh_spec.specs.Transcript.{Act}
use Rattle.qh_streams.specs.declared.frames.StreamFrame.{StreamFrame as Coming}
use Rattle.qh_transcript.specs.Receiving.{StandsIn}
use Rattle.qh_transcript.specs.Sending.{StandsOut, runs_of}

-- The streams stand so to all that was done, where these runs were sent and those came.
pub record Stands (s : DataSpace) (sent came : List StreamFrame) (t : List Act) : Type 0 where
  pub out : StandsOut s.streams sent t
  pub into : StandsIn s.streams came t

-- what was appended are frames, and the streams stand so once their runs are sent too
pub record StandsMade (s : DataSpace) (sent came : List StreamFrame) (t : List Act) (before after : List ℕ) : Type 0 where
  pub bytes : List ℕ
  pub frames : List QuicFrame
  pub appended : after ≡ before ++ bytes
  pub are : AreQuicFrames bytes frames
  pub stands : Stands s (sent ++ runs_of frames) came t

abbrev pub some_coming : Option Coming → List Coming
some_coming None = []
some_coming (Some c) = c ∷ []

-- the frame as one that speaks of streams, where it does
abbrev pub comings : Frame → List Coming
comings f = some_coming (coming_of f)

-- it is the space of the same end, with the same first limits of the peer
abbrev pub SameEnd : (old new : DataSpace) → Type 0
SameEnd old new = (new.streams.side ≡ old.streams.side) × (new.streams.peer ≡ old.streams.peer)
