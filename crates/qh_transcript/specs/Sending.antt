-- How the sending halves of a connection's streams stand to what was done with them (RFC 9000, section 2.2).
use Rattle.std.specs.Prelude.{◌≡◌, ℕ, ◌+◌, ◌≤◌, Bool, true, false, List, [], ◌∷◌, ◌++◌, length, map, slice_get, Option, Some, None}
use Rattle.std.specs.List.{AllByRecursion, concat}
use Rattle.qh_buffers.specs.SendBuffer.{taken_to, byte_at}
use Rattle.qh_frame.specs.FrameBytes.{frame_bytes}
use Rattle.qh_half.specs.Send.{PlainSend, is_reset, is_finished}
use Rattle.qh_halves.specs.SendHalves.{send_at}
use Rattle.qh_spec.specs.FrameViews.{stream_of}
use Rattle.qh_spec.specs.Lists.{In}
use Rattle.qh_spec.specs.QuicFrame.{StreamFrame}
use Rattle.qh_spec.specs.QuicFrames.{QuicFrame}
use Rattle.qh_spec.specs.Transcript.{Act, written, finished}
use Rattle.qh_streams.specs.Streams.{PlainStreams, was_opened, IsReadBack}

-- The run carries bytes that were written on its stream, each at its offset, and an end only where the stream was finished,
-- behind all of them.
pub record IsRunOf (bytes : List ℕ) (is_finished : Bool) (run : StreamFrame) : Type 0 where
  pub byte : (k b : ℕ) → slice_get run.payload k ≡ Some b → slice_get bytes (run.offset + k) ≡ Some b
  pub end : run.fin ≡ true → (is_finished ≡ true) × (run.offset + length run.payload ≡ length bytes)

-- The half took these bytes, and holds all but those in front that are acknowledged; it was finished where they say so.
pub record IsHalfOf (bytes : List ℕ) (was_finished : Bool) (h : PlainSend) : Type 0 where
  pub taken : taken_to h.buffer ≡ length bytes
  pub held : (k : ℕ) → h.buffer.start ≤ k → byte_at h.buffer k ≡ slice_get bytes k
  pub end : is_finished h.state ≡ was_finished

-- The streams stand so to what was done with them where these runs were sent: each half that isn't reset has what was written on
-- its stream, what was sent is what was written, and nothing was written on a stream that wasn't opened.
pub record StandsOut (s : PlainStreams) (sent : List StreamFrame) (t : List Act) : Type 0 where
  pub halves : (id : ℕ) (h : PlainSend) → send_at s.send id ≡ Some h → is_reset h.state ≡ false → IsHalfOf (written t id) (finished t id) h
  pub runs : (run : StreamFrame) → In run sent → IsRunOf (written t run.id) (finished t run.id) run
  pub unopened : (id : ℕ) → was_opened s id ≡ false → (send_at s.send id ≡ None) × (written t id ≡ []) × (finished t id ≡ false)

abbrev pub some_run : Option StreamFrame → List StreamFrame
some_run None = []
some_run (Some run) = run ∷ []

-- the runs of the STREAM frames among frames
abbrev pub runs_of : List QuicFrame → List StreamFrame
runs_of [] = []
runs_of (f ∷ fs) = some_run (stream_of f) ++ runs_of fs

-- these bytes are frames that read back, and the streams stand so once their runs are sent too
pub record StandsBehind (s : PlainStreams) (sent : List StreamFrame) (t : List Act) (bytes : List ℕ) : Type 0 where
  pub frames : List QuicFrame
  pub bytes_are : bytes ≡ concat (map frame_bytes frames)
  pub read_back : AllByRecursion IsReadBack frames
  pub stands : StandsOut s (sent ++ runs_of frames) t

-- acts that write nothing
pub record WriteNothing (u : List Act) : Type 0 where
  pub bytes : (id : ℕ) → written u id ≡ []
  pub ends : (id : ℕ) → finished u id ≡ false
