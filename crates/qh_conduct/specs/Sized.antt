-- A RESET_STREAM says how many bytes were written on its stream, and nothing is written there any more (RFC 9000, sections 3.1, 4.5
-- and 19.4).
use Rattle.std.specs.Prelude.{◌≡◌, ◌⊎◌, ℕ, Bool, true, false, List, [], ◌∷◌, ◌++◌, length, Some, None}
use Rattle.qh_buffers.specs.SendBuffer.{taken_to}
use Rattle.qh_conduct.specs.Announced.{IsOver}
use Rattle.qh_conduct.specs.Calls.{IsCall}
use Rattle.qh_conduct.specs.Calls.IsCall.{takes}
use Rattle.qh_core.specs.Follows.{HasFrame}
use Rattle.qh_core.specs.declared.inner.Inner.{Inner}
use Rattle.qh_frame.specs.Plain.{frame}
use Rattle.qh_half.specs.Send.{PlainSend, is_reset}
use Rattle.qh_halves.specs.SendHalves.{send_at, write_fault_at}
use Rattle.qh_spec.specs.FrameTypes as frame_types
use Rattle.qh_spec.specs.QuicFrames.{QuicFrame, Num}
use Rattle.qh_spec.specs.Transcript.{Act, HandedOut, handed_out, if_same_stream, written}
use Rattle.qh_streams.specs.Streams.{PlainStreams, was_opened}

-- the frame with this final size (RFC 9000, section 19.4)
abbrev pub reset_frame : (stream code size : ℕ) → QuicFrame
reset_frame stream code size = frame frame_types.reset_stream (Num stream ∷ Num code ∷ Num size ∷ [])

-- ---- calls

-- the bytes that a call writes on a stream
abbrev pub written_by : {old new : PlainStreams} → IsCall old new → (stream : ℕ) → List ℕ
written_by (takes id count bytes step rest) stream = if_same_stream stream id bytes []
written_by other stream = []

-- one that writes does so where the connection is open, and where the stream takes bytes
abbrev pub MayWrite : {old new : PlainStreams} → (is_up : Bool) → IsCall old new → Type 0
MayWrite {old = old} is_up (takes id count bytes step rest) = (is_up ≡ true) × (write_fault_at old.send id ≡ None)
MayWrite is_up other = Unit {0}

-- ---- what was taken

-- Of each half's writer so many bytes were taken as were written on its stream; nothing was written on a stream that wasn't opened.
pub record AreTaken (s : PlainStreams) (t : List Act) : Type 0 where
  pub halves : (id : ℕ) (half : PlainSend) → send_at s.send id ≡ Some half → taken_to half.buffer ≡ length (written t id)
  pub unopened : (id : ℕ) → was_opened s id ≡ false → (send_at s.send id ≡ None) × (written t id ≡ [])

-- so many bytes were written on the stream, and it takes no more: its half is reset, or gone
pub record IsClosedAt (s : PlainStreams) (t : List Act) (stream size : ℕ) : Type 0 where
  pub size_is : size ≡ length (written t stream)
  pub opened : was_opened s stream ≡ true
  pub reset : (half : PlainSend) → send_at s.send stream ≡ Some half → is_reset half.state ≡ true

module _ {S : Type 0} where
  -- the connection handed out such a frame
  abbrev pub HasReset : Inner S → (t : List Act) → (stream code size : ℕ) → Type 0
  HasReset c t stream code size = HasFrame (length c.remote_id) (handed_out t) c.side (reset_frame stream code size)

  -- each says how many bytes were written on its stream, by now
  abbrev pub AreRight : Inner S → (t : List Act) → Type 0
  AreRight c t = (stream code size : ℕ) → HasReset c t stream code size → size ≡ length (written t stream)

  -- each said how many were written before it was handed out
  abbrev pub WereRight : Inner S → (t : List Act) → Type 0
  WereRight c t = (before after : List Act) (datagram : List ℕ) (stream code size : ℕ) → t ≡ before ++ HandedOut datagram ∷ after
      → HasFrame (length c.remote_id) (datagram ∷ []) c.side (reset_frame stream code size) → size ≡ length (written before stream)

  -- the streams are as they say
  pub record Sized (c : Inner S) (t : List Act) : Type 0 where
    pub taken : AreTaken c.space.streams t
    pub resets : (stream code size : ℕ) → HasReset c t stream code size → IsClosedAt c.space.streams t stream size

-- so the connection stands to all that was done with it; where want of memory ended it, what it said is right still
unfoldable pub HasSized : {S : Type 0} → Inner S → List Act → Type 0
HasSized c t = (Sized c t ⊎ (IsOver c × AreRight c t)) × WereRight c t
