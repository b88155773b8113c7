-- A RESET_STREAM or a STOP_SENDING that an end handed out was asked for before, with its code (RFC 9000, sections 3.1, 3.5, 19.4 and
-- 19.5).
use Rattle.std.specs.Prelude.{◌≡◌, ℕ, true, List, [], ◌∷◌, ◌++◌, length, Some}
use Rattle.qh_conduct.specs.Sized.{reset_frame}
use Rattle.qh_core.specs.Follows.{HasFrame}
use Rattle.qh_core.specs.Inner.{is_open}
use Rattle.qh_core.specs.declared.inner.Inner.{Inner}
use Rattle.qh_buffers.specs.declared.send_buffer.Mark.{Mark}
use Rattle.qh_frame.specs.Plain.{frame}
use Rattle.qh_half.specs.Recv.{PlainRecv}
use Rattle.qh_half.specs.Send.{PlainSend}
use Rattle.qh_half.specs.declared.recv.StopFrame.{StopFrame}
use Rattle.qh_half.specs.declared.send.SendState.TheVariants.{ResetSent}
use Rattle.qh_halves.specs.RecvHalves.{recv_at}
use Rattle.qh_halves.specs.SendHalves.{send_at}
use Rattle.qh_spec.specs.FrameTypes as frame_types
use Rattle.qh_spec.specs.Lists.{In}
use Rattle.qh_spec.specs.QuicFrames.{QuicFrame, Num}
use Rattle.qh_spec.specs.Transcript.{Act, HandedOut, Reset, Stopped}
use Rattle.qh_streams.specs.Streams.{PlainStreams}

-- the frame that asks the peer to send no more of the stream
abbrev pub stop_frame : (stream code : ℕ) → QuicFrame
stop_frame stream code = frame frame_types.stop_sending (Num stream ∷ Num code ∷ [])

-- the stream's sending half was reset with this code
pub record IsResetAt (s : PlainStreams) (stream code : ℕ) : Type 0 where
  pub half : PlainSend
  pub is : send_at s.send stream ≡ Some half
  pub mark : Mark
  pub state : half.state ≡ ResetSent code mark

-- the peer is asked to send no more of the stream, with this code
pub record IsStoppedAt (s : PlainStreams) (stream code : ℕ) : Type 0 where
  pub half : PlainRecv
  pub is : recv_at s.recv stream ≡ Some half
  pub frame : StopFrame
  pub frame_is : half.stop_frame ≡ Some frame
  pub code_is : frame.code ≡ code

-- each stream that is reset or stopped was so by the application, with that code
pub record AreAsked (s : PlainStreams) (t : List Act) : Type 0 where
  pub resets : (stream code : ℕ) → IsResetAt s stream code → In (Reset stream code) t
  pub stops : (stream code : ℕ) → IsStoppedAt s stream code → In (Stopped stream code) t

module _ {S : Type 0} where
  -- each such frame that was handed out was asked for before it was
  pub record WereAsked (c : Inner S) (t : List Act) : Type 0 where
    pub resets : (before after : List Act) (datagram : List ℕ) (stream code size : ℕ) → t ≡ before ++ HandedOut datagram ∷ after
        → HasFrame (length c.remote_id) (datagram ∷ []) c.side (reset_frame stream code size) → In (Reset stream code) before
    pub stops : (before after : List Act) (datagram : List ℕ) (stream code : ℕ) → t ≡ before ++ HandedOut datagram ∷ after
        → HasFrame (length c.remote_id) (datagram ∷ []) c.side (stop_frame stream code) → In (Stopped stream code) before

  pub record Asks (c : Inner S) (t : List Act) : Type 0 where
    pub were : WereAsked c t
    pub streams : is_open c.state ≡ true → AreAsked c.space.streams t

-- so an end stands to all that was done with it
unfoldable pub HasAsked : {S : Type 0} → Inner S → List Act → Type 0
HasAsked c t = Asks c t
