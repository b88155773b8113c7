-- Frames of a connection's own, which go out in packets without frames of streams (RFC 9000, sections 19.7, 19.15 and 19.16; RFC 9221).
use Rattle.std.specs.Prelude.{◌≡◌, ℕ, ◌+◌, ◌-◌, ◌≤◌, nat_le, true, false, List, [], ◌∷◌, ◌++◌, length, Option, IsSomeAnd, if◌then◌else◌}
use Rattle.std.specs.List.{AllByRecursion}
use Rattle.qh_core.specs.declared.control.ControlFrame.{ControlFrame}
use Rattle.qh_core.specs.declared.control.ControlFrame.TheVariants.{NewToken, NewConnectionId, RetireConnectionId, Datagram}
use Rattle.qh_frame.specs.FrameBytes.{frame_bytes}
use Rattle.qh_frame.specs.Plain.{frame}
use Rattle.qh_space.specs.Sending.{IsSentBare, may_elicit}
use Rattle.qh_space.specs.declared.data_space.DataSpace.{DataSpace}
use Rattle.qh_spec.specs.FrameTypes as frame_types
use Rattle.qh_spec.specs.QuicFrames.{QuicFrame, Num, Text}
use Rattle.qh_spec.specs.declared.sides.Side.{Side}
use Rattle.qh_spec.specs.declared.sides.Side.TheVariants.{Server}
use Rattle.qh_streams.specs.Streams.{IsReadBack}

-- the frame that is written
abbrev pub control_frame : ControlFrame → QuicFrame
control_frame (NewToken token) = frame frame_types.new_token (Text token ∷ [])
control_frame (NewConnectionId sequence prior id reset_token) = frame frame_types.new_connection_id (Num sequence ∷ Num prior ∷ Text id ∷ Text reset_token.0 ∷ [])
control_frame (RetireConnectionId sequence) = frame frame_types.retire_connection_id (Num sequence ∷ [])
control_frame (Datagram payload) = frame frame_types.datagram_with_length (Text payload ∷ [])

-- This side may send the frame, as far as the frame tells: a token comes from a server, isn't empty, and has room in each datagram; a new
-- id has 1 to 20 bytes, and no later one is retired by it; the payload of a datagram is no longer than the peer takes (RFC 9221, section
-- 3), and has room in each datagram. Which sequences there are, how many ids the peer keeps, and whether an end
-- has ids at all (sections 5.1.1, 19.15 and 19.16), is for whoever hands the frame in to see.
abbrev pub MaySend : Side → (peer_datagram : Option ℕ) → ControlFrame → Type 0
MaySend side most (NewToken token) = (side ≡ Server) × (1 ≤ length token) × (length token ≤ 1024)
MaySend side most (NewConnectionId sequence prior id reset_token) = (prior ≤ sequence) × (1 ≤ length id) × (length id ≤ 20)
MaySend side most (RetireConnectionId sequence) = Unit {0}
MaySend side most (Datagram payload) = IsSomeAnd most (λ m. length payload ≤ m) × (length payload ≤ 1140)

abbrev pub control_bytes : List ControlFrame → List ℕ
control_bytes [] = []
control_bytes (f ∷ fs) = frame_bytes (control_frame f) ++ control_bytes fs

-- how many of the frames have room together, from the first on
abbrev pub fitting : (room : ℕ) → List ControlFrame → ℕ
fitting room [] = 0
fitting room (f ∷ fs) = if nat_le (length (frame_bytes (control_frame f))) room then 1 + fitting (room - length (frame_bytes (control_frame f))) fs else 0

-- The bytes are some such frames of this side's, each of which is read back as itself.
pub record AreControl (side : Side) (peer_datagram : Option ℕ) (bytes : List ℕ) : Type 0 where
  pub frames : List ControlFrame
  pub some : frames ≡ [] → ⊥
  pub bytes_are : bytes ≡ control_bytes frames
  pub sendable : AllByRecursion (MaySend side peer_datagram) frames
  pub read_back : AllByRecursion (λ (f : ControlFrame). IsReadBack (control_frame f)) frames

-- A packet of such frames alone was made: no ACK is due, and ack-eliciting frames may be sent. None of them is kept in the space.
pub record IsControlMade (now overhead : ℕ) (side : Side) (peer_datagram : Option ℕ) (old new : DataSpace) (bytes : List ℕ) : Type 0 where
  pub quiet : old.acks.is_due ≡ false
  pub may : may_elicit old ≡ true
  pub control : AreControl side peer_datagram bytes
  pub sent : IsSentBare now (overhead + length bytes) old new
