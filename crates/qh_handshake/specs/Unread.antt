-- What was read of a packet when memory is wanting: its frames can all be read, and none of those that were taken, nor the one behind
-- them, is at fault.
use Rattle.std.specs.Prelude.{◌≡◌, ℕ, Bool, List, ◌++◌, Some, None}
use Rattle.qh_base.specs.declared.time.Moment.{Moment}
use Rattle.qh_frame.specs.FrameAt.{Begins}
use Rattle.qh_frame.specs.Plain.{plain_of}
use Rattle.qh_frame.specs.declared.frame.Frame.{Frame}
use Rattle.qh_handshake.specs.Handshake.{ids_used}
use Rattle.qh_handshake.specs.Incoming.{Form, IsAccepted, IsHelloThere, IsNewTo, IsOpenedBy, IsPacketHandled, knowing}
use Rattle.qh_packet.specs.Session.{AcceptsTag}
use Rattle.qh_handshake.specs.Receiving.{IsFrameTaken, IsRefusedBy, frame_refusal}
use Rattle.qh_handshake.specs.declared.handshake.Handshake.{Handshake}
use Rattle.qh_handshake.specs.declared.initial_space.InitialSpace.{InitialSpace}
use Rattle.qh_handshake.specs.declared.receiving.SpaceFault.TheVariants.{Memory}
use Rattle.qh_hello.specs.Parts.{IsHelloForm}
use Rattle.qh_hello.specs.Refusals.{IsRefused}
use Rattle.qh_hello.specs.declared.hello.HelloError.TheVariants as hello_error
use Rattle.qh_hello.specs.declared.transport_parameters.TransportParameters.{TransportParameters}
use Rattle.qh_packet.specs.Frames.{AreValidFrames}
use Rattle.qh_spec.specs.Link.{other}
use Rattle.qh_spec.specs.declared.sides.Side.TheVariants.{Server}

-- The frames are taken up to a CRYPTO frame, with which nothing is wrong, and none of them closes.
pub data StopsUnrefused (now : ℕ) : (bytes : List ℕ) → InitialSpace → Type 0 where
  here : (bytes rest : List ℕ) (frame : Frame) (s : InitialSpace) → Begins bytes (plain_of frame) rest → IsRefusedBy Memory frame (frame_refusal s frame) → StopsUnrefused now bytes s
  behind : (bytes rest : List ℕ) (frame : Frame) (old mid : InitialSpace) → Begins bytes (plain_of frame) rest → frame_refusal old frame ≡ None → IsFrameTaken now old mid frame None
      → StopsUnrefused now rest mid → StopsUnrefused now bytes old

-- The packet is new, and its frames can all be read: its number isn't noted, and its first frame isn't refused; or one of its frames isn't
-- kept.
pub data IsPacketUnread (now : Moment) (number : ℕ) (frames : List ℕ) (s : InitialSpace) : Type 0 where
  unnoted : (is_eliciting : Bool) (rest : List ℕ) (frame : Frame) → IsNewTo s number → AreValidFrames frames is_eliciting → Begins frames (plain_of frame) rest → frame_refusal s frame ≡ None
      → IsPacketUnread now number frames s
  stopped : (mid : InitialSpace) (is_eliciting : Bool) → IsNewTo s number → AreValidFrames frames is_eliciting → IsAccepted now number is_eliciting s mid → StopsUnrefused now.0 frames mid
      → IsPacketUnread now number frames s

-- The peer's whole hello is there, and wasn't read yet: it isn't known whether it is at fault, or it isn't, and a server's own can't be made.
pub data IsHelloUnread (h : Handshake) : Type 0 where
  unread : (s : InitialSpace) (front rest : List ℕ) → h.space ≡ Some s → h.peer ≡ None → s.crypto.bytes ≡ front ++ rest → IsHelloForm front
      → IsRefused (other h.side) (ids_used h) front hello_error.Memory → IsHelloUnread h
  unanswered : (name : List ℕ) (p : TransportParameters) → IsHelloThere h name p → h.side ≡ Server → IsHelloUnread h

-- the packet is opened, and memory is wanting for it, or for the hello behind it
pub data IsInitialUnread (accepts : AcceptsTag) (now : Moment) (f : Form) (h : Handshake) : Type 0 where
  packet : (s : InitialSpace) (number : ℕ) (frames : List ℕ) → h.space ≡ Some s → IsOpenedBy accepts h s f number frames → IsPacketUnread now number frames s → IsInitialUnread accepts now f h
  hello : (s mid : InitialSpace) (number : ℕ) (frames : List ℕ) → h.space ≡ Some s → IsOpenedBy accepts h s f number frames → IsPacketHandled now number frames s mid None
      → IsHelloUnread (knowing h f.source mid) → IsInitialUnread accepts now f h
