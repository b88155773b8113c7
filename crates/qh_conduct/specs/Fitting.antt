-- Frames that an end doesn't refuse, by what came before (RFC 9000, sections 4.1 and 4.5), and what a connection is faulted for.
use Rattle.std.specs.Prelude.{◌≡◌, ℕ, ◌<◌, ◌≤◌, ◌^◌, Bool, true, false, List, [], ◌∷◌, length, Option, Some, None}
use Rattle.qh_base.specs.TransportFault.{IsFault}
use Rattle.std.specs.Option.{option_map}
use Rattle.qh_base.specs.declared.transport_error.TransportError.{TransportError}
use Rattle.qh_conduct.specs.Reached.{CameIn, EndsAt, Reaches}
use Rattle.qh_core.specs.Follows.{HasFrame}
use Rattle.qh_core.specs.Receiving.{IsOpenedBy}
use Rattle.qh_core.specs.declared.inner.Inner.{Inner}
use Rattle.qh_frame.specs.Plain.{plain_of}
use Rattle.qh_frame.specs.TypeOf.{named, type_of}
use Rattle.qh_frame.specs.WrittenForm.{written_form}
use Rattle.qh_frame.specs.declared.frame.Frame.{Frame}
use Rattle.qh_half.specs.Recv.{PlainRecv}
use Rattle.qh_halves.specs.Counts.{has_recv, has_send, index_of, is_bi, is_own}
use Rattle.qh_packet.specs.Frames.{IsFaultyFrame}
use Rattle.qh_space.specs.Receiving.{coming_of, frame_refusal}
use Rattle.qh_space.specs.declared.data_space.DataSpace.{DataSpace}
use Rattle.qh_spec.specs.Codes as codes
use Rattle.qh_spec.specs.Link.{other}
use Rattle.qh_spec.specs.Lists.{In}
use Rattle.qh_spec.specs.QuicFrames.{QuicFrame}
use Rattle.qh_spec.specs.Transcript.{Act, written}
use Rattle.qh_spec.specs.declared.sides.Side.{Side}
use Rattle.qh_spec.specs.declared.sides.Space.{Space}
use Rattle.qh_streams.specs.Streams.{PlainStreams, IsRefusal, counts_of, recv_or_new, was_opened}
use Rattle.qh_streams.specs.declared.fault.StreamFault.TheVariants.{Transport}
use Rattle.qh_streams.specs.declared.frames.StreamFrame.{StreamFrame}
use Rattle.qh_streams.specs.declared.frames.StreamFrame.TheVariants as coming

-- none of the frames reaches farther on a stream than was written there
abbrev pub AreWithinWritten : (frames : List StreamFrame) → (t : List Act) → Type 0
AreWithinWritten frames t = (f : StreamFrame) (stream to : ℕ) → In f frames → Reaches stream to f → to ≤ length (written t stream)

-- none of the frames reaches past the final size that one of them says
abbrev pub AgreeOnSizes : (frames : List StreamFrame) → Type 0
AgreeOnSizes frames = (f g : StreamFrame) (stream size to : ℕ) → In f frames → In g frames → EndsAt stream size f → Reaches stream to g → to ≤ size

-- The stream has such a half for this end. One of this end's was opened; one of the peer's lies within the count that was announced.
pub record IsStreamKnown (s : PlainStreams) (id : ℕ) (has_half : Bool) : Type 0 where
  pub half : has_half ≡ true
  pub opened : is_own s.side id ≡ true → was_opened s id ≡ true
  pub within : is_own s.side id ≡ false → index_of id < (counts_of s (is_bi id)).announced.value

-- the frame names a stream with the half that it is for; a count of streams is one that a limit can be (RFC 9000, section 19.11)
abbrev pub NamesKnown : PlainStreams → StreamFrame → Type 0
NamesKnown s (coming.Stream id offset payload fin) = IsStreamKnown s id.0 (has_recv s.side id.0)
NamesKnown s (coming.Reset id code size) = IsStreamKnown s id.0 (has_recv s.side id.0)
NamesKnown s (coming.Stop id code) = IsStreamKnown s id.0 (has_send s.side id.0)
NamesKnown s (coming.MaxStreamData id limit) = IsStreamKnown s id.0 (has_send s.side id.0)
NamesKnown s (coming.MaxStreams dir count) = count ≤ 2 ^ 60
NamesKnown s (coming.MaxData limit) = Unit {0}

-- the frame reaches no farther than the limit of its stream that was announced
abbrev pub IsWithinStream : PlainStreams → StreamFrame → Type 0
IsWithinStream s f = (stream to : ℕ) (h : PlainRecv) → Reaches stream to f → recv_or_new s stream ≡ Some h → to ≤ h.sent_max_stream_data

-- the datagram has a packet of the sender's with this frame, which the space refuses, and which is named by the type that it has there
pub record HasRefused (id_length : ℕ) (sender : Side) (datagram : List ℕ) (s : DataSpace) (e : TransportError) : Type 0 where
  pub frame : Frame
  pub read : QuicFrame
  pub has : HasFrame id_length (datagram ∷ []) sender read
  pub form_is : written_form read ≡ plain_of frame
  pub type_is : type_of frame ≡ named read.kind
  pub came : (f : StreamFrame) → coming_of frame ≡ Some f → CameIn id_length (datagram ∷ []) sender f
  pub refused : IsRefusal (Transport e) (frame_refusal s frame)

module _ {S : Type 0} where
  -- Why a datagram is a fault: its packet has no frame, or bytes that are none, or a frame that is refused, by the space as it is then.
  -- The error has the code and the type of the frame at fault (RFC 9000, sections 12.4 and 20.1).
  pub data IsFaultOf (accepts : Side → Space → ℕ → List ℕ → Bool) (old new : Inner S) (datagram : List ℕ) (e : TransportError) : Type 0 where
    empty : (number : ℕ) → IsOpenedBy accepts old datagram number [] → IsFault codes.protocol_violation None e → IsFaultOf accepts old new datagram e
    faulty : (number : ℕ) (bytes : List ℕ) (kind : Option ℕ) → IsOpenedBy accepts old datagram number bytes → IsFaultyFrame bytes kind
        → IsFault codes.frame_encoding_error (option_map named kind) e → IsFaultOf accepts old new datagram e
    refused : HasRefused (length old.local_id) (other old.side) datagram new.space e → IsFaultOf accepts old new datagram e
