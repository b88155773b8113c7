-- What an honest end hands out in its Initial packets, by all that was done with it (RFC 9000, sections 12.4, 13.1, 17.2.2 and 19).
use Rattle.std.specs.Prelude.{◌≡◌, ◌⊎◌, ℕ, ◌+◌, true, List, [], ◌∷◌, ◌++◌, length, Some}
use Rattle.std.specs.List.{AllByRecursion}
use Rattle.qh_base.specs.declared.connection_error.ConnectionClose.{ConnectionClose}
use Rattle.qh_buffers.specs.Ranges.{has}
use Rattle.qh_frame.specs.Plain.{frame}
use Rattle.qh_frame.specs.Range.{IsInRange}
use Rattle.qh_handshake.specs.Follows.{HasInitial}
use Rattle.qh_handshake.specs.Outgoing.{close_frame}
use Rattle.qh_handshake.specs.declared.handshake.Handshake.{Handshake}
use Rattle.qh_handshake.specs.declared.initial_space.InitialSpace.{InitialSpace}
use Rattle.qh_packet.specs.Initial.{BeginsWithInitial}
use Rattle.qh_spec.specs.Acknowledged.{Covers}
use Rattle.qh_spec.specs.Datagram.{Packet, HasPacket}
use Rattle.qh_spec.specs.FrameTypes as frame_types
use Rattle.qh_spec.specs.Greeted.{HasFrameOf, crypto_frame}
use Rattle.qh_spec.specs.Link.{other}
use Rattle.qh_spec.specs.QuicFrames.{QuicFrame, AreQuicFrames}
use Rattle.qh_spec.specs.Transcript.{Act, HandedOut, handed_in, handed_out}
use Rattle.qh_spec.specs.declared.sides.Side.{Side}
use Rattle.qh_spec.specs.declared.sides.Space.TheVariants.{Initial}

-- A frame that an end sends in an Initial packet, with this hello, after these datagrams came to it: an ACK of packets that came, its
-- whole hello, PING, PADDING, or a close.
pub data IsHonestFrame (hello : List ℕ) (came : List (List ℕ)) (side : Side) : QuicFrame → Type 0 where
  padding : IsHonestFrame hello came side (frame frame_types.padding [])
  ping : IsHonestFrame hello came side (frame frame_types.ping [])
  ack : (f : QuicFrame) → f.kind ≡ frame_types.ack → ((number : ℕ) → Covers f number → (id_length : ℕ) → HasInitial id_length came (other side) number) → IsHonestFrame hello came side f
  crypto : IsHonestFrame hello came side (crypto_frame 0 hello)
  close : (c : ConnectionClose) → IsHonestFrame hello came side (close_frame c)

-- a packet of such frames, at least one, with values in range
pub record IsHonestPacket (hello : List ℕ) (came : List (List ℕ)) (side : Side) (p : Packet) : Type 0 where
  pub space_is : p.space ≡ Initial
  pub sender_is : p.sender ≡ side
  pub some : p.frames ≡ [] → ⊥
  pub in_range : AllByRecursion IsInRange p.frames
  pub honest : AllByRecursion (IsHonestFrame hello came side) p.frames

-- a datagram that has a packet, one and no more, from this end's id, and each packet that it has is such a one
pub record IsHonestDatagram (hello : List ℕ) (came : List (List ℕ)) (h : Handshake) (datagram : List ℕ) : Type 0 where
  pub has_one : (id_length : ℕ) → (p : Packet) × HasPacket id_length p datagram
  pub from : (first : ℕ) (destination source token body behind : List ℕ) → BeginsWithInitial datagram first destination source token body behind → (source ≡ h.local_id) × (behind ≡ [])
  pub packets : (id_length : ℕ) (p : Packet) → HasPacket id_length p datagram → IsHonestPacket hello came h.side p
  -- what stands between the number and the tag is frames
  pub some : (first : ℕ) (destination source token body behind number_bytes frame_bytes tag : List ℕ) → BeginsWithInitial datagram first destination source token body behind
      → body ≡ number_bytes ++ (frame_bytes ++ tag) → first ≡ 191 + length number_bytes → length tag ≡ 32 → (fs : List QuicFrame) × AreQuicFrames frame_bytes fs

-- so is each datagram that was handed out, and each number that is to be acknowledged came
pub record Sends (hello : List ℕ) (h : Handshake) (t : List Act) : Type 0 where
  pub each : (before after : List Act) (datagram : List ℕ) → t ≡ before ++ HandedOut datagram ∷ after → IsHonestDatagram hello (handed_in before) h datagram
  pub acked : (s : InitialSpace) (number id_length : ℕ) → h.space ≡ Some s → has s.acks.ranges number ≡ true → HasInitial id_length (handed_in t) (other h.side) number

-- a CONNECTION_CLOSE, of the transport or of the application (section 19.19)
abbrev pub IsClose : QuicFrame → Type 0
IsClose f = (f.kind ≡ frame_types.connection_close) ⊎ (f.kind ≡ frame_types.application_close)

-- No Initial packet of this side's in a datagram that was handed out has one, whatever the length of connection ids is with which it is read.
abbrev pub NeverCloses : Side → List Act → Type 0
NeverCloses side t = (id_length : ℕ) (f : QuicFrame) → HasFrameOf id_length (handed_out t) side Initial f → IsClose f → ⊥
