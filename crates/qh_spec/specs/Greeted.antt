-- An end is greeted once the other end's whole hello has come to it (own; RFC 9000, sections 7 and 19.6), and what each end does
-- before and after that.
use Rattle.std.specs.Prelude.{◌≡◌, ℕ, ◌-◌, ◌≤◌, List, [], ◌∷◌, ◌++◌, slice_get, Some}
use Rattle.qh_spec.specs.Datagram.{Packet, HasPacket}
use Rattle.qh_spec.specs.FrameTypes as frame_types
use Rattle.qh_spec.specs.Hello.{Hello, IsHelloOf, FirstLimits, SaysLimits}
use Rattle.qh_spec.specs.Link.{other, given_to}
use Rattle.qh_spec.specs.Lists.{In}
use Rattle.qh_spec.specs.QuicFrames.{QuicFrame, Num, Text}
use Rattle.qh_spec.specs.Transcript.{Act, HandedOut, handed_in}
use Rattle.qh_spec.specs.declared.link.Event.{Event}
use Rattle.qh_spec.specs.declared.link.Event.TheVariants.{Sent}
use Rattle.qh_spec.specs.declared.sides.Side.{Side}
use Rattle.qh_spec.specs.declared.sides.Side.TheVariants.{Server}
use Rattle.qh_spec.specs.declared.sides.Space.{Space}
use Rattle.qh_spec.specs.declared.sides.Space.TheVariants.{Initial, Data}

-- ---- what datagrams have, whose receiver's connection ids have this length

-- one of the datagrams has a packet of this sender in this space
pub record HasPacketOf (id_length : ℕ) (datagrams : List (List ℕ)) (sender : Side) (space : Space) : Type 0 where
  pub datagram : List ℕ
  pub among : In datagram datagrams
  pub packet : Packet
  pub has : HasPacket id_length packet datagram
  pub space_is : packet.space ≡ space
  pub sender_is : packet.sender ≡ sender

-- one of the datagrams has a packet of this sender in this space with this frame
pub record HasFrameOf (id_length : ℕ) (datagrams : List (List ℕ)) (sender : Side) (space : Space) (frame : QuicFrame) : Type 0 where
  pub of : HasPacketOf id_length datagrams sender space
  pub frame_among : In frame of.packet.frames

-- a CRYPTO frame (RFC 9000, section 19.6)
abbrev pub crypto_frame : (offset : ℕ) → (payload : List ℕ) → QuicFrame
crypto_frame offset payload = record { kind = frame_types.crypto; values = Num offset ∷ Text payload ∷ [] }

-- one of them has an Initial packet of the sender's with this CRYPTO frame
abbrev pub HasCrypto : (id_length : ℕ) → (datagrams : List (List ℕ)) → (sender : Side) → (offset : ℕ) → (payload : List ℕ) → Type 0
HasCrypto id_length datagrams sender offset payload = HasFrameOf id_length datagrams sender Initial (crypto_frame offset payload)

-- they carry this byte of the sender's hello at this offset
pub record CarriesHello (id_length : ℕ) (datagrams : List (List ℕ)) (sender : Side) (offset byte : ℕ) : Type 0 where
  pub from : ℕ
  pub payload : List ℕ
  pub has : HasCrypto id_length datagrams sender from payload
  pub starts : from ≤ offset
  pub byte_is : slice_get payload (offset - from) ≡ Some byte

-- they carry all of this hello of the sender's
pub record CarriesWhole (id_length : ℕ) (datagrams : List (List ℕ)) (sender : Side) (h : Hello) : Type 0 where
  pub bytes : List ℕ
  pub is : IsHelloOf sender bytes h
  pub all : (offset byte : ℕ) → slice_get bytes offset ≡ Some byte → CarriesHello id_length datagrams sender offset byte

-- an end that was given these datagrams was greeted by the sender
abbrev pub IsGreeted : (id_length : ℕ) → (datagrams : List (List ℕ)) → (sender : Side) → Type 0
IsGreeted id_length datagrams sender = (h : Hello) × CarriesWhole id_length datagrams sender h

-- ... with these first limits
pub record AreAnnouncedFirst (id_length : ℕ) (datagrams : List (List ℕ)) (sender : Side) (l : FirstLimits) : Type 0 where
  pub hello : Hello
  pub carried : CarriesWhole id_length datagrams sender hello
  pub says : SaysLimits hello l

-- ---- the order of a handshake, of an end whose own ids have one length and its peer's another

-- What a side had been given when it sent this datagram. It sends a 1-RTT packet only after it was greeted, a server only after a
-- 1-RTT packet of the client's came too; and a server sends a part of its own hello only after it was greeted.
pub record GreetsInOrder (own_length peer_length : ℕ) (side : Side) (given : List (List ℕ)) (datagram : List ℕ) : Type 0 where
  pub greeted : HasPacketOf peer_length (datagram ∷ []) side Data → IsGreeted own_length given (other side)
  pub connected : side ≡ Server → HasPacketOf peer_length (datagram ∷ []) side Data → HasPacketOf own_length given (other side) Data
  pub answers : side ≡ Server → (from : ℕ) (payload : List ℕ) → HasCrypto peer_length (datagram ∷ []) side from payload
      → IsGreeted own_length given (other side)

-- the same of all that was done with an end
abbrev pub HasGreetedInOrder : (own_length peer_length : ℕ) → (side : Side) → List Act → Type 0
HasGreetedInOrder own_length peer_length side t =
    (before after : List Act) (datagram : List ℕ) → t ≡ before ++ HandedOut datagram ∷ after
    → GreetsInOrder own_length peer_length side (handed_in before) datagram

-- the same of what a link tells of a side
abbrev pub SentInOrder : (own_length peer_length : ℕ) → Side → List Event → Type 0
SentInOrder own_length peer_length side events =
    (before after : List Event) (datagram : List ℕ) → events ≡ before ++ Sent side datagram ∷ after
    → GreetsInOrder own_length peer_length side (given_to side before) datagram

-- a side and its peer were both greeted by what these events gave them
pub record AreBothGreeted (own_length peer_length : ℕ) (side : Side) (events : List Event) : Type 0 where
  pub own : IsGreeted own_length (given_to side events) (other side)
  pub peer : IsGreeted peer_length (given_to (other side) events) side
