-- The packets of a datagram (RFC 9000, section 12.2), without header protection, and with tags in the place of a
-- cipher's.
use Rattle.std.specs.Prelude.{◌≡◌, ℕ, ◌+◌, ◌%◌, ◌^◌, ◌<◌, ◌≤◌, List, ◌∷◌, ◌++◌, length}
use Rattle.qh_spec.specs.declared.sides.Side.{Side}
use Rattle.qh_spec.specs.declared.sides.Space.{Space}
use Rattle.qh_spec.specs.declared.sides.Space.TheVariants.{Initial, Data}
use Rattle.qh_spec.specs.Packet.{ShortPacket, IsShortPacket, short_packet, be_value}
use Rattle.qh_spec.specs.QuicFrames.{QuicFrame, AreQuicFrames}
use Rattle.qh_spec.specs.Tag.{IsTag}
use Rattle.qh_spec.specs.Varint.{IsVarint}

-- what a packet says: its space, its sender and its whole number by its tag, and its frames (own)
pub record Packet : Type 0 where
  pub space : Space
  pub sender : Side
  pub number : ℕ
  pub frames : List QuicFrame

-- the parts behind a header say it, and the header has the number's low bytes (RFC 9000, section 17.1; the tag is own)
pub record IsPacketContent (space : Space) (number_bytes frame_bytes tag : List ℕ) (p : Packet) : Type 0 where
  pub space_is : p.space ≡ space
  pub tagged : IsTag tag p.sender space p.number
  pub low : be_value number_bytes ≡ p.number % (256 ^ length number_bytes)
  pub frames : AreQuicFrames frame_bytes p.frames

-- an Initial packet of version 1 by its lengths, with this first byte and this body behind the header, whatever its
-- reserved bits and its body are (RFC 9000, section 17.2.2)
pub record IsInitialForm (bytes : List ℕ) (first : ℕ) (body : List ℕ) : Type 0 where
  pub destination : List ℕ
  pub source : List ℕ
  pub token_length : List ℕ
  pub token : List ℕ
  pub body_length : List ℕ
  pub whole : bytes ≡ first ∷ 0 ∷ 0 ∷ 0 ∷ 1 ∷ length destination ∷ (destination ++ (length source ∷ (source ++ (token_length ++ (token ++ (body_length ++ body))))))
  pub long_header : 192 ≤ first
  pub initial_type : first < 208
  pub destination_fits : length destination ≤ 20
  pub source_fits : length source ≤ 20
  pub token_is : IsVarint token_length (length token)
  pub body_is : IsVarint body_length (length body)

-- an Initial packet of version 1, with its reserved bits 0 (RFC 9000, section 17.2.2)
pub record IsInitialPacket (bytes : List ℕ) (p : Packet) : Type 0 where
  pub number_bytes : List ℕ
  pub frame_bytes : List ℕ
  pub tag : List ℕ
  pub form : IsInitialForm bytes (191 + length number_bytes) (number_bytes ++ (frame_bytes ++ tag))
  pub some_number : 0 < length number_bytes
  pub short_number : length number_bytes ≤ 4
  pub content : IsPacketContent Initial number_bytes frame_bytes tag p

-- a 1-RTT packet, with its reserved bits 0, at an end whose ids have this length; it fills its datagram (RFC 9000, section 17.3.1)
pub record IsOneRttPacket (id_length : ℕ) (bytes : List ℕ) (p : Packet) : Type 0 where
  pub short : ShortPacket
  pub fits : IsShortPacket id_length short
  pub whole : bytes ≡ short_packet short
  pub content : IsPacketContent Data short.number short.frames short.tag p

-- The packet is one of the datagram's: Initial packets by their lengths, and then a 1-RTT packet that fills the rest
-- (RFC 9000, section 12.2). An Initial packet that no one can take has its place among them. Where a rest is of neither
-- form, the packets before it count.
pub data HasPacket (id_length : ℕ) (p : Packet) : List ℕ → Type 0 where
  one_rtt : (bytes : List ℕ) → IsOneRttPacket id_length bytes p → HasPacket id_length p bytes
  initial : (front rest bytes : List ℕ) → bytes ≡ front ++ rest → IsInitialPacket front p → HasPacket id_length p bytes
  later : (front rest bytes : List ℕ) (first : ℕ) (body : List ℕ) → bytes ≡ front ++ rest → IsInitialForm front first body → HasPacket id_length p rest → HasPacket id_length p bytes
