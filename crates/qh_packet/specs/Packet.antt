-- A 1-RTT packet with its tag (RFC 9000, sections 12.2, 17.1 and 17.3.1; the tag is own).
use Rattle.std.specs.Prelude.{◌≡◌, ℕ, ◌+◌, ◌<◌, ◌≤◌, ◌^◌, ◌%◌, Bool, true, List, ◌∷◌, ◌++◌, length}
use Rattle.std.specs.Int.{w32, to_be_bytes}
use Rattle.qh_recovery.specs.PacketNumber.{IsExpanded}
use Rattle.qh_spec.specs.Packet.{ShortPacket, IsShortPacket, short_packet, be_value}
use Rattle.qh_spec.specs.declared.sides.Side.{Side}
use Rattle.qh_spec.specs.declared.sides.Space.{Space}
use Rattle.qh_spec.specs.declared.sides.Space.TheVariants.{Initial, Data}

-- the low four bytes of a number, in network order
abbrev pub low_bytes : ℕ → List ℕ
low_bytes number = to_be_bytes w32 (number % 2 ^ 32)

-- the first byte, 40 plus the length of the number less 1, the id, and four bytes of the number
abbrev pub header_bytes : (destination : List ℕ) → (number : ℕ) → List ℕ
header_bytes destination number = 67 ∷ (destination ++ low_bytes number)

-- the parts of a packet that is written
abbrev pub short_of : (destination : List ℕ) → (number : ℕ) → (frames tag : List ℕ) → ShortPacket
short_of destination number frames tag = record { destination = destination; number = low_bytes number; frames = frames; tag = tag }

-- the bytes are a packet with these parts, at an end whose ids have this length
pub record IsPacketOf (id_length : ℕ) (bytes : List ℕ) (p : ShortPacket) : Type 0 where
  pub whole : bytes ≡ short_packet p
  pub fits : IsShortPacket id_length p

-- The datagram is a 1-RTT packet to an end whose ids have this length, and its tag is accepted for its sender and its number; these are its
-- frames.
pub record IsOpened (accepts : Side → Space → ℕ → List ℕ → Bool) (id_length : ℕ) (sender : Side) (expected : ℕ) (datagram : List ℕ) (number : ℕ) (frames : List ℕ) : Type 0 where
  pub packet : ShortPacket
  pub is : IsPacketOf id_length datagram packet
  pub expanded : IsExpanded expected (be_value packet.number) (length packet.number) number
  pub is_number : number < 2 ^ 62
  pub accepted : accepts sender Data number packet.tag ≡ true
  pub frames_are : packet.frames ≡ frames

-- The body of an Initial packet behind this first byte, whose reserved bits are 0, is a number, these frames, and a tag that
-- is accepted for its sender and its number (RFC 9000, section 17.2.2).
pub record IsInitialOpened (accepts : Side → Space → ℕ → List ℕ → Bool) (sender : Side) (expected first : ℕ) (body : List ℕ) (number : ℕ) (frames : List ℕ) : Type 0 where
  pub number_bytes : List ℕ
  pub tag : List ℕ
  pub whole : body ≡ number_bytes ++ (frames ++ tag)
  pub first_is : first ≡ 191 + length number_bytes
  pub some_number : 0 < length number_bytes
  pub short_number : length number_bytes ≤ 4
  pub tag_length : length tag ≡ 32
  pub expanded : IsExpanded expected (be_value number_bytes) (length number_bytes) number
  pub is_number : number < 2 ^ 62
  pub accepted : accepts sender Initial number tag ≡ true
