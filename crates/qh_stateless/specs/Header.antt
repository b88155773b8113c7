-- What the header of a datagram's first packet says, as far as an endpoint reads it before it routes the datagram (RFC 8999, section 5;
-- RFC 9000, section 17).
use Rattle.std.specs.Prelude.{◌≡◌, ◌≢◌, ◌⊎◌, ℕ, ◌<◌, ◌≤◌, ◌^◌, ◌/◌, ◌%◌, ◌+◌, Bool, true, false, List, [], ◌∷◌, ◌++◌, length, Contains}
use Rattle.qh_packet.specs.LongHeader.{long_head}
use Rattle.qh_spec.specs.QuicFrames.{Counted, Text, IsValue}

-- a header that can be read
pub data Header : Type 0 where
  Initial : (version first : ℕ) (destination source token : List ℕ) → Header
  ZeroRtt : (version : ℕ) (destination source : List ℕ) → Header
  -- of any other packet with a long header: Handshake, Retry, version negotiation
  Long : (version : ℕ) (destination source : List ℕ) → Header
  Short : (first : ℕ) (destination : List ℕ) → Header

-- the fixed bit, 0x40, is set, or the endpoint doesn't ask for it (RFC 9000, sections 17.2 and 17.3.1; RFC 9287, section 3.1)
abbrev pub IsFixed : (grease : Bool) (first : ℕ) → Type 0
IsFixed grease first = (grease ≡ true) ⊎ (first / 64 % 2 ≡ 1)

-- The datagram begins with a long header, of any version, up to its source id (RFC 8999, section 5.1). In any version an id has at
-- most 20 bytes, and the fixed bit is asked for (RFC 9000, section 17.2).
pub record IsLong (grease : Bool) (datagram : List ℕ) (first version : ℕ) (destination source rest : List ℕ) : Type 0 where
  pub whole : datagram ≡ long_head first version destination source ++ rest
  pub long_form : 128 ≤ first
  pub fixed : IsFixed grease first
  pub first_fits : first < 256
  pub version_fits : version < 2 ^ 32
  pub destination_fits : length destination ≤ 20
  pub source_fits : length source ≤ 20

-- the packet types of version 1, in bits 4 and 5 of the first byte, which any other supported version has too (RFC 9000, section 17.2)
abbrev pub type_of : (first : ℕ) → ℕ
type_of first = first / 16 % 4

abbrev pub initial_type : ℕ
initial_type = 0

abbrev pub zero_rtt_type : ℕ
zero_rtt_type = 1

-- the version is one of the endpoint's, and not that of version negotiation
abbrev pub IsListed : (versions : List ℕ) (version : ℕ) → Type 0
IsListed versions version = (version ≢ 0) × Contains versions version

-- behind the source id of an Initial stand the token behind its length, and the number of bytes that follow, all of which are there
-- (RFC 9000, section 17.2.2)
pub record IsTokenAndBody (bytes token : List ℕ) : Type 0 where
  pub after_token : List ℕ
  pub body : List ℕ
  pub rest : List ℕ
  pub token_is : IsValue Counted bytes (Text token) after_token
  pub body_is : IsValue Counted after_token (Text body) rest

-- an Initial packet (RFC 9000, section 17.2.2)
pub record IsInitial (versions : List ℕ) (grease : Bool) (datagram : List ℕ) (version first : ℕ) (destination source token : List ℕ) : Type 0 where
  pub after_source : List ℕ
  pub long : IsLong grease datagram first version destination source after_source
  pub listed : IsListed versions version
  pub type_is : type_of first ≡ initial_type
  pub token_is : IsTokenAndBody after_source token

-- a 0-RTT packet (RFC 9000, section 17.2.3)
pub record IsZeroRtt (versions : List ℕ) (grease : Bool) (datagram : List ℕ) (version : ℕ) (destination source : List ℕ) : Type 0 where
  pub first : ℕ
  pub after_source : List ℕ
  pub long : IsLong grease datagram first version destination source after_source
  pub listed : IsListed versions version
  pub type_is : type_of first ≡ zero_rtt_type

-- a Handshake or a Retry packet, or one of version negotiation (RFC 9000, sections 17.2.1, 17.2.4 and 17.2.5)
pub record IsOtherLong (versions : List ℕ) (grease : Bool) (datagram : List ℕ) (version : ℕ) (destination source : List ℕ) : Type 0 where
  pub first : ℕ
  pub after_source : List ℕ
  pub long : IsLong grease datagram first version destination source after_source
  pub kind : (version ≡ 0) ⊎ (IsListed versions version × (zero_rtt_type < type_of first))

-- a 1-RTT packet to an end whose ids have this length (RFC 9000, section 17.3.1)
pub record IsShort (id_length : ℕ) (grease : Bool) (datagram : List ℕ) (first : ℕ) (destination : List ℕ) : Type 0 where
  pub rest : List ℕ
  pub whole : datagram ≡ first ∷ (destination ++ rest)
  pub short_form : first < 128
  pub fixed : IsFixed grease first
  pub length_is : length destination ≡ id_length
  pub destination_fits : length destination ≤ 20

-- the datagram begins with this header, for an endpoint with these versions whose ids have this length
abbrev pub IsHeader : (id_length : ℕ) (versions : List ℕ) (grease : Bool) (datagram : List ℕ) → Header → Type 0
IsHeader id_length versions grease datagram (Initial version first destination source token) = IsInitial versions grease datagram version first destination source token
IsHeader id_length versions grease datagram (ZeroRtt version destination source) = IsZeroRtt versions grease datagram version destination source
IsHeader id_length versions grease datagram (Long version destination source) = IsOtherLong versions grease datagram version destination source
IsHeader id_length versions grease datagram (Short first destination) = IsShort id_length grease datagram first destination

-- the datagram begins with a long header of a version that the endpoint doesn't have; what follows its source id isn't read
pub record IsUnsupported (versions : List ℕ) (grease : Bool) (datagram : List ℕ) (version : ℕ) (destination source : List ℕ) : Type 0 where
  pub first : ℕ
  pub after_source : List ℕ
  pub long : IsLong grease datagram first version destination source after_source
  pub other : version ≢ 0
  pub unlisted : Contains versions version → ⊥

-- The datagram begins with none of these: its header is cut, an id is longer than 20 bytes, or the fixed bit is missing, as IsWrong says
-- one by one.
pub record IsMalformed (id_length : ℕ) (versions : List ℕ) (grease : Bool) (datagram : List ℕ) : Type 0 where
  pub no_header : (header : Header) → IsHeader id_length versions grease datagram header → ⊥
  pub no_version : (version : ℕ) (destination source : List ℕ) → IsUnsupported versions grease datagram version destination source → ⊥

-- no id of at most 20 bytes stands whole behind its length
pub data IsBadId (bytes : List ℕ) : Type 0 where
  no_length : bytes ≡ [] → IsBadId bytes
  cut : (size : ℕ) (rest : List ℕ) → bytes ≡ size ∷ rest → length rest < size → IsBadId bytes
  too_long : (size : ℕ) (rest : List ℕ) → bytes ≡ size ∷ rest → 20 < size → IsBadId bytes

-- what is wrong with a header that is malformed
pub data IsWrong (id_length : ℕ) (versions : List ℕ) (grease : Bool) (datagram : List ℕ) : Type 0 where
  is_empty : datagram ≡ [] → IsWrong id_length versions grease datagram
  -- the fixed bit is missing, and asked for
  has_no_bit : (first : ℕ) (rest : List ℕ) → datagram ≡ first ∷ rest → grease ≡ false → first / 64 % 2 ≡ 0 → IsWrong id_length versions grease datagram
  -- a short header is cut, or the endpoint's ids have more than 20 bytes
  is_short_cut : (first : ℕ) (rest : List ℕ) → datagram ≡ first ∷ rest → first < 128 → (length datagram < 1 + id_length) ⊎ (20 < id_length) → IsWrong id_length versions grease datagram
  -- a long one is cut before its ids
  is_long_cut : (first : ℕ) (rest : List ℕ) → datagram ≡ first ∷ rest → 128 ≤ first → length rest < 4 → IsWrong id_length versions grease datagram
  has_bad_destination : (first : ℕ) (version ids : List ℕ) → datagram ≡ first ∷ (version ++ ids) → 128 ≤ first → length version ≡ 4 → IsBadId ids → IsWrong id_length versions grease datagram
  has_bad_source : (first : ℕ) (version destination ids : List ℕ) → datagram ≡ first ∷ (version ++ (length destination ∷ (destination ++ ids))) → 128 ≤ first → length version ≡ 4 → IsBadId ids
      → IsWrong id_length versions grease datagram
  -- the token of an Initial in a supported version is cut, or its length, or that goes beyond the datagram
  has_cut_token : (first version : ℕ) (destination source rest : List ℕ) → IsLong grease datagram first version destination source rest → IsListed versions version → type_of first ≡ initial_type
      → ((token : List ℕ) → IsTokenAndBody rest token → ⊥) → IsWrong id_length versions grease datagram

-- why no header is read
pub data Fault : Type 0 where
  Malformed : Fault
  UnsupportedVersion : (version : ℕ) (destination source : List ℕ) → Fault

abbrev pub IsFault : (id_length : ℕ) (versions : List ℕ) (grease : Bool) (datagram : List ℕ) → Fault → Type 0
IsFault id_length versions grease datagram Malformed = IsMalformed id_length versions grease datagram
IsFault id_length versions grease datagram (UnsupportedVersion version destination source) = IsUnsupported versions grease datagram version destination source
