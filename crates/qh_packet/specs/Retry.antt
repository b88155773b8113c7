-- Retry packets (RFC 9000, section 17.2.5; the tag is own).
use Rattle.std.specs.Prelude.{◌≡◌, ℕ, ◌≤◌, List, ◌∷◌, ◌++◌, length}
use Rattle.qh_spec.specs.Tag.{padded}
use Rattle.qh_packet.specs.LongHeader.{IsLongHeader, long_head}

-- A5, the length of the destination id of the client's first Initial, and its first 14 bytes, with zeros behind them
abbrev pub retry_tag_of : (original : List ℕ) → List ℕ
retry_tag_of original = 165 ∷ length original ∷ padded 14 original

-- the bytes are a Retry packet of version 1, whatever the low bits of its first byte
pub record IsRetryPacket (bytes destination source token tag : List ℕ) : Type 0 where
  pub first : ℕ
  pub header : IsLongHeader bytes first 1 destination source (token ++ tag)
  pub retry_type : 240 ≤ first
  pub tag_length : length tag ≡ 16

-- a Retry packet as it is written
abbrev pub retry_bytes : (destination source token original : List ℕ) → List ℕ
retry_bytes destination source token original = long_head 240 1 destination source ++ (token ++ retry_tag_of original)
