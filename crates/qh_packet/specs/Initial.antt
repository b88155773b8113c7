-- Initial packets, read and written (RFC 9000, section 17.2.2; the tag is own).
use Rattle.std.specs.Prelude.{◌≡◌, ℕ, ◌+◌, ◌-◌, ◌<◌, ◌≤◌, ◌^◌, nat_lt, Bool, true, false, List, ◌++◌, length, replicate}
use Rattle.std.specs.Int.{w16, to_be_bytes}
use Rattle.qh_spec.specs.Datagram.{IsInitialForm}
use Rattle.qh_spec.specs.Varint.{varint}
use Rattle.qh_packet.specs.LongHeader.{long_head}
use Rattle.qh_packet.specs.Packet.{low_bytes}

-- the bytes are an Initial packet of version 1 by its lengths, with these parts, and a rest
pub record BeginsWithInitial (bytes : List ℕ) (first : ℕ) (destination source token body rest : List ℕ) : Type 0 where
  pub front : List ℕ
  pub whole : bytes ≡ front ++ rest
  pub form : IsInitialForm front first body
  pub destination_is : form.destination ≡ destination
  pub source_is : form.source ≡ source
  pub token_is : form.token ≡ token

-- what stands behind a header with this first byte, whose reserved bits are 0, is a number, frames and a tag
pub record IsBody (first : ℕ) (body number frames tag : List ℕ) : Type 0 where
  pub whole : body ≡ number ++ (frames ++ tag)
  pub first_is : first ≡ 191 + length number
  pub some_number : 0 < length number
  pub short_number : length number ≤ 4
  pub tag_length : length tag ≡ 32

-- the length of a body of fewer than 2 ^ 14 bytes, in two bytes or in its shortest form
abbrev pub body_length : (is_wide : Bool) (n : ℕ) → List ℕ
body_length true n = to_be_bytes w16 (2 ^ 14 + n)
body_length false n = varint n

-- an Initial packet with four bytes of its number, as it is written
abbrev pub initial_bytes : (destination source token : List ℕ) (number : ℕ) (is_wide : Bool) (frames tag : List ℕ) → List ℕ
initial_bytes destination source token number is_wide frames tag =
    (long_head 195 1 destination source ++ (varint (length token) ++ token))
    ++ (body_length is_wide (36 + length frames) ++ (low_bytes number ++ (frames ++ tag)))

-- how many bytes that is beside the length of the body
abbrev pub bare_size : (destination source token frames : List ℕ) → ℕ
bare_size destination source token frames =
    43 + length destination + length source + (length (varint (length token)) + length token) + length frames

-- how many bytes it is in all, where the length of the body is in its shortest form
abbrev pub initial_size : (destination source token frames : List ℕ) → ℕ
initial_size destination source token frames = bare_size destination source token frames + length (varint (36 + length frames))

-- whether it is shorter than it should be
abbrev pub is_short : (destination source token frames : List ℕ) (size : ℕ) → Bool
is_short destination source token frames size = nat_lt (initial_size destination source token frames) size

-- the frames, and PADDING behind them until the packet has so many bytes with two for the length of its body
abbrev pub filled : (destination source token frames : List ℕ) (size : ℕ) → List ℕ
filled destination source token frames size = frames ++ replicate (size - (bare_size destination source token frames + 2)) 0

-- an Initial packet of at least so many bytes, as it is written
abbrev pub initial_filled : (destination source token : List ℕ) (number : ℕ) (frames : List ℕ) (size : ℕ) (tag : List ℕ) → List ℕ
initial_filled destination source token number frames size tag =
    initial_bytes destination source token number (is_short destination source token frames size) (filled destination source token frames size) tag
