-- What pieces of a stream are together.
use Rattle.std.specs.Prelude.{◌≡◌, ℕ, ◌+◌, ◌-◌, ◌≤◌, nat_lt, min, max, List, [], ◌∷◌, length, All, slice_get, Option, Some, None, unwrap_or, if◌then◌else◌}
use Rattle.std.specs.Option.{option_or}
use Rattle.qh_buffers.specs.declared.assembler.Chunk.{Chunk}
use Rattle.qh_parts.specs.declared.read_to_end.Extent.{Extent}

-- a buffer as a value
pub record PlainBuffer : Type 0 where
  -- the chunks that are kept, in the order in which they came
  pub kept : List Chunk
  -- from the least offset to the greatest end of all that came, none where nothing came
  pub extent : Option Extent
  pub size_limit : ℕ

-- a chunk's end
abbrev pub end_of : Chunk → ℕ
end_of c = c.offset + length c.bytes

-- the extent with one more chunk
abbrev pub widened : Option Extent → Chunk → Extent
widened None c = record { start = c.offset; end = end_of c }
widened (Some e) c = record { start = min e.start c.offset; end = max e.end (end_of c) }

abbrev pub len_of : Extent → ℕ
len_of e = e.end - e.start

-- the place of the first byte
abbrev pub start_or_zero : Option Extent → ℕ
start_or_zero None = 0
start_or_zero (Some e) = e.start

-- how many bytes there are
abbrev pub len_or_zero : Option Extent → ℕ
len_or_zero None = 0
len_or_zero (Some e) = len_of e

-- the byte of a chunk at a place of the stream, where it covers the place
abbrev pub byte_of : Chunk → ℕ → Option ℕ
byte_of c place = if nat_lt place c.offset then None else slice_get c.bytes (place - c.offset)

-- the byte of the last of the chunks that covers a place
abbrev pub last_byte : List Chunk → ℕ → Option ℕ
last_byte [] place = None
last_byte (c ∷ cs) place = option_or (last_byte cs place) (byte_of c place)

-- the byte at a place, 0 where no chunk covers it
unfoldable pub byte_at : List Chunk → ℕ → ℕ
byte_at chunks place = unwrap_or (last_byte chunks place) 0

-- a chunk lies within an extent
pub record IsWithin (e : Extent) (c : Chunk) : Type 0 where
  pub from : e.start ≤ c.offset
  pub to : end_of c ≤ e.end

-- an extent holds what is kept
abbrev pub Holds : Option Extent → List Chunk → Type 0
Holds None kept = kept ≡ []
Holds (Some e) kept = (e.start ≤ e.end) × All (IsWithin e) kept
