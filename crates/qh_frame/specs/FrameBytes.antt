-- What is written of a frame: each number in its shortest form (RFC 9000, sections 12.4, 16 and 19).
use Rattle.std.specs.Prelude.{◌≡◌, ℕ, ◌/◌, ◌≤◌, List, [], ◌∷◌, ◌++◌, length, take, Option, Some, None}
use Rattle.qh_spec.specs.QuicFrames.{Part, Counted, ShortCounted, Value, Num, Text, Nums, QuicFrame, IsQuicFrame, shape_of}
use Rattle.qh_spec.specs.Varint.{varint}

abbrev pub numbers_bytes : List ℕ → List ℕ
numbers_bytes [] = []
numbers_bytes (n ∷ ns) = varint n ++ numbers_bytes ns

abbrev pub value_bytes : Part → Value → List ℕ
value_bytes part (Num n) = varint n
value_bytes Counted (Text t) = varint (length t) ++ t
value_bytes ShortCounted (Text t) = length t ∷ t
value_bytes part (Text t) = t
value_bytes part (Nums ns) = varint (length ns / 2) ++ numbers_bytes ns

abbrev pub values_bytes : List Part → List Value → List ℕ
values_bytes (part ∷ parts) (v ∷ vs) = value_bytes part v ++ values_bytes parts vs
values_bytes _ _ = []

abbrev pub fields_bytes : Option (List Part) → List Value → List ℕ
fields_bytes None values = []
fields_bytes (Some shape) values = values_bytes shape values

unfoldable pub frame_bytes : QuicFrame → List ℕ
frame_bytes f = varint f.kind ++ fields_bytes (shape_of f.kind) f.values

-- the frame stands behind what stood there, whatever comes behind it, and takes at most so many bytes
pub record IsPut (old new : List ℕ) (f : QuicFrame) (most : ℕ) : Type 0 where
  pub whole : new ≡ old ++ frame_bytes f
  pub is : (rest : List ℕ) → IsQuicFrame (frame_bytes f ++ rest) f rest
  pub size : length (frame_bytes f) ≤ most

-- what stood there still stands in front
abbrev pub HasGrown : List ℕ → List ℕ → Type 0
HasGrown old new = take (length old) new ≡ old
