-- What the reader of a stream holds: which bytes it was given, and those that came and weren't given yet (RFC 9000,
-- section 2.2).
use Rattle.std.specs.Prelude.{◌≡◌, ◌⊎◌, ℕ, ◌+◌, ◌-◌, ◌<◌, ◌≤◌, ◌==◌, ◌^◌, min, nat_lt, nat_le, Bool, true, false, ◌&&◌, ◌||◌, List, [], ◌∷◌, ◌++◌, length, map, drop, slice_get, slice_range, slice_index_or, Option, Some, None, is_some, if◌then◌else◌}
use Rattle.std.specs.List.{list_any}
use Rattle.std.specs.declared.ops.Range.{Range}
use Rattle.qh_buffers.specs.declared.assembler.Chunk.{Chunk}
use Rattle.qh_buffers.specs.Ranges.{PlainRange, has, front_of, count_of, AreApart}

pub record PlainAssembler : Type 0 where
  -- the offsets that were given
  pub given : List PlainRange
  -- the pieces that wait, in order, no two over each other
  pub chunks : List Chunk

abbrev pub empty_assembler : PlainAssembler
empty_assembler = record { given = []; chunks = [] }

-- the byte of a piece at an offset of the stream
abbrev pub byte_of : Chunk → ℕ → Option ℕ
byte_of c k = if nat_lt k c.offset then None else slice_get c.bytes (k - c.offset)

-- the first of two where it is there, else the second
abbrev pub or_byte : Option ℕ → Option ℕ → Option ℕ
or_byte None second = second
or_byte (Some b) second = Some b

abbrev pub byte_in : List Chunk → ℕ → Option ℕ
byte_in [] k = None
byte_in (c ∷ cs) k = or_byte (byte_of c k) (byte_in cs k)

-- the byte that waits at an offset
abbrev pub to_give : PlainAssembler → ℕ → Option ℕ
to_give v k = byte_in v.chunks k

-- whether a read gave the byte at an offset
abbrev pub was_given : PlainAssembler → ℕ → Bool
was_given v k = has v.given k

-- how many bytes reads gave from the beginning on, without a gap
abbrev pub read_to : PlainAssembler → ℕ
read_to v = front_of v.given

-- A piece came: at each offset the byte that came first waits, unless it was given.
pub record IsInserted (old new : PlainAssembler) (c : Chunk) : Type 0 where
  pub bytes_are : (k : ℕ) → to_give new k ≡ (if was_given old k then None else or_byte (to_give old k) (byte_of c k))
  pub given_is : new.given ≡ old.given

-- the offsets of a piece
abbrev pub is_over : Chunk → ℕ → Bool
is_over c k = nat_le c.offset k && nat_lt k (c.offset + length c.bytes)

-- a piece with bytes that waited is given, and nothing else changes
pub record IsGiven (old new : PlainAssembler) (max : ℕ) (c : Chunk) : Type 0 where
  pub some : 0 < length c.bytes
  pub few : length c.bytes ≤ max
  pub waited : (k : ℕ) → is_over c k ≡ true → to_give old k ≡ byte_of c k
  pub new_ones : (k : ℕ) → is_over c k ≡ true → was_given old k ≡ false
  pub bytes_are : (k : ℕ) → to_give new k ≡ (if is_over c k then None else to_give old k)
  pub given_are : (k : ℕ) → was_given new k ≡ (is_over c k || was_given old k)

-- it is the longest piece from the first offset on that no read gave
pub record IsFrontPiece (old : PlainAssembler) (max : ℕ) (c : Chunk) : Type 0 where
  pub offset_is : c.offset ≡ read_to old
  pub longest : (length c.bytes ≡ max) ⊎ (to_give old (c.offset + length c.bytes) ≡ None)

-- no byte waits before it
abbrev pub IsLeastPiece : PlainAssembler → Chunk → Type 0
IsLeastPiece old c = (k : ℕ) → k < c.offset → to_give old k ≡ None

-- no byte waits
abbrev pub HasNothing : PlainAssembler → Type 0
HasNothing v = (k : ℕ) → to_give v k ≡ None

-- what a read may give waits: in order the next byte, otherwise some byte
pub record HasNext (v : PlainAssembler) (ordered : Bool) : Type 0 where
  pub waits : HasNothing v → ⊥
  pub next : ordered ≡ true → to_give v (read_to v) ≡ None → ⊥

-- What follows are words of what an assembler keeps, and of the private functions.

-- the offset behind a piece
abbrev pub end_of : Chunk → ℕ
end_of c = c.offset + length c.bytes

-- the pieces stand in order from an offset on, none is empty, no two are over each other, and offsets stay below 2 ^ 62
abbrev pub AreInOrder : ℕ → List Chunk → Type 0
AreInOrder low [] = Unit {0}
AreInOrder low (c ∷ cs) = (low ≤ c.offset) × (0 < length c.bytes) × (end_of c < 2 ^ 62) × AreInOrder (end_of c) cs

-- the pieces as a map keeps them: by the offset behind the last byte
abbrev pub pieces : List (ℕ × List ℕ) → List Chunk
pieces es = map (λ (e : ℕ × List ℕ). record { offset = e.0 - length e.1; bytes = e.1 }) es

-- from an offset on the pieces of a map stand in order, none is empty, no two are over each other, and offsets stay below
-- 2 ^ 62
abbrev pub AreStored : ℕ → List (ℕ × List ℕ) → Type 0
AreStored low [] = Unit {0}
AreStored low (e ∷ es) = (low + length e.1 ≤ e.0) × (0 < length e.1) × (e.0 < 2 ^ 62) × AreStored e.0 es

-- the pieces that wait stand in order in a queue or in a map, and one of the two is empty
pub record AreQueuedOrStored (queue : List Chunk) (es : List (ℕ × List ℕ)) : Type 0 where
  pub in_order : AreInOrder 0 queue
  pub stored : AreStored 0 es
  pub one : (queue ≡ []) ⊎ (es ≡ [])

-- a byte waits at the offset
abbrev pub waits_in : List Chunk → ℕ → Bool
waits_in cs k = is_some (byte_in cs k)

-- what an assembler keeps: its ranges are apart, it counts what it gave, its pieces stand in order, and no byte that was
-- given waits
pub record IsKept (given : List PlainRange) (chunks : List Chunk) (bytes_read : ℕ) : Type 0 where
  pub apart : AreApart 0 given
  pub below : (k : ℕ) → has given k ≡ true → k < 2 ^ 62
  pub counted : bytes_read ≡ count_of given
  pub in_order : AreInOrder 0 chunks
  pub exclusive : (k : ℕ) → has given k ≡ true → byte_in chunks k ≡ None

-- the offset behind the last of some pieces
abbrev pub end_behind : ℕ → List Chunk → ℕ
end_behind low [] = low
end_behind low (c ∷ cs) = end_behind (end_of c) cs

abbrev pub chunk_at : List Chunk → ℕ → Chunk
chunk_at cs i = slice_index_or cs i (record { offset = 0; bytes = [] })

-- the part of a piece between two offsets, where there is one
abbrev pub part : (from to : ℕ) → Chunk → List Chunk
part from to c = if nat_lt from to then record { offset = from; bytes = slice_range c.bytes (from - c.offset) (to - c.offset) } ∷ [] else []

-- the byte of a new piece at an offset, where it was neither given nor waits
abbrev pub missing_byte : List PlainRange → List Chunk → Chunk → ℕ → Option ℕ
missing_byte given cs new k = if has given k || waits_in cs k then None else byte_of new k

-- the parts of a piece between the offsets of some ranges
abbrev pub parts_of : Chunk → List (Range ℕ) → List Chunk
parts_of c [] = []
parts_of c (g ∷ gs) = part g.start g.end c ++ parts_of c gs

-- these ranges of offsets stand in order between two offsets, and none is empty
abbrev pub AreGaps : (low high : ℕ) → List (Range ℕ) → Type 0
AreGaps low high [] = Unit {0}
AreGaps low high (g ∷ gs) = (low ≤ g.start) × (g.start < g.end) × (g.end ≤ high) × AreGaps g.end high gs

-- one of the ranges ends at the offset
abbrev pub is_end : List (Range ℕ) → ℕ → Bool
is_end gs k = list_any (λ (g : Range ℕ). g.end == k) gs

-- these parts are what is missing
pub record AreMissing (given : List PlainRange) (cs : List Chunk) (new : Chunk) (parts : List Chunk) : Type 0 where
  pub in_order : AreInOrder 0 parts
  pub bytes_are : (k : ℕ) → byte_in parts k ≡ missing_byte given cs new k

-- no byte waits in both
abbrev pub AreExclusive : List Chunk → List Chunk → Type 0
AreExclusive cs parts = (k : ℕ) → waits_in parts k ≡ true → byte_in cs k ≡ None

-- parts were put among pieces
pub record AreMerged (old new parts : List Chunk) : Type 0 where
  pub in_order : AreInOrder 0 new
  pub bytes_are : (k : ℕ) → byte_in new k ≡ or_byte (byte_in old k) (byte_in parts k)

-- a new piece was put among pieces, where its bytes were missing
pub record IsAmong (given : List PlainRange) (old : List Chunk) (piece : Chunk) (new : List Chunk) : Type 0 where
  pub in_order : AreInOrder 0 new
  pub bytes_are : (k : ℕ) → byte_in new k ≡ or_byte (byte_in old k) (missing_byte given old piece k)

-- all bytes of the pieces, one after another
abbrev pub all_bytes : List Chunk → List ℕ
all_bytes [] = []
all_bytes (c ∷ cs) = c.bytes ++ all_bytes cs

-- how many bytes stand in front without a gap from an offset on, at most `max`
abbrev pub run_of : (offset max : ℕ) → List Chunk → ℕ
run_of offset max [] = 0
run_of offset max (c ∷ cs) = if c.offset == offset then if nat_le max (length c.bytes) then max else length c.bytes + run_of (end_of c) (max - length c.bytes) cs else 0

-- how many bytes stand in the first piece, at most `max`
abbrev pub first_of : (max : ℕ) → List Chunk → ℕ
first_of max [] = 0
first_of max (c ∷ cs) = min max (length c.bytes)

-- the pieces without so many bytes in front
abbrev pub after_front : ℕ → List Chunk → List Chunk
after_front n [] = []
after_front n (c ∷ cs) = if nat_lt n (length c.bytes) then record { offset = c.offset + n; bytes = drop n c.bytes } ∷ cs else after_front (n - length c.bytes) cs
