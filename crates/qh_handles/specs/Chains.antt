-- Calls that are made one after another, as the loops of reads and writes make them.
use Rattle.std.specs.Prelude.{◌≡◌, ◌⊎◌, ℕ, ◌+◌, ◌-◌, ◌^◌, ◌<◌, ◌≤◌, Bool, true, false, List, [], ◌∷◌, ◌++◌, length, map, take, drop, slice_get, slice_index, EachIndex, Option, Some, None, is_some}
use Rattle.std.specs.List.{concat}
use Rattle.qh_base.specs.declared.stream_id.StreamId.{StreamId}
use Rattle.qh_book.specs.declared.call.Call.{Call}
use Rattle.qh_book.specs.declared.call.Call.TheVariants as call
use Rattle.qh_book.specs.declared.reply.Reply.{Reply}
use Rattle.qh_book.specs.declared.reply.Reply.TheVariants as reply
use Rattle.qh_buffers.specs.declared.assembler.Chunk.{Chunk}
use Rattle.qh_handles.specs.Origins.{IsFrom, read_origin}
use Rattle.qh_handles.specs.declared.error.ReadError.{ReadError}
use Rattle.qh_handles.specs.declared.error.ReadError.TheVariants as read
use Rattle.qh_handles.specs.declared.error.ReadExactError.{ReadExactError}
use Rattle.qh_handles.specs.declared.error.ReadExactError.TheVariants as exact
use Rattle.qh_handles.specs.declared.error.ReadToEndError.{ReadToEndError}
use Rattle.qh_handles.specs.declared.error.ReadToEndError.TheVariants as to_end
use Rattle.qh_handles.specs.declared.recv_stream.Halt.{Halt}
use Rattle.qh_handles.specs.declared.recv_stream.Halt.TheVariants as halt
use Rattle.qh_parts.specs.ReadToEndBuffer.{PlainBuffer, byte_at, end_of, len_of, len_or_zero, start_or_zero, widened}
use Rattle.qh_parts.specs.declared.read_to_end.Extent.{Extent}

-- these calls were made, each at the state that the one before it left, and replied so
abbrev pub Acts : {S C R : Type 0} (acts : S → C → R → S → Type 0) → S → List (C × R) → S → Type 0
Acts acts s [] t = s ≡ t
Acts acts s (e ∷ es) t = (mid : _) × acts s e.0 e.1 mid × Acts acts mid es t

-- ---- reads

abbrev pub bytes_of : {T : Type 0} → Reply T → List ℕ
bytes_of (reply.Bytes offset bytes) = bytes
bytes_of other = []

abbrev pub IsBytes : {T : Type 0} → Reply T → Type 0
IsBytes (reply.Bytes offset bytes) = Unit {0}
IsBytes other = ⊥

-- each is a read in order of as many bytes as are wanted still, of which there are some, and gave bytes
abbrev pub AreReads : {T : Type 0} → StreamId → (wanted : ℕ) → List (Call × Reply T) → Type 0
AreReads id wanted [] = Unit {0}
AreReads id wanted (e ∷ es) = (0 < wanted) × (e.0 ≡ call.Read id wanted true) × IsBytes e.1 × AreReads id (wanted - length (bytes_of e.1)) es

-- the bytes that they gave, in their order
abbrev pub all_bytes : {T : Type 0} → List (Call × Reply T) → List ℕ
all_bytes [] = []
all_bytes (e ∷ es) = bytes_of e.1 ++ all_bytes es

-- A buffer of which the front is filled was filled on by reads, one after another: their bytes stand behind what was there, and the rest is as it was.
pub record IsFilled {S T : Type 0} (acts : S → Call → Reply T → S → Type 0) (id : StreamId) (old : List ℕ) (filled : ℕ) (s : S) (new : List ℕ) (filled_now : ℕ) (mid : S) : Type 0 where
  pub reads : List (Call × Reply T)
  pub are : AreReads id (length old - filled) reads
  pub made : Acts acts s reads mid
  pub counted : filled_now ≡ filled + length (all_bytes reads)
  pub buffer : new ≡ take filled old ++ all_bytes reads ++ drop filled_now old

-- the stream ended when this much was filled, or the last read failed
abbrev pub IsExactError : {T : Type 0} → ReadExactError → (filled : ℕ) → (Reply T → Type 0) → Type 0 → Type 0
IsExactError (exact.FinishedEarly count) filled P Q = (count ≡ filled) × P reply.Ended
IsExactError (exact.ReadError e) filled P Q = IsFrom (read_origin e) P Q

-- ---- writes

abbrev pub count_of : {T : Type 0} → Reply T → ℕ
count_of (reply.Count count) = count
count_of other = 0

-- it is a write of all of a text that isn't empty, and so many of its bytes were written
abbrev pub IsWrite : {T : Type 0} → StreamId → List ℕ → Call × Reply T → Type 0
IsWrite id text e = (0 < length text) × (e.0 ≡ call.Write id text) × (e.1 ≡ reply.Count (count_of e.1)) × (count_of e.1 ≤ length text)

-- each is a write of all of the text that isn't written yet
abbrev pub AreWrites : {T : Type 0} → StreamId → List ℕ → List (Call × Reply T) → Type 0
AreWrites id text [] = Unit {0}
AreWrites id text (e ∷ es) = IsWrite id text e × AreWrites id (drop (count_of e.1) text) es

-- how many bytes they wrote
abbrev pub all_counts : {T : Type 0} → List (Call × Reply T) → ℕ
all_counts [] = 0
all_counts (e ∷ es) = count_of e.1 + all_counts es

-- Of a text the front was written, by writes one after another. This is what is left.
pub record IsWritten {S T : Type 0} (acts : S → Call → Reply T → S → Type 0) (id : StreamId) (text : List ℕ) (s : S) (left : List ℕ) (mid : S) : Type 0 where
  pub writes : List (Call × Reply T)
  pub are : AreWrites id text writes
  pub made : Acts acts s writes mid
  pub left_is : left ≡ drop (all_counts writes) text

-- ---- chunks

-- what is left of chunks of which so many are written whole
abbrev pub text_left : List (List ℕ) → (done : ℕ) → List ℕ
text_left bufs done = concat (drop done bufs)

-- this holds of the chunk at an index
abbrev pub OfChunk : List (List ℕ) → (index : ℕ) → (List ℕ → Type 0) → Type 0
OfChunk bufs index P = (chunk : List ℕ) × (slice_get bufs index ≡ Some chunk) × P chunk

-- So many bytes of a chunk in front of others were written. What is left of it stays in its place, unless nothing is.
abbrev pub IsBehind : (count : ℕ) → (chunk : List ℕ) → (rest next : List (List ℕ)) → Type 0
IsBehind count chunk rest next = ((count ≡ length chunk) × (next ≡ rest)) ⊎ ((count < length chunk) × (next ≡ drop count chunk ∷ rest))

-- each is a write of the first chunk that is left, as it is
abbrev pub AreChunkWrites : {T : Type 0} → StreamId → (old : List (List ℕ)) → List (Call × Reply T) → (left : List (List ℕ)) → Type 0
AreChunkWrites id old [] left = old ≡ left
AreChunkWrites id old (e ∷ es) left =
    (chunk : List ℕ) × (rest next : List (List ℕ)) × (old ≡ chunk ∷ rest) × (e.0 ≡ call.Write id chunk) × (e.1 ≡ reply.Count (count_of e.1)) × IsBehind (count_of e.1) chunk rest next
    × AreChunkWrites id next es left

-- Of chunks the front was written, by these writes, one after another. These are left.
pub record IsWrittenBy {S T : Type 0} (acts : S → Call → Reply T → S → Type 0) (id : StreamId) (writes : List (Call × Reply T)) (old : List (List ℕ)) (s : S) (left : List (List ℕ)) (mid : S) : Type 0 where
  pub are : AreChunkWrites id old writes left
  pub made : Acts acts s writes mid
  pub left_is : concat left ≡ drop (all_counts writes) (concat old)

-- the same, by some writes
pub record IsWrittenOf {S T : Type 0} (acts : S → Call → Reply T → S → Type 0) (id : StreamId) (old : List (List ℕ)) (s : S) (left : List (List ℕ)) (mid : S) : Type 0 where
  pub writes : List (Call × Reply T)
  pub written : IsWrittenBy acts id writes old s left mid

-- the last write took less than its chunk, and this is what is left of that
abbrev pub EndsInPart : {T : Type 0} → StreamId → List (Call × Reply T) → (left : List ℕ) → Type 0
EndsInPart {T} id writes left =
    (before : List (Call × Reply T)) × (chunk : List ℕ) × (count : ℕ) × (writes ≡ before ++ (call.Write id chunk, reply.Count count) ∷ []) × (count < length chunk) × (left ≡ drop count chunk)

-- the reply to a read of a piece
abbrev pub piece_read : {T : Type 0} → StreamId → (is_ordered : Bool) → Chunk → Call × Reply T
piece_read id is_ordered c = (call.Read id (2 ^ 64 - 1) is_ordered, reply.Bytes c.offset c.bytes)

-- The front of the chunks holds now what reads gave, one after another; the others are as they were.
pub record IsPlaced {S T : Type 0} (acts : S → Call → Reply T → S → Type 0) (id : StreamId) (old : List (List ℕ)) (s : S) (new : List (List ℕ)) (mid : S) (count : ℕ) : Type 0 where
  pub pieces : List Chunk
  pub made : Acts acts s (map (piece_read id true) pieces) mid
  pub counted : count ≡ length pieces
  pub placed : new ≡ map (λ (c : Chunk). c.bytes) pieces ++ drop count old

abbrev pub is_reset : ReadError → Bool
is_reset (read.Reset code) = true
is_reset other = false

-- a reply that ends reads behind some that gave bytes; a reset doesn't, since it is told once
abbrev pub EndsReads : {T : Type 0} → Reply T → Type 0
EndsReads reply.Pending = Unit {0}
EndsReads reply.Ended = Unit {0}
EndsReads (reply.ConnectionLost e) = Unit {0}
EndsReads reply.ClosedStream = Unit {0}
EndsReads reply.IllegalOrderedRead = Unit {0}
EndsReads other = ⊥

-- a reply that ends writes behind some that wrote bytes
abbrev pub EndsWrites : {T : Type 0} → Reply T → Type 0
EndsWrites reply.Pending = Unit {0}
EndsWrites (reply.Stopped code) = Unit {0}
EndsWrites (reply.ConnectionLost e) = Unit {0}
EndsWrites reply.ClosedStream = Unit {0}
EndsWrites other = ⊥

-- Why no more is written: all chunks are; the last write took less than its chunk; with the next chunk it would be more than can be counted; or some were written whole, and for the
-- next one memory was wanting, or it wrote nothing.
abbrev pub StopsWriting : {S T : Type 0} → (S → Call → Reply T → S → Type 0) → (S → S → Type 0) → StreamId → List (List ℕ) → List (Call × Reply T) → (bytes chunks : ℕ) → S → S → Type 0
StopsWriting {S} {T} acts stays id bufs writes bytes chunks mid t =
    ((chunks ≡ length bufs) × (mid ≡ t))
    ⊎ ((OfChunk bufs chunks (EndsInPart id writes) × (mid ≡ t))
    ⊎ (((0 < bytes) × OfChunk bufs chunks (λ chunk. 2 ^ 64 ≤ bytes + length chunk) × (mid ≡ t))
    ⊎ ((0 < chunks) × (chunks < length bufs) × ((stays mid t ⊎ (t ≡ mid)) ⊎ ((r : Reply T) × OfChunk bufs chunks (λ chunk. acts mid (call.Write id chunk) r t) × EndsWrites r)))))

-- So many chunks were written whole, and are empty now, and so many bytes altogether.
pub record IsPartly {S T : Type 0} (acts : S → Call → Reply T → S → Type 0) (stays : S → S → Type 0) (id : StreamId) (old : List (List ℕ)) (s : S) (new : List (List ℕ)) (t : S) (bytes chunks : ℕ) : Type 0 where
  pub mid : S
  pub writes : List (Call × Reply T)
  pub written : IsWrittenBy acts id writes old s (drop chunks new) mid
  pub emptied : concat (take chunks new) ≡ []
  pub counted : length (concat old) ≡ bytes + length (text_left new chunks)
  pub stopped : StopsWriting acts stays id new writes bytes chunks mid t

-- ---- all of a stream

abbrev pub widened_all : Option Extent → List Chunk → Option Extent
widened_all extent [] = extent
widened_all extent (c ∷ cs) = widened_all (Some (widened extent c)) cs

-- the buffer of a call that reads a stream to its end, before its first poll too
abbrev pub buffer_or : Option PlainBuffer → (size_limit : ℕ) → PlainBuffer
buffer_or None size_limit = record { kept = []; extent = None; size_limit = size_limit }
buffer_or (Some b) size_limit = b

-- The buffer took all pieces that reads gave, one after another, in whatever order they came. If it was within its limit it is still.
pub record IsGathered {S T : Type 0} (acts : S → Call → Reply T → S → Type 0) (id : StreamId) (old : PlainBuffer) (s : S) (new : PlainBuffer) (mid : S) : Type 0 where
  pub pieces : List Chunk
  pub made : Acts acts s (map (piece_read id false) pieces) mid
  pub kept : new ≡ record { kept = old.kept ++ pieces; extent = widened_all old.extent pieces; size_limit = old.size_limit }
  pub within : len_or_zero old.extent ≤ old.size_limit → len_or_zero new.extent ≤ new.size_limit

-- the bytes of a buffer, from the least offset to the greatest end
pub record AreAll (b : PlainBuffer) (bytes : List ℕ) : Type 0 where
  pub len : length bytes ≡ len_or_zero b.extent
  pub each : EachIndex bytes (λ i. slice_index bytes i ≡ byte_at b.kept (start_or_zero b.extent + i))

-- a piece that makes what came longer than the limit, or that ends where no stream does
abbrev pub IsTooLong : PlainBuffer → Chunk → Type 0
IsTooLong b c = (b.size_limit < len_of (widened b.extent c)) ⊎ (2 ^ 64 ≤ end_of c)

abbrev pub IsKeepError : ReadToEndError → PlainBuffer → Chunk → Type 0
IsKeepError to_end.TooLong b c = IsTooLong b c
IsKeepError (to_end.Read read.Memory) b c = IsTooLong b c → ⊥
IsKeepError other b c = ⊥

-- Why the call is over. Want of memory: the last piece isn't kept, though it isn't too long, or the bytes, of which some came, aren't put together. What is too long: the last piece makes
-- it so; or there are more pieces than can be counted, and this holds.
abbrev pub IsToEndError : {T : Type 0} → ReadToEndError → PlainBuffer → (Reply T → Type 0) → Type 0 → Type 0
IsToEndError (to_end.Read read.Memory) b P Q = (P reply.Ended × (is_some b.extent ≡ true)) ⊎ ((c : Chunk) × P (reply.Bytes c.offset c.bytes) × (IsTooLong b c → ⊥))
IsToEndError (to_end.Read e) b P Q = IsFrom (read_origin e) P ⊥
IsToEndError to_end.TooLong b P Q = ((c : Chunk) × P (reply.Bytes c.offset c.bytes) × IsTooLong b c) ⊎ ((2 ^ 64 - 1 ≤ length b.kept) × Q)

-- the call is over for this error, or there was no memory for a call
abbrev pub IsHalt : {T : Type 0} → Halt → PlainBuffer → (Reply T → Type 0) → (wants stands : Type 0) → Type 0
IsHalt halt.Wanting b P wants stands = wants
IsHalt (halt.Over e) b P wants stands = IsToEndError e b P stands

-- what is kept between polls is of this limit, and within it
abbrev pub FitsLimit : Option PlainBuffer → (size_limit : ℕ) → Type 0
FitsLimit None size_limit = Unit {0}
FitsLimit (Some b) size_limit = (b.size_limit ≡ size_limit) × (len_or_zero b.extent ≤ size_limit)
