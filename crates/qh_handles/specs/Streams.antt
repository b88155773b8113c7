-- What the handles of streams answer.
use Rattle.std.specs.Prelude.{◌≡◌, ◌⊎◌, ◌++◌, ℕ, List, length, drop, Option, Some, None}
use Rattle.qh_book.specs.declared.reply.Reply.{Reply}
use Rattle.qh_book.specs.declared.reply.Reply.TheVariants as reply
use Rattle.qh_buffers.specs.declared.assembler.Chunk.{Chunk}

-- This holds of a reply with bytes, and they stand in front of the buffer now and are so many; or it holds of the end, and the buffer is as it was.
abbrev pub IsReadInto : {T : Type 0} → (Reply T → Type 0) → Option ℕ → (old new : List ℕ) → Type 0
IsReadInto P (Some count) old new = (offset : ℕ) × (bytes : List ℕ) × P (reply.Bytes offset bytes) × (count ≡ length bytes) × (new ≡ bytes ++ drop count old)
IsReadInto P None old new = P reply.Ended × (new ≡ old)

-- the same where the end is told as no bytes
abbrev pub IsReadOrEnded : {T : Type 0} → (Reply T → Type 0) → (count : ℕ) → (old new : List ℕ) → Type 0
IsReadOrEnded P count old new = IsReadInto P (Some count) old new ⊎ ((count ≡ 0) × IsReadInto P None old new)

-- the reply that gave this piece, or the end
abbrev pub chunk_reply : {T : Type 0} → Option Chunk → Reply T
chunk_reply (Some c) = reply.Bytes c.offset c.bytes
chunk_reply None = reply.Ended
