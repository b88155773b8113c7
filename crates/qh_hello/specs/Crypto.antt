-- The bytes of the peer's CRYPTO frames as they come, in any order (RFC 9000, sections 7.5 and 19.6).
use Rattle.std.specs.Prelude.{◌≡◌, ℕ, ◌<◌, ◌≤◌, nat_lt, List, length, slice_get, Option, Some, None}
use Rattle.qh_buffers.specs.Assembler.{PlainAssembler, byte_of, or_byte, to_give, was_given}
use Rattle.qh_buffers.specs.declared.assembler.Chunk.{Chunk}

pub record PlainCrypto : Type 0 where
  -- what waits for what comes before it
  pub waiting : PlainAssembler
  -- what came from the beginning on, without a gap
  pub bytes : List ℕ
  -- no byte came behind this offset
  pub end : ℕ

-- the byte that came at an offset
abbrev pub came_at : PlainCrypto → ℕ → Option ℕ
came_at v k = or_byte (slice_get v.bytes k) (to_give v.waiting k)

-- just the bytes in front were taken out of what waits, and nothing came behind the end
pub record IsCrypto (v : PlainCrypto) : Type 0 where
  pub given : (k : ℕ) → was_given v.waiting k ≡ nat_lt k (length v.bytes)
  pub below : (k byte : ℕ) → to_give v.waiting k ≡ Some byte → k < v.end
  pub within : length v.bytes ≤ v.end

-- A frame's bytes came: at each offset the byte that came first stays.
abbrev pub HasTaken : (old new : PlainCrypto) → Chunk → Type 0
HasTaken old new c = (k : ℕ) → came_at new k ≡ or_byte (came_at old k) (byte_of c k)

-- the byte behind those in front didn't come
abbrev pub IsInFront : PlainCrypto → Type 0
IsInFront v = came_at v (length v.bytes) ≡ None
