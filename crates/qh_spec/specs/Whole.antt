-- When a stream, and a message on it, is whole in datagrams (own).
use Rattle.std.specs.Prelude.{◌≡◌, ℕ, List, length, slice_get, Some}
use Rattle.qh_spec.specs.declared.sides.Side.{Side}
use Rattle.qh_spec.specs.Carried.{Carries, CarriesEnd}
use Rattle.qh_spec.specs.Message.{PlainMessage}
use Rattle.qh_spec.specs.Spelling.{Spells}

-- The datagrams carry these bytes of the sender's part of the stream, each at its offset, and its end behind them, and
-- nothing that contradicts them: no other byte, no byte past the end, no other end (RFC 9000, sections 2.2 and 4.5).
pub record IsWholeStream (id_length : ℕ) (datagrams : List (List ℕ)) (sender : Side) (stream : ℕ) (bytes : List ℕ) : Type 0 where
  pub all : (offset byte : ℕ) → slice_get bytes offset ≡ Some byte → Carries id_length datagrams sender stream offset byte
  pub only : (offset byte : ℕ) → Carries id_length datagrams sender stream offset byte → slice_get bytes offset ≡ Some byte
  pub ends : CarriesEnd id_length datagrams sender stream (length bytes)
  pub once : (end : ℕ) → CarriesEnd id_length datagrams sender stream end → end ≡ length bytes

-- the stream is whole, and its bytes spell the message (own)
pub record IsWhole (id_length : ℕ) (datagrams : List (List ℕ)) (sender : Side) (stream : ℕ) (m : PlainMessage) : Type 0 where
  pub bytes : List ℕ
  pub stream_is : IsWholeStream id_length datagrams sender stream bytes
  pub spells : Spells bytes m
