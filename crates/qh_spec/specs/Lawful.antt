-- What an end of a connection keeps of its streams, whatever comes to it (own).
use Rattle.std.specs.Prelude.{◌≡◌, ℕ, ◌+◌, true, List, [], ◌∷◌, ◌++◌, length, slice_get, Some}
use Rattle.qh_spec.specs.declared.sides.Side.{Side}
use Rattle.qh_spec.specs.Carried.{Carries, CarriesEnd}
use Rattle.qh_spec.specs.Link.{other}
use Rattle.qh_spec.specs.Lists.{In}
use Rattle.qh_spec.specs.Message.{PlainMessage}
use Rattle.qh_spec.specs.Spelling.{Spells}
use Rattle.qh_spec.specs.Transcript.{Act, handed_in, handed_out, written, finished, pieces_read, read, ended}

-- The two laws of an end, whose own ids have one length and its peer's another, with this behind it. What it hands out
-- carries of a stream only what was written there, and an end only where the stream was finished, behind all of it. What
-- it gave to a reader was carried to it, each byte at its offset, and an end that it told was carried to it behind as many
-- bytes as it gave.
pub record Lawful (side : Side) (own_length peer_length : ℕ) (t : List Act) : Type 0 where
  pub sent_byte : (stream offset byte : ℕ) → Carries peer_length (handed_out t) side stream offset byte → slice_get (written t stream) offset ≡ Some byte
  pub sent_end : (stream end : ℕ) → CarriesEnd peer_length (handed_out t) side stream end
      → (finished t stream ≡ true) × (end ≡ length (written t stream))
  pub read_byte : (stream at : ℕ) (bytes : List ℕ) (k byte : ℕ) → In (at, bytes) (pieces_read t stream) → slice_get bytes k ≡ Some byte
      → Carries own_length (handed_in t) (other side) stream (at + k) byte
  pub read_end : (stream : ℕ) → ended t stream ≡ true → CarriesEnd own_length (handed_in t) (other side) stream (length (read t stream))

-- the pieces begin at this offset, each where the one before it ends
abbrev pub AreInOrder : ℕ → List (ℕ × List ℕ) → Type 0
AreInOrder n [] = Unit {0}
AreInOrder n (p ∷ ps) = (p.0 ≡ n) × AreInOrder (n + length p.1) ps

-- a front of bytes that spell the message was written on the stream, and the stream was finished behind all of them alone
pub record WritesMessage (t : List Act) (stream : ℕ) (m : PlainMessage) : Type 0 where
  pub bytes : List ℕ
  pub spells : Spells bytes m
  pub rest : List ℕ
  pub front : bytes ≡ written t stream ++ rest
  pub whole : finished t stream ≡ true → rest ≡ []

-- what was read of the stream, in order and up to its end, spells the message
pub record ReadsMessage (t : List Act) (stream : ℕ) (m : PlainMessage) : Type 0 where
  pub in_order : AreInOrder 0 (pieces_read t stream)
  pub to_the_end : ended t stream ≡ true
  pub spells : Spells (read t stream) m
