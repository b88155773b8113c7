-- What the sender of a stream holds: the bytes that were taken of the writer and aren't all acknowledged, and what was done
-- with each (RFC 9000, sections 2.2 and 13.3).
use Rattle.std.specs.Prelude.{◌≡◌, ◌⊎◌, ℕ, ◌+◌, ◌-◌, ◌<◌, ◌≤◌, nat_lt, nat_le, Bool, true, false, ◌&&◌, List, [], ◌∷◌, length, map, take, drop, slice_get, Option, Some, None, if◌then◌else◌}
use Rattle.qh_spec.specs.Lists.{In}
use Rattle.qh_buffers.specs.declared.send_buffer.Mark.{Mark}
use Rattle.qh_buffers.specs.declared.send_buffer.Mark.TheVariants.{Sent, Queued, Acked}
use Rattle.qh_buffers.specs.declared.send_buffer.Piece.{Piece}

pub record PlainSendBuffer : Type 0 where
  -- all bytes before this offset are acknowledged
  pub start : ℕ
  -- the bytes from there on
  pub bytes : List ℕ
  -- what was sent of them, in pieces side by side, each told by the offset behind it
  pub pieces : List Piece

abbrev pub empty_buffer : PlainSendBuffer
empty_buffer = record { start = 0; bytes = []; pieces = [] }

-- the offset behind the last byte that was taken
abbrev pub taken_to : PlainSendBuffer → ℕ
taken_to v = v.start + length v.bytes

-- the offset behind the pieces
abbrev pub pieces_end : ℕ → List Piece → ℕ
pieces_end start [] = start
pieces_end start (p ∷ ps) = pieces_end p.end ps

-- the offset behind the last byte that was sent
abbrev pub sent_to : PlainSendBuffer → ℕ
sent_to v = pieces_end v.start v.pieces

abbrev pub mark_in : List Piece → ℕ → Option Mark
mark_in [] k = None
mark_in (p ∷ ps) k = if nat_lt k p.end then Some p.mark else mark_in ps k

-- what was done with the byte at an offset; nothing of one that was never sent
abbrev pub mark_at : PlainSendBuffer → ℕ → Option Mark
mark_at v k = if nat_lt k v.start then Some Acked else mark_in v.pieces k

-- the mark of what is lost: what was sent waits again, where it isn't acknowledged
abbrev pub lost_mark : Mark → Mark
lost_mark Sent = Queued
lost_mark other = other

abbrev pub is_acked_mark : Option Mark → Bool
is_acked_mark (Some Acked) = true
is_acked_mark _ = false

abbrev pub is_acked : PlainSendBuffer → ℕ → Bool
is_acked v k = is_acked_mark (mark_at v k)

-- a byte waits where its piece is to be sent again, or where it was taken and never sent
abbrev pub waits : Option Mark → (is_taken : Bool) → Bool
waits None is_taken = is_taken
waits (Some Queued) is_taken = true
waits (Some _) is_taken = false

abbrev pub is_queued : PlainSendBuffer → ℕ → Bool
is_queued v k = waits (mark_at v k) (nat_lt k (taken_to v))

-- the byte at an offset, where it is still held
abbrev pub byte_at : PlainSendBuffer → ℕ → Option ℕ
byte_at v k = if nat_lt k v.start then None else slice_get v.bytes (k - v.start)

-- the bytes from an offset on to before another
abbrev pub bytes_between : PlainSendBuffer → (from to : ℕ) → List ℕ
bytes_between v from to = take (to - from) (drop (from - v.start) v.bytes)

abbrev pub is_between : (from to k : ℕ) → Bool
is_between from to k = nat_le from k && nat_lt k to

-- no piece lies on both sides of this offset, and not behind it was nothing sent
abbrev pub IsCut : PlainSendBuffer → ℕ → Type 0
IsCut v k = (k ≤ v.start) ⊎ In k (map (λ (p : Piece). p.end) v.pieces)

-- these bytes were sent together, or some of them again
pub record IsSpan (v : PlainSendBuffer) (from to : ℕ) : Type 0 where
  pub order : from ≤ to
  pub is_cut_from : IsCut v from
  pub is_cut_to : IsCut v to

-- offsets at which pieces were cut stay so
abbrev pub KeepsCuts : PlainSendBuffer → PlainSendBuffer → Type 0
KeepsCuts old new = (k : ℕ) → IsCut old k → IsCut new k

-- The bytes in between are handed out to be sent, and nothing else changes: the first that wait, as many as there is room
-- for, up to the end of a piece that is sent again or of all that was taken.
pub record IsHandedOut (old new : PlainSendBuffer) (room from to : ℕ) : Type 0 where
  pub some : from < to
  pub fits : to ≤ from + room
  pub queued : (k : ℕ) → from ≤ k → k < to → is_queued old k ≡ true
  pub is_first : (k : ℕ) → k < from → is_queued old k ≡ false
  pub longest : (to ≡ from + room) ⊎ ((to ≡ taken_to old) ⊎ IsCut old to)
  pub marks : (k : ℕ) → mark_at new k ≡ (if is_between from to k then Some Sent else mark_at old k)
  pub start_is : new.start ≡ old.start
  pub bytes_are : new.bytes ≡ old.bytes
  pub is_span : IsSpan new from to
  pub cuts : KeepsCuts old new

-- a byte that was sent waits again, where it isn't acknowledged
abbrev pub requeued : Option Mark → Option Mark
requeued (Some Sent) = Some Queued
requeued other = other

-- the bytes in between wait again, where they aren't acknowledged, and nothing else changes
pub record IsQueuedAgain (old new : PlainSendBuffer) (from to : ℕ) : Type 0 where
  pub marks : (k : ℕ) → mark_at new k ≡ (if is_between from to k then requeued (mark_at old k) else mark_at old k)
  pub start_is : new.start ≡ old.start
  pub bytes_are : new.bytes ≡ old.bytes
  pub cuts : KeepsCuts old new

-- the bytes in between are acknowledged, and what is acknowledged in front is let go
pub record IsAcknowledged (old new : PlainSendBuffer) (from to : ℕ) : Type 0 where
  pub marks : (k : ℕ) → mark_at new k ≡ (if is_between from to k then Some Acked else mark_at old k)
  pub freed : is_acked new new.start ≡ false
  pub rises : old.start ≤ new.start
  pub bytes_are : (k : ℕ) → new.start ≤ k → byte_at new k ≡ byte_at old k
  pub taken_is : taken_to new ≡ taken_to old
  pub sent_is : sent_to new ≡ sent_to old
  pub cuts : KeepsCuts old new
