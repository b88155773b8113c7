-- The halves of streams as an application sees them (RFC 9000, sections 3.1 and 3.2).
use Rattle.std.specs.Prelude.{ℕ, ℤ, pos, ◌+◌, ◌-◌, ◌==◌, nat_lt, max, Bool, true, false, ◌&&◌, ◌||◌, List, [], ◌∷◌, length, drop, Option, Some, None, is_some, if◌then◌else◌}
use Rattle.qh_buffers.specs.Assembler.{byte_of, is_over, or_byte}
use Rattle.qh_buffers.specs.declared.assembler.Chunk.{Chunk}

-- ---- the sending half

pub data SendState : Type 0 where
  Writing : SendState
  Finished : SendState
  WasReset : (code : ℕ) → SendState

pub record SendPage : Type 0 where
  -- how many bytes were written
  pub taken : ℕ
  -- those of them that the peer didn't confirm yet: the last ones
  pub unconfirmed : List ℕ
  pub state : SendState
  -- the code with which the peer asked to stop, if it did
  pub stop_code : Option ℕ
  -- the end is confirmed, or after a reset that one
  pub is_confirmed : Bool
  -- the peer's limit: bytes from this offset on may not be written
  pub credit_to : ℕ
  pub priority : ℤ

-- before the first byte, with this limit
abbrev pub new_send_page : (credit : ℕ) → SendPage
new_send_page credit = record { taken = 0; unconfirmed = []; state = Writing; stop_code = None; is_confirmed = false; credit_to = credit; priority = pos 0 }

abbrev pub is_empty : {X : Type 0} → List X → Bool
is_empty [] = true
is_empty (x ∷ xs) = false

abbrev pub is_done_in : SendState → (is_confirmed is_all_confirmed : Bool) → Bool
is_done_in Writing is_confirmed is_all_confirmed = false
is_done_in Finished is_confirmed is_all_confirmed = is_confirmed && is_all_confirmed
is_done_in (WasReset code) is_confirmed is_all_confirmed = is_confirmed

-- the reset, or the end and all bytes before it, are confirmed
abbrev pub is_send_done : SendPage → Bool
is_send_done p = is_done_in p.state p.is_confirmed (is_empty p.unconfirmed)

abbrev pub is_writing : SendState → Bool
is_writing Writing = true
is_writing other = false

abbrev pub is_reset : SendState → Bool
is_reset (WasReset code) = true
is_reset other = false

-- the page of a half that was neither finished nor reset
abbrev pub open_send : Option SendPage → Option SendPage
open_send None = None
open_send (Some p) = if is_writing p.state then Some p else None

-- the page of a half that isn't done
abbrev pub live_send : Option SendPage → Option SendPage
live_send None = None
live_send (Some p) = if is_send_done p then None else Some p

-- all bytes before this offset are confirmed, and the end if `has_end`; of a half that was reset that says nothing more
abbrev pub with_confirmed : (to : ℕ) (has_end : Bool) → SendPage → SendPage
with_confirmed to has_end p = record p {
  unconfirmed = drop (to - (p.taken - length p.unconfirmed)) p.unconfirmed;
  is_confirmed = (p.is_confirmed || has_end);
}

-- bytes that the peer didn't confirm are abandoned
abbrev pub with_reset : (code : ℕ) → SendPage → SendPage
with_reset code p = record p { unconfirmed = []; state = WasReset code; is_confirmed = false }

-- ---- the receiving half

pub data RecvState : Type 0 where
  Reading : RecvState
  Stopped : RecvState
  EndGiven : RecvState
  ResetGiven : RecvState

pub record RecvPage : Type 0 where
  -- the bytes that came and weren't read, by their offsets
  pub unread : ℕ → Option ℕ
  -- none of them has this offset or a later one
  pub unread_to : ℕ
  -- the next offset of a read in order, until one out of order is made
  pub next : ℕ
  -- the offsets of bytes that were read, and how many they are
  pub was_read : ℕ → Bool
  pub read : ℕ
  -- the final size, if it is known
  pub end : Option ℕ
  -- the code of the peer's reset, if one came
  pub reset_code : Option ℕ
  pub state : RecvState
  -- a read gave an error
  pub gave_error : Bool
  -- a read out of order was made
  pub is_unordered : Bool

abbrev pub new_recv_page : RecvPage
new_recv_page = record {
  unread = λ k. None;
  unread_to = 0;
  next = 0;
  was_read = λ k. false;
  read = 0;
  end = None;
  reset_code = None;
  state = Reading;
  gave_error = false;
  is_unordered = false;
}

abbrev pub is_open : RecvState → Bool
is_open Reading = true
is_open other = false

-- the page of a half that is read: no end and no reset was given, and it wasn't stopped
abbrev pub open_recv : Option RecvPage → Option RecvPage
open_recv None = None
open_recv (Some p) = if is_open p.state then Some p else None

-- the byte that can be read at an offset
abbrev pub unread_at : RecvPage → ℕ → Option ℕ
unread_at p k = if nat_lt k p.unread_to then p.unread k else None

abbrev pub without_unread : RecvPage → RecvPage
without_unread p = record p { unread = λ k. None; unread_to = 0 }

-- Bytes came. At each offset the one that came first stays, and what was read doesn't come again. None is kept of a half that isn't read any
-- more, or was reset.
abbrev pub with_run : Chunk → RecvPage → RecvPage
with_run c p = if is_some p.reset_code then p
    else record p { unread = λ k. if p.was_read k then None else or_byte (unread_at p k) (byte_of c k); unread_to = max p.unread_to (c.offset + length c.bytes) }

abbrev pub with_end : (size : ℕ) → RecvPage → RecvPage
with_end size p = if is_some p.reset_code then p else record p { end = Some size }

-- the peer reset the half: what wasn't read goes, and the first code stays
abbrev pub with_reset_by_peer : (code size : ℕ) → RecvPage → RecvPage
with_reset_by_peer code size p = if is_some p.reset_code then p else record (without_unread p) { end = Some size; reset_code = Some code }

-- these bytes were read
abbrev pub with_read : Chunk → (is_ordered : Bool) → RecvPage → RecvPage
with_read c is_ordered p = record p {
  unread = λ k. if is_over c k then None else p.unread k;
  next = (if is_ordered then c.offset + length c.bytes else p.next);
  was_read = λ k. is_over c k || p.was_read k;
  read = p.read + length c.bytes;
}

-- what wasn't replied yet goes: bytes, the end and the reset's code
abbrev pub is_given : RecvState → Bool
is_given EndGiven = true
is_given ResetGiven = true
is_given other = false

abbrev pub without_waiting : RecvPage → RecvPage
without_waiting p = record (without_unread p) { end = (if is_given p.state then p.end else None); reset_code = (if is_given p.state then p.reset_code else None) }

-- ---- pages by the id of their stream

abbrev pub put_at : {X : Type 0} → (ℕ → Option X) → (id : ℕ) → X → (ℕ → Option X)
put_at pages id x = λ k. if k == id then Some x else pages k

-- ---- the streams of a direction

pub record Tally : Type 0 where
  -- how many this end opened, and how many the peer permits
  pub opened : ℕ
  pub permitted : ℕ
  -- how many of the peer's came, and how many of these were accepted; the others wait
  pub arrived : ℕ
  pub accepted : ℕ

abbrev pub no_streams : Tally
no_streams = record { opened = 0; permitted = 0; arrived = 0; accepted = 0 }
