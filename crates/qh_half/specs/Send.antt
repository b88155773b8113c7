-- The sending half of a stream (RFC 9000, section 3.1).
use Rattle.std.specs.Prelude.{◌≡◌, ◌⊎◌, ℕ, ℤ, pos, ◌-◌, ◌<◌, ◌≤◌, ◌==◌, min, Bool, true, false, ◌&&◌, ◌||◌, List, [], ◌∷◌, ◌++◌, ◌+◌, nat_lt, length, drop, Option, Some, None, if◌then◌else◌}
use Rattle.qh_buffers.specs.declared.send_buffer.Mark.{Mark}
use Rattle.qh_buffers.specs.declared.send_buffer.Mark.TheVariants.{Sent, Queued, Acked}
use Rattle.qh_buffers.specs.SendBuffer.{PlainSendBuffer, empty_buffer, taken_to, mark_at, lost_mark, is_queued, is_acked, IsSpan, IsHandedOut, IsQueuedAgain, IsAcknowledged}
use Rattle.qh_half.specs.declared.send.SendState.{SendState}
use Rattle.qh_half.specs.declared.send.SendState.TheVariants.{Ready, DataSent, ResetSent}
use Rattle.qh_half.specs.declared.fault.WriteFault.{WriteFault}
use Rattle.qh_half.specs.declared.fault.WriteFault.TheVariants.{Blocked, Stopped, ClosedStream, Memory}
use Rattle.qh_half.specs.declared.fault.FinishFault.{FinishFault}
use Rattle.qh_half.specs.declared.fault.FinishFault.TheVariants.{Stopped as FinishStopped, ClosedStream as FinishClosed}

pub record PlainSend : Type 0 where
  -- the bytes that were taken
  pub buffer : PlainSendBuffer
  -- the peer's limit: bytes from this offset on may not be sent
  pub max_data : ℕ
  pub state : SendState
  -- the code of the peer's STOP_SENDING, if one came
  pub stop_reason : Option ℕ
  pub priority : ℤ

-- before the first byte, with this limit of the peer
abbrev pub new_send : (max_data : ℕ) → PlainSend
new_send max_data = record { buffer = empty_buffer; max_data = max_data; state = Ready; stop_reason = None; priority = pos 0 }

abbrev pub is_done_in : SendState → (held : ℕ) → Bool
is_done_in (DataSent Acked) held = held == 0
is_done_in (ResetSent code Acked) held = true
is_done_in _ held = false

-- the reset, or the end and all bytes, are acknowledged
abbrev pub is_done : PlainSend → Bool
is_done s = is_done_in s.state (length s.buffer.bytes)

abbrev pub is_ready : SendState → Bool
is_ready Ready = true
is_ready _ = false

abbrev pub is_reset : SendState → Bool
is_reset (ResetSent code mark) = true
is_reset _ = false

-- how many bytes may be taken now, under a limit beside the stream's own
abbrev pub credit : PlainSend → (limit : ℕ) → ℕ
credit s limit = min limit (s.max_data - taken_to s.buffer)

abbrev pub stopped_or_blocked : Option ℕ → (credit : ℕ) → Option WriteFault
stopped_or_blocked (Some code) credit = Some (Stopped code)
stopped_or_blocked None credit = if credit == 0 then Some Blocked else None

-- why a write takes nothing, by the first that fits
abbrev pub write_fault : PlainSend → (limit : ℕ) → Option WriteFault
write_fault s limit = if is_ready s.state then stopped_or_blocked s.stop_reason (credit s limit) else Some ClosedStream

-- the write waits for a limit
abbrev pub is_blocked_fault : Option WriteFault → Bool
is_blocked_fault (Some Blocked) = true
is_blocked_fault other = false

-- Why a write took nothing: what refuses it, or memory lacks for the bytes if nothing does.
abbrev pub IsWriteFault : WriteFault → Option WriteFault → Type 0
IsWriteFault e refusal = ((e ≡ Memory) × (refusal ≡ None)) ⊎ (refusal ≡ Some e)

-- the half with more bytes taken
abbrev pub with_bytes : PlainSend → List ℕ → PlainSend
with_bytes s bytes = record s { buffer = record s.buffer { bytes = s.buffer.bytes ++ bytes } }

-- chunks once their first `count` bytes were taken
abbrev pub chunks_after : (count : ℕ) → List (List ℕ) → List (List ℕ)
chunks_after count [] = []
chunks_after count (chunk ∷ chunks) = drop count chunk ∷ chunks_after (count - length chunk) chunks

-- how many chunks in front are taken whole with `count` bytes
abbrev pub whole_chunks : (count : ℕ) → List (List ℕ) → ℕ
whole_chunks count [] = 0
whole_chunks count (chunk ∷ chunks) = if nat_lt count (length chunk) then 0 else whole_chunks (count - length chunk) chunks + 1

abbrev pub stopped_or_closed : Option ℕ → SendState → Option FinishFault
stopped_or_closed (Some code) state = Some (FinishStopped code)
stopped_or_closed None state = if is_ready state then None else Some FinishClosed

-- why a stream isn't finished, by the first that fits
abbrev pub finish_fault : PlainSend → Option FinishFault
finish_fault s = stopped_or_closed s.stop_reason s.state

-- it was reset, or all is acknowledged
abbrev pub is_reset_refused : PlainSend → Bool
is_reset_refused s = is_reset s.state || is_done s

-- the end goes out with bytes that reach it
abbrev pub with_end_sent : SendState → SendState
with_end_sent (DataSent Queued) = DataSent Sent
with_end_sent other = other

abbrev pub is_finished : SendState → Bool
is_finished (DataSent mark) = true
is_finished _ = false

-- the end waits to be sent
abbrev pub is_end_queued : SendState → Bool
is_end_queued (DataSent Queued) = true
is_end_queued _ = false

-- a byte or the end waits to be sent
abbrev pub IsPending : PlainSend → Type 0
IsPending s = (is_reset s.state ≡ false) × (((k : ℕ) → is_queued s.buffer k ≡ false) → is_end_queued s.state ≡ true)

-- the bytes in between are held
abbrev pub IsHeld : PlainSendBuffer → (from to : ℕ) → Type 0
IsHeld v from to = (v.start ≤ from) × (from ≤ to) × (to ≤ taken_to v)

-- Bytes in between are handed out, with the end if they reach it and the stream was finished.
pub record IsPieceOut (old new : PlainSend) (room from to : ℕ) (fin : Bool) : Type 0 where
  pub not_reset : is_reset old.state ≡ false
  pub bytes_are : IsHandedOut old.buffer new.buffer room from to
  pub held : IsHeld new.buffer from to
  pub fin_is : fin ≡ (is_finished old.state && (to == taken_to old.buffer))
  pub state_is : new.state ≡ (if fin then with_end_sent old.state else old.state)
  pub rest_is : new ≡ record old { buffer = new.buffer; state = new.state }

-- the end alone is handed out, if no byte waits
pub record IsEndOut (old new : PlainSend) (from to : ℕ) (fin : Bool) : Type 0 where
  pub none : (k : ℕ) → is_queued old.buffer k ≡ false
  pub queued : is_end_queued old.state ≡ true
  pub at_end : (from ≡ taken_to old.buffer) × (to ≡ from)
  pub fin_is : fin ≡ true
  pub new_is : new ≡ record old { state = with_end_sent old.state }
  pub is_span : IsSpan new.buffer from to

-- an end that was sent, once it is acknowledged; one that isn't acknowledged, once it is lost
abbrev pub with_end_acked : SendState → SendState
with_end_acked (DataSent mark) = DataSent Acked
with_end_acked other = other

abbrev pub with_end_lost : SendState → SendState
with_end_lost (DataSent Sent) = DataSent Queued
with_end_lost other = other

-- the bytes in between, and the end with them, are acknowledged; if the stream was reset nothing changes
pub record IsPieceAcked (old new : PlainSend) (from to : ℕ) (fin : Bool) : Type 0 where
  pub bytes_are : is_reset old.state ≡ false → IsAcknowledged old.buffer new.buffer from to
  pub kept : is_reset old.state ≡ true → new ≡ old
  pub state_is : new.state ≡ (if fin then with_end_acked old.state else old.state)
  pub rest_is : new ≡ record old { buffer = new.buffer; state = new.state }

-- the bytes in between, and the end with them, are to be sent again; if the stream was reset nothing changes
pub record IsPieceQueued (old new : PlainSend) (from to : ℕ) (fin : Bool) : Type 0 where
  pub bytes_are : is_reset old.state ≡ false → IsQueuedAgain old.buffer new.buffer from to
  pub kept : is_reset old.state ≡ true → new ≡ old
  pub state_is : new.state ≡ (if fin then with_end_lost old.state else old.state)
  pub rest_is : new ≡ record old { buffer = new.buffer; state = new.state }

abbrev pub is_end_acked : SendState → Bool
is_end_acked (DataSent Acked) = true
is_end_acked _ = false

-- nothing of a frame is to be acknowledged any more
pub record IsSettled (s : PlainSend) (from to : ℕ) (fin : Bool) : Type 0 where
  pub bytes_are : is_reset s.state ≡ false → (k : ℕ) → from ≤ k → k < to → is_acked s.buffer k ≡ true
  pub end_is : is_reset s.state ≡ false → fin ≡ true → is_end_acked s.state ≡ true

-- the state after the RESET_STREAM frame was sent, acknowledged or lost
abbrev pub with_reset_mark : Mark → SendState → SendState
with_reset_mark mark (ResetSent code old) = ResetSent code mark
with_reset_mark mark other = other

-- the state after the RESET_STREAM frame is lost
abbrev pub with_reset_lost : SendState → SendState
with_reset_lost (ResetSent code mark) = ResetSent code (lost_mark mark)
with_reset_lost other = other

-- the RESET_STREAM frame waits to be sent
abbrev pub is_reset_queued : SendState → Bool
is_reset_queued (ResetSent code Queued) = true
is_reset_queued _ = false

-- nothing was sent of what wasn't taken
abbrev pub IsSentAsTaken : PlainSendBuffer → Type 0
IsSentAsTaken v = (k : ℕ) → taken_to v ≤ k → mark_at v k ≡ None

-- a RESET_STREAM frame is still to be acknowledged
abbrev pub owes_reset : SendState → Bool
owes_reset (ResetSent code Acked) = false
owes_reset (ResetSent code mark) = true
owes_reset other = false

-- the bytes that a half holds to send: none after a reset
abbrev pub held : PlainSend → ℕ
held h = if is_reset h.state then 0 else length h.buffer.bytes

-- bytes, an end or a reset wait to be sent
abbrev pub Waits : PlainSend → Type 0
Waits h = IsPending h ⊎ (is_reset_queued h.state ≡ true)

-- it takes bytes, and its limit permits some
abbrev pub is_writable : PlainSend → Bool
is_writable s = is_ready s.state && nat_lt (taken_to s.buffer) s.max_data
