-- The receiving half of a stream (RFC 9000, section 3.2).
use Rattle.std.specs.Prelude.{◌≡◌, ◌⊎◌, ℕ, ◌+◌, ◌-◌, ◌<◌, ◌≤◌, ◌==◌, ◌^◌, nat_lt, min, max, Bool, MatchBool, true, false, ◌&&◌, ◌||◌, not, length, Option, Some, None, is_some, Result, Ok, Err, if◌then◌else◌}
use Rattle.qh_buffers.specs.declared.assembler.Chunk.{Chunk}
use Rattle.qh_buffers.specs.Ranges.{count_of}
use Rattle.qh_buffers.specs.Assembler.{PlainAssembler, empty_assembler, IsInserted, HasNothing, IsGiven, IsFrontPiece, IsLeastPiece, to_give, was_given, read_to}
use Rattle.qh_buffers.specs.declared.send_buffer.Mark.{Mark}
use Rattle.qh_buffers.specs.declared.send_buffer.Mark.TheVariants.{Queued, Acked}
use Rattle.qh_buffers.specs.SendBuffer.{lost_mark}
use Rattle.qh_half.specs.declared.recv.StopFrame.{StopFrame}
use Rattle.qh_half.specs.declared.recv.RecvState.{RecvState}
use Rattle.qh_half.specs.declared.recv.RecvState.TheVariants.{Recv, ResetRecvd}
use Rattle.qh_half.specs.declared.recv.IngestFault.{IngestFault}
use Rattle.qh_half.specs.declared.recv.IngestFault.TheVariants.{FlowControl, FinalSize, Memory as Wanting}
use Rattle.qh_half.specs.declared.fault.ReadableFault.{ReadableFault}
use Rattle.qh_half.specs.declared.fault.ReadableFault.TheVariants.{ClosedStream, IllegalOrderedRead}
use Rattle.qh_half.specs.declared.fault.ReadFault.{ReadFault}
use Rattle.qh_half.specs.declared.fault.ReadFault.TheVariants.{Blocked, Reset, Memory}

pub record PlainRecv : Type 0 where
  -- the bytes that came and were given
  pub assembler : PlainAssembler
  -- the offset behind the last byte that came
  pub end : ℕ
  -- the limit that was announced to the peer
  pub sent_max_stream_data : ℕ
  pub state : RecvState
  -- the application wants no more of it
  pub is_stopped : Bool
  -- a read gave the end or the reset
  pub is_given : Bool
  -- an unordered read was begun
  pub is_unordered : Bool
  -- what was done with the last limit that was announced
  pub limit_mark : Mark
  -- the STOP_SENDING frame, if the peer is told
  pub stop_frame : Option StopFrame

-- the final size, if it is known
abbrev pub final_size : RecvState → Option ℕ
final_size (Recv size) = size
final_size (ResetRecvd size code) = Some size

abbrev pub reset_code : RecvState → Option ℕ
reset_code (ResetRecvd size code) = Some code
reset_code (Recv size) = None

-- before the first byte, with this limit announced
abbrev pub new_recv : (max_data : ℕ) → PlainRecv
new_recv max_data = record {
  assembler = empty_assembler;
  end = 0;
  sent_max_stream_data = max_data;
  state = Recv None;
  is_stopped = false;
  is_given = false;
  is_unordered = false;
  limit_mark = Acked;
  stop_frame = None;
}

-- how many bytes reads gave
abbrev pub bytes_read : PlainRecv → ℕ
bytes_read r = count_of r.assembler.given

-- ---- faults (RFC 9000, sections 4.1 and 4.5), by the first that fits

-- Bytes up to this offset pass the stream's limit or, if the connection has received `received` bytes of this stream and others,
-- its limit.
abbrev pub passes_limit : PlainRecv → (received max_data to : ℕ) → Bool
passes_limit r received max_data to = nat_lt r.sent_max_stream_data to || nat_lt max_data (received + (to - r.end))

abbrev pub contradicts : Option ℕ → (end to : ℕ) → (is_end : Bool) → Bool
contradicts (Some size) end to is_end = nat_lt size to || (is_end && nat_lt to size)
contradicts None end to is_end = is_end && nat_lt to end

-- bytes up to this offset, or an end there, contradict the known end or the known bytes
abbrev pub contradicts_size : PlainRecv → (to : ℕ) → (is_end : Bool) → Bool
contradicts_size r to is_end = contradicts (final_size r.state) r.end to is_end

-- why bytes up to this offset, or an end there, are refused
abbrev pub ingest_fault : PlainRecv → (to : ℕ) → (is_end : Bool) → (received max_data : ℕ) → Option IngestFault
ingest_fault r to is_end received max_data =
    if passes_limit r received max_data to then Some FlowControl else if contradicts_size r to is_end then Some FinalSize else None

-- the answer for bytes that aren't taken: why they are refused or, if nothing is wrong with them, want of memory
abbrev pub IsFaultOf : IngestFault → Option IngestFault → Type 0
IsFaultOf e refusal = ((e ≡ Wanting) × (refusal ≡ None)) ⊎ (refusal ≡ Some e)

-- ---- what comes

-- the state with an end at this offset
abbrev pub with_size : (size : ℕ) → RecvState → RecvState
with_size size (Recv known) = Recv (Some size)
with_size size other = other

abbrev pub is_reset : RecvState → Bool
is_reset (Recv size) = false
is_reset (ResetRecvd size code) = true

-- bytes that come are kept, unless the stream was stopped or reset
abbrev pub keeps_bytes : PlainRecv → Bool
keeps_bytes r = not (r.is_stopped || is_reset r.state)

-- A piece came, and with it `fresh` bytes behind the last that came before.
pub record IsIngested (old new : PlainRecv) (c : Chunk) (fin : Bool) (fresh : ℕ) : Type 0 where
  pub bytes_are : keeps_bytes old ≡ true → IsInserted old.assembler new.assembler c
  pub dropped : keeps_bytes old ≡ false → new.assembler ≡ old.assembler
  pub end_is : new.end ≡ max old.end (c.offset + length c.bytes)
  pub fresh_is : new.end ≡ old.end + fresh
  pub state_is : new.state ≡ (if fin then with_size (c.offset + length c.bytes) old.state else old.state)
  pub rest_is : new ≡ record old { assembler = new.assembler; end = new.end; state = new.state }

-- A reset came, and with it `fresh` bytes behind the last that came before. What waited to be read is dropped.
pub record IsResetBy (old new : PlainRecv) (code size fresh : ℕ) : Type 0 where
  pub again : reset_code old.state ≡ None → new.state ≡ ResetRecvd size code
  pub kept : (known : ℕ) → reset_code old.state ≡ Some known → new.state ≡ old.state
  pub none : HasNothing new.assembler
  pub given_is : new.assembler.given ≡ old.assembler.given
  pub end_is : new.end ≡ size
  pub fresh_is : new.end ≡ old.end + fresh
  pub rest_is : new ≡ record old { assembler = new.assembler; end = new.end; state = new.state }

-- ---- reads

-- reads are refused: it was stopped, or its end or its reset was given
abbrev pub is_closed : PlainRecv → Bool
is_closed r = r.is_stopped || r.is_given

abbrev pub ends_at : RecvState → (read : ℕ) → Bool
ends_at (Recv (Some size)) read = read == size
ends_at _ read = false

-- all bytes up to the known end were given
abbrev pub is_at_end : PlainRecv → Bool
is_at_end r = ends_at r.state (bytes_read r)

-- the half is done: its end or its reset was given, or it was stopped and its final size came
abbrev pub is_done : PlainRecv → Bool
is_done r = r.is_given || (r.is_stopped && is_some (final_size r.state))

-- more bytes are wanted: it wasn't stopped, and the final size isn't known
abbrev pub wants_more : PlainRecv → Bool
wants_more r = not r.is_stopped && not (is_some (final_size r.state))

-- the limit that the bytes read and the window make, at most 2^62 - 1 (RFC 9000, section 4.1); it never falls
abbrev pub limit_of : PlainRecv → (window : ℕ) → ℕ
limit_of r window = max (min (2 ^ 62 - 1) (bytes_read r + window)) r.sent_max_stream_data

abbrev pub is_queued_mark : Mark → Bool
is_queued_mark Queued = true
is_queued_mark _ = false

abbrev pub is_acked_mark : Mark → Bool
is_acked_mark Acked = true
is_acked_mark _ = false

-- the stream's limit is to be announced: more bytes are wanted, and it exceeds the last one or a frame with that one is lost
abbrev pub is_limit_due : PlainRecv → (window : ℕ) → Bool
is_limit_due r window = wants_more r && (is_queued_mark r.limit_mark || nat_lt r.sent_max_stream_data (limit_of r window))

-- a MAX_STREAM_DATA frame with this limit is still to be acknowledged
abbrev pub owes_limit : PlainRecv → (limit : ℕ) → Bool
owes_limit r limit = wants_more r && (limit == r.sent_max_stream_data && not (is_acked_mark r.limit_mark))

-- ---- STOP_SENDING: it is of use as long as the final size isn't known (RFC 9000, section 3.5)

abbrev pub frame_is : (Mark → Bool) → Option StopFrame → Bool
frame_is test None = false
frame_is test (Some f) = test f.mark

abbrev pub is_stop_due : PlainRecv → Bool
is_stop_due r = not (is_some (final_size r.state)) && frame_is is_queued_mark r.stop_frame

abbrev pub owes_stop : PlainRecv → Bool
owes_stop r = not (is_some (final_size r.state)) && frame_is (λ m. not (is_acked_mark m)) r.stop_frame

abbrev pub acked_stop : StopFrame → StopFrame
acked_stop f = record { code = f.code; mark = Acked }

abbrev pub lost_stop : StopFrame → StopFrame
lost_stop f = record { code = f.code; mark = lost_mark f.mark }

-- the frame of a stream that is stopped, if the final size isn't known
abbrev pub new_stop : RecvState → (code : ℕ) → Option StopFrame
new_stop (Recv None) code = Some (record { code = code; mark = Queued })
new_stop _ code = None

-- a STOP_SENDING or a MAX_STREAM_DATA frame waits to be sent
abbrev pub is_frame_due : PlainRecv → (window : ℕ) → Bool
is_frame_due r window = is_stop_due r || is_limit_due r window

-- how many bytes count as read for the connection's limit: after a stop or a reset all that came
abbrev pub counted : PlainRecv → ℕ
counted r = if keeps_bytes r then bytes_read r else r.end

-- ---- what is read

-- why a read isn't begun
abbrev pub readable_fault : PlainRecv → (ordered : Bool) → Option ReadableFault
readable_fault r ordered =
    if is_closed r then Some ClosedStream else if ordered && r.is_unordered then Some IllegalOrderedRead else None

-- an unordered read was begun
abbrev pub with_order : PlainRecv → (ordered : Bool) → PlainRecv
with_order r ordered = record r { is_unordered = r.is_unordered || not ordered }

-- Bytes that wait are given, in an ordered read the longest prefix.
pub record IsRead (old new : PlainRecv) (max_length : ℕ) (c : Chunk) : Type 0 where
  pub not_reset : reset_code old.state ≡ None
  pub given : IsGiven old.assembler new.assembler max_length c
  pub front : old.is_unordered ≡ false → IsFrontPiece old.assembler max_length c
  pub least : old.is_unordered ≡ true → IsLeastPiece old.assembler c
  pub counted : bytes_read new ≡ bytes_read old + length c.bytes
  pub rest_is : new ≡ record old { assembler = new.assembler }

-- a read in this order that gives bytes gives at most so many
abbrev pub ReadsAtMost : PlainRecv → (ordered : Bool) → (max_length n : ℕ) → Type 0
ReadsAtMost r ordered max_length n = (new : PlainRecv) → (c : Chunk) → IsRead (with_order r ordered) new max_length c → length c.bytes ≤ n

-- so many bytes wait from the next one on, if the next read in this order is one in order
abbrev pub AreWaiting : PlainRecv → (ordered : Bool) → (n : ℕ) → Type 0
AreWaiting r ordered n = (ordered && not r.is_unordered) ≡ true → (k : ℕ) → k < n → is_some (to_give r.assembler (read_to r.assembler + k)) ≡ true

-- no byte that a read may give waits
abbrev pub WaitsForMore : PlainRecv → Type 0
WaitsForMore r = MatchBool r.is_unordered (HasNothing r.assembler) ((to_give r.assembler (read_to r.assembler) ≡ None) × (was_given r.assembler (read_to r.assembler) ≡ false))

-- Memory is wanted for bytes alone: some wait, some are asked for, and no reset came.
pub record WantsMemory (r : PlainRecv) (max_length : ℕ) : Type 0 where
  pub asked : 0 < max_length
  pub not_reset : reset_code r.state ≡ None
  pub waits : HasNothing r.assembler → ⊥

-- The answer of a read: bytes, the end or the reset, each only if it is its turn.
pub data IsReadAnswer (old new : PlainRecv) (max_length : ℕ) : Result (Option Chunk) ReadFault → Type 0 where
  bytes : (c : Chunk) → 0 < max_length → IsRead old new max_length c → IsReadAnswer old new max_length (Ok (Some c))
  nothing : max_length ≡ 0 → new ≡ old → (c : Chunk) → length c.bytes ≡ 0 → IsReadAnswer old new max_length (Ok (Some c))
  end : 0 < max_length → WaitsForMore old → is_at_end old ≡ true → new ≡ record old { is_given = true } → IsReadAnswer old new max_length (Ok None)
  reset : (code : ℕ) → 0 < max_length → reset_code old.state ≡ Some code → new ≡ record old { is_given = true }
      → IsReadAnswer old new max_length (Err (Reset code))
  blocked : 0 < max_length → WaitsForMore old → is_at_end old ≡ false → reset_code old.state ≡ None → new ≡ old → IsReadAnswer old new max_length (Err Blocked)
  memory : WantsMemory old max_length → new ≡ old → IsReadAnswer old new max_length (Err Memory)

-- The stream is stopped: what waited is dropped, and the peer is told if the final size isn't known.
pub record IsStopped (old new : PlainRecv) (code : ℕ) : Type 0 where
  pub not_closed : is_closed old ≡ false
  pub none : HasNothing new.assembler
  pub given_is : new.assembler.given ≡ old.assembler.given
  pub rest_is : new ≡ record old { assembler = new.assembler; is_stopped = true; stop_frame = new_stop old.state code }

-- the reset counts as given, if one came
abbrev pub with_reset_given : PlainRecv → PlainRecv
with_reset_given r = record r { is_given = is_some (reset_code r.state) }

-- what reads gave came before, bytes that wait came and lie before a known end, and the limit was never passed
pub record IsRecv (r : PlainRecv) : Type 0 where
  pub limit : r.end ≤ r.sent_max_stream_data
  pub bound : r.sent_max_stream_data < 2 ^ 62
  pub read : bytes_read r ≤ r.end
  pub given : (k : ℕ) → was_given r.assembler k ≡ true → k < r.end
  pub waiting : (k : ℕ) → r.end ≤ k → to_give r.assembler k ≡ None
  pub size : (n : ℕ) → final_size r.state ≡ Some n → r.end ≤ n

-- A read in this order waits: it may be made, and there is nothing for it.
pub record IsBlocked (r : PlainRecv) (ordered : Bool) : Type 0 where
  pub readable : readable_fault r ordered ≡ None
  pub waits : WaitsForMore (with_order r ordered)
  pub no_end : is_at_end r ≡ false
  pub no_reset : reset_code r.state ≡ None

-- none came, and reads aren't refused
abbrev pub awaits_reset : PlainRecv → Bool
awaits_reset r = not (is_closed r) && not (is_some (reset_code r.state))
