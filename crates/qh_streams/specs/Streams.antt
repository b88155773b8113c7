-- The streams of a connection by their ids (RFC 9000, sections 2 to 4).
use Rattle.std.specs.Prelude.{◌≡◌, ◌⊎◌, ℕ, ◌+◌, ◌-◌, ◌%◌, ◌<◌, ◌≤◌, ◌^◌, ◌==◌, nat_lt, nat_le, min, max, Bool, true, false, ◌&&◌, ◌||◌, not, List, [], ◌∷◌, ◌++◌, length, reverse, Option, Some, None, is_some, IfSome, MatchBool, if◌then◌else◌}
use Rattle.std.specs.List.{list_any}
use Rattle.std.specs.Ordering.{nat_cmp}
use Rattle.std.specs.BTreeSet.{insert_key}
use Rattle.std.specs.Map.{keys_of}
use Rattle.std.specs.List.Sorted.{IsStrictlySortedBy}
use Rattle.qh_base.specs.declared.stream_id.StreamId.{StreamId}
use Rattle.qh_spec.specs.declared.sides.Side.{Side}
use Rattle.qh_spec.specs.declared.sides.Dir.{Dir}
use Rattle.qh_spec.specs.declared.sides.Dir.TheVariants.{Bi, Uni}
use Rattle.qh_spec.specs.Codes as codes
use Rattle.qh_spec.specs.FrameTypes as frame_types
use Rattle.qh_spec.specs.Lists.{In}
use Rattle.qh_spec.specs.QuicFrames.{QuicFrame, Num, IsQuicFrame}
use Rattle.qh_frame.specs.FrameBytes.{frame_bytes}
use Rattle.qh_frame.specs.Plain.{frame, by_dir}
use Rattle.qh_frame.specs.WrittenForm.{stream_form}
use Rattle.qh_buffers.specs.SendBuffer.{bytes_between}
use Rattle.qh_buffers.specs.declared.send_buffer.Mark.TheVariants.{Sent}
use Rattle.qh_buffers.specs.declared.assembler.Chunk.{Chunk}
use Rattle.qh_streams.specs.declared.streams.writing.Phase.{Phase}
use Rattle.qh_streams.specs.declared.streams.writing.Phase.TheVariants as phase
use Rattle.qh_streams.specs.declared.fault.StreamFault.{StreamFault}
use Rattle.qh_streams.specs.declared.fault.StreamFault.TheVariants.{Transport, Memory}
use Rattle.qh_half.specs.declared.fault.WriteFault.{WriteFault}
use Rattle.qh_half.specs.declared.fault.WriteFault.TheVariants.{Blocked, Memory as WriteMemory}
use Rattle.qh_streams.specs.declared.frames.PeerLimits.{PeerLimits}
use Rattle.qh_streams.specs.declared.frames.StreamFrame.{StreamFrame}
use Rattle.qh_streams.specs.declared.frames.StreamFrame.TheVariants as coming
use Rattle.qh_streams.specs.declared.frames.SentFrame.{SentFrame}
use Rattle.qh_streams.specs.declared.frames.SentFrame.TheVariants as sent
use Rattle.qh_streams.specs.declared.frames.StreamEvent.{StreamEvent}
use Rattle.qh_streams.specs.declared.frames.StreamEvent.TheVariants.{Opened, Readable, Writable, Finished, Stopped, Available}
use Rattle.qh_half.specs.declared.recv.IngestFault.{IngestFault}
use Rattle.qh_half.specs.declared.recv.IngestFault.TheVariants.{FlowControl, FinalSize}
use Rattle.qh_half.specs.declared.send.Outgoing.{Outgoing}
use Rattle.qh_half.specs.declared.send.ResetFrame.{ResetFrame}
use Rattle.qh_halves.specs.declared.counts.StreamCounts.{StreamCounts}
use Rattle.qh_halves.specs.declared.send_halves.Transmission.TheVariants.{Stream, Reset}
use Rattle.qh_halves.specs.declared.recv_halves.StreamControl.TheVariants.{StopSending, MaxStreamData}
use Rattle.qh_halves.specs.Counts.{AreCounts, is_own, is_bi, index_of, has_send, has_recv, count_limit, with_max_opened}
use Rattle.qh_halves.specs.Limit.{is_due, acked_at, lost_at, owes_value}
use Rattle.qh_half.specs.Send.{PlainSend, new_send}
use Rattle.qh_halves.specs.SendHalves.{PlainSendHalves, send_at, unacked, write_limit, write_fault_at, IsStep, IsAbsent, IsSettledBy, IsStoppedWith, HasLimit, IsUnblocked, IsSpanAt, IsSentNext, IsLost, IsAcked, IsResetLost, IsResetAcked, IsSettledAt, half_owes_reset, half_is_writable, half_holds, NoneWaits}
use Rattle.qh_half.specs.Recv.{PlainRecv, new_recv}
use Rattle.qh_halves.specs.RecvHalves.{PlainRecvHalves, recv_at, half_ingest_fault, half_is_wanted, data_limit, IsRecvStep, IsPieceTaken, IsResetTaken, IsRecvAbsent, GivesControl, NoneIsDue, IsStopLost, IsStopAcked, IsLimitLost, IsLimitAcked, half_owes_limit, half_owes_stop}

pub record PlainStreams : Type 0 where
  pub side : Side
  -- the halves
  pub send : PlainSendHalves
  pub recv : PlainRecvHalves
  -- the counts of the two directions
  pub bi : StreamCounts
  pub uni : StreamCounts
  -- the first limits of the peer
  pub peer : PeerLimits
  -- the streams on which bytes may be written once the limits that all share permit it
  pub blocked : List ℕ
  -- what happened and wasn't told
  pub events : List StreamEvent

-- ---- ids

abbrev pub counts_of : PlainStreams → Bool → StreamCounts
counts_of s two_way = if two_way then s.bi else s.uni

abbrev pub with_counts : PlainStreams → Bool → StreamCounts → PlainStreams
with_counts s two_way c = if two_way then record s { bi = c } else record s { uni = c }

abbrev pub is_two_way : Dir → Bool
is_two_way Bi = true
is_two_way Uni = false

abbrev pub dir_of : (id : ℕ) → Dir
dir_of id = if is_bi id then Bi else Uni

-- the stream was opened, by this end or by the peer
abbrev pub was_opened : PlainStreams → (id : ℕ) → Bool
was_opened s id = nat_lt (index_of id) (if is_own s.side id then (counts_of s (is_bi id)).opened else (counts_of s (is_bi id)).arrived)

-- a half of the stream isn't done
abbrev pub is_live : PlainStreams → (id : ℕ) → Bool
is_live s id = is_some (send_at s.send id) || is_some (recv_at s.recv id)

-- the first limit of the peer on a stream (RFC 9000, section 18.2)
abbrev pub first_limit : PlainStreams → (id : ℕ) → ℕ
first_limit s id = if is_bi id then (if is_own s.side id then s.peer.bidi_remote else s.peer.bidi_local) else s.peer.uni

-- the halves of a stream that is new
abbrev pub new_send_half : PlainStreams → (id : ℕ) → Option PlainSend
new_send_half s id = if has_send s.side id then Some (new_send (first_limit s id)) else None

abbrev pub new_recv_half : PlainStreams → (id : ℕ) → Option PlainRecv
new_recv_half s id = if has_recv s.side id then Some (new_recv (min s.recv.stream_window (2 ^ 62 - 1))) else None

-- one more of the peer's streams is closed, if the last half of this one went
abbrev pub counted_closed : PlainStreams → (id : ℕ) → (was_live : Bool) → PlainStreams
counted_closed s id was_live =
    if not (is_own s.side id) && (was_live && not (is_live s id)) then
    with_counts s (is_bi id) (record (counts_of s (is_bi id)) { closed = min (2 ^ 64 - 1) ((counts_of s (is_bi id)).closed + 1) })
    else s

-- the peer's first limits are known
abbrev pub with_peer : PlainStreams → PeerLimits → PlainStreams
with_peer s peer = record s {
  peer = peer;
  send = record s.send { max_data = max s.send.max_data peer.max_data };
  bi = with_max_opened peer.max_bidi s.bi;
  uni = with_max_opened peer.max_uni s.uni;
}

-- ---- streams that are new

-- these streams got their halves; all others are as they were
pub record AreOpened (old new : PlainStreams) (are_new : ℕ → Bool) : Type 0 where
  pub send_is : (k : ℕ) → send_at new.send k ≡ (if are_new k then new_send_half old k else send_at old.send k)
  pub recv_is : (k : ℕ) → recv_at new.recv k ≡ (if are_new k then new_recv_half old k else recv_at old.recv k)
  pub send_rest : new.send ≡ record old.send { halves = new.send.halves }
  pub recv_rest : new.recv ≡ record old.recv { halves = new.recv.halves }
  -- all halves together hold as many bytes as before
  pub held_is : unacked new.send.halves ≡ unacked old.send.halves

abbrev pub with_opened : StreamCounts → StreamCounts
with_opened c = record c { opened = c.opened + 1 }

abbrev pub with_accepted : StreamCounts → StreamCounts
with_accepted c = record c { accepted = c.accepted + 1 }

-- this end opened a stream
pub record IsOpened (old new : PlainStreams) (id : ℕ) : Type 0 where
  pub halves : AreOpened old new (λ k. k == id)
  pub rest_is : new ≡ with_counts (record old { send = new.send; recv = new.recv }) (is_bi id) (with_opened (counts_of old (is_bi id)))

-- the stream, and those of the peer's before it that didn't come yet
abbrev pub arrives_with : PlainStreams → (id : ℕ) → (k : ℕ) → Bool
arrives_with s id k = k % 4 == id % 4 && (nat_le (counts_of s (is_bi id)).arrived (index_of k) && nat_le (index_of k) (index_of id))

-- the halves stand in the order of their ids, and a stream that wasn't opened has none
pub record IsSorted (s : PlainStreams) : Type 0 where
  pub send : IsStrictlySortedBy nat_cmp (keys_of s.send.halves)
  pub recv : IsStrictlySortedBy nat_cmp (keys_of s.recv.halves)
  pub no_send : (k : ℕ) → was_opened s k ≡ false → send_at s.send k ≡ None
  pub no_recv : (k : ℕ) → was_opened s k ≡ false → recv_at s.recv k ≡ None

-- a stream of this end's was opened, one of the peer's lies within the count that was announced
abbrev pub IsWithinCount : PlainStreams → (id : ℕ) → Type 0
IsWithinCount s id = MatchBool (is_own s.side id) (was_opened s id ≡ true) (index_of id < (counts_of s (is_bi id)).announced.value)

-- a frame named a stream: if the peer opens it and it didn't come yet, it is there now, and those before it
pub record HasArrived (old new : PlainStreams) (id : ℕ) : Type 0 where
  pub known : was_opened old id ≡ true → new ≡ old
  pub halves : was_opened old id ≡ false → AreOpened old new (arrives_with old id)
  pub rest_is : was_opened old id ≡ false → new ≡ with_counts (record old { send = new.send; recv = new.recv; events = old.events ++ Opened (dir_of id) ∷ [] })
      (is_bi id) (record (counts_of old (is_bi id)) { arrived = index_of id + 1 })

-- a stream's arrival can be taken back, and that of those before it, if `arrived` had come before: none of them was accepted,
-- and none came behind it
pub record CanDepart (s : PlainStreams) (id arrived : ℕ) : Type 0 where
  pub own : is_own s.side id ≡ true → was_opened s id ≡ true
  pub last : is_own s.side id ≡ false → arrived < (counts_of s (is_bi id)).arrived
      → ((counts_of s (is_bi id)).accepted ≤ arrived) × (index_of id + 1 ≡ (counts_of s (is_bi id)).arrived)

-- ---- frames that come, and their faults (RFC 9000, sections 4, 19 and 20.1)

-- the code of a fault, and the type of the frame
pub record Refusal : Type 0 where
  pub code : ℕ
  pub frame : ℕ

abbrev pub refused : (code frame : ℕ) → Option Refusal
refused code frame = Some (record { code = code; frame = frame })

abbrev pub or_refusal : Option Refusal → Option Refusal → Option Refusal
or_refusal None second = second
or_refusal (Some r) second = Some r

-- STREAM_STATE_ERROR for a stream that has no such half, and for one of this end's that it never opened; STREAM_LIMIT_ERROR
-- for one of the peer's past the count that was announced
abbrev pub id_refusal : PlainStreams → (id : ℕ) → (has_half : Bool) → (frame : ℕ) → Option Refusal
id_refusal s id has_half frame =
    if not has_half then refused codes.stream_state_error frame
    else if is_own s.side id then (if was_opened s id then None else refused codes.stream_state_error frame)
    else (if nat_lt (index_of id) (counts_of s (is_bi id)).announced.value then None else refused codes.stream_limit_error frame)

-- FLOW_CONTROL_ERROR and FINAL_SIZE_ERROR
abbrev pub ingest_refusal : Option IngestFault → (frame : ℕ) → Option Refusal
ingest_refusal (Some FlowControl) frame = refused codes.flow_control_error frame
ingest_refusal (Some FinalSize) frame = refused codes.final_size_error frame
ingest_refusal _ frame = None

-- the receiving half of a stream, once it is there
abbrev pub recv_or_new : PlainStreams → (id : ℕ) → Option PlainRecv
recv_or_new s id = if was_opened s id then recv_at s.recv id else new_recv_half s id

abbrev pub size_refusal : PlainStreams → (id to : ℕ) → (is_end : Bool) → (frame : ℕ) → Option Refusal
size_refusal s id to is_end frame = ingest_refusal (half_ingest_fault (recv_or_new s id) to is_end s.recv.received s.recv.announced.value) frame

-- FRAME_ENCODING_ERROR for a count of streams above 2^60 (section 19.11)
abbrev pub count_refusal : Dir → (count : ℕ) → Option Refusal
count_refusal Bi count = if nat_lt (2 ^ 60) count then refused codes.frame_encoding_error frame_types.max_streams_bidi else None
count_refusal Uni count = if nat_lt (2 ^ 60) count then refused codes.frame_encoding_error frame_types.max_streams_uni else None

-- why a frame is refused, by the first that fits
abbrev pub refusal_of : PlainStreams → StreamFrame → Option Refusal
refusal_of s (coming.Stream id offset payload fin) = or_refusal (id_refusal s id.0 (has_recv s.side id.0) frame_types.stream) (size_refusal s id.0 (offset + length payload) fin frame_types.stream)
refusal_of s (coming.Reset id code size) = or_refusal (id_refusal s id.0 (has_recv s.side id.0) frame_types.reset_stream) (size_refusal s id.0 size true frame_types.reset_stream)
refusal_of s (coming.Stop id code) = id_refusal s id.0 (has_send s.side id.0) frame_types.stop_sending
refusal_of s (coming.MaxData limit) = None
refusal_of s (coming.MaxStreamData id limit) = id_refusal s id.0 (has_send s.side id.0) frame_types.max_stream_data
refusal_of s (coming.MaxStreams dir count) = count_refusal dir count

-- the fault has this code and frame type
abbrev pub IsRefusal : StreamFault → Option Refusal → Type 0
IsRefusal (Transport e) (Some r) = (e.code.0 ≡ r.code) × (e.frame ≡ Some r.frame)
IsRefusal _ _ = ⊥

-- the answer for a frame that isn't taken: why it is refused or, if nothing is wrong with it, want of memory
abbrev pub IsRefusedBy : StreamFault → Option Refusal → Type 0
IsRefusedBy e refusal = ((e ≡ Memory) × (refusal ≡ None)) ⊎ IsRefusal e refusal

-- a stream that was there has news for its reader
abbrev pub readable_events : PlainStreams → StreamId → List StreamEvent
readable_events s id = if was_opened s id.0 && half_is_wanted (recv_at s.recv id.0) then Readable id ∷ [] else []

abbrev pub available_events : StreamCounts → (count : ℕ) → Dir → List StreamEvent
available_events c count dir = if nat_lt c.max_opened count then Available dir ∷ [] else []

-- the stream is told once its bytes may be written again that its own limit forbade, and only then
abbrev pub HasUnblocked : (old new : PlainStreams) → (id limit : ℕ) → Type 0
HasUnblocked old new id limit = (IsUnblocked limit (send_at old.send id) × (new.blocked ≡ insert_key nat_cmp old.blocked id))
    ⊎ ((IsUnblocked limit (send_at old.send id) → ⊥) × (new.blocked ≡ old.blocked))

-- a piece of a stream came
pub record IsPieceReceived (old new : PlainStreams) (id : StreamId) (piece : Chunk) (fin : Bool) : Type 0 where
  pub mid : PlainStreams
  pub arrived : HasArrived old mid id.0
  pub taken : IsPieceTaken mid.recv new.recv id.0 piece fin ⊎ IsRecvAbsent mid.recv new.recv id.0
  pub rest_is : new ≡ counted_closed (record mid { recv = new.recv; events = mid.events ++ readable_events old id }) id.0 (is_live mid id.0)

-- a reset of a stream came
pub record IsResetReceived (old new : PlainStreams) (id : StreamId) (code size : ℕ) : Type 0 where
  pub mid : PlainStreams
  pub arrived : HasArrived old mid id.0
  pub taken : IsResetTaken mid.recv new.recv id.0 code size ⊎ IsRecvAbsent mid.recv new.recv id.0
  pub rest_is : new ≡ counted_closed (record mid { recv = new.recv; events = mid.events ++ readable_events old id }) id.0 (is_live mid id.0)

-- what a frame does that is taken
pub data IsReceived (old new : PlainStreams) : StreamFrame → Type 0 where
  stream : (id : StreamId) (offset : ℕ) (payload : List ℕ) (fin : Bool) → IsPieceReceived old new id (record { offset = offset; bytes = payload }) fin
      → IsReceived old new (coming.Stream id offset payload fin)
  reset : (id : StreamId) (code size : ℕ) → IsResetReceived old new id code size → IsReceived old new (coming.Reset id code size)
  stop : (mid : PlainStreams) (id : StreamId) (code : ℕ) → HasArrived old mid id.0 → IsStep (IsStoppedWith code) mid.send new.send id.0 0
      → new ≡ record mid { send = new.send; events = mid.events ++ Stopped id code ∷ [] } → IsReceived old new (coming.Stop id code)
  stopped_before : (id : StreamId) (code : ℕ) → HasArrived old new id.0
      → IfSome (send_at new.send id.0) (λ h. (h.stop_reason ≡ None) → ⊥) → IsReceived old new (coming.Stop id code)
  max_data : (limit : ℕ) → new ≡ record old { send = record old.send { max_data = max old.send.max_data limit } } → IsReceived old new (coming.MaxData limit)
  max_stream_data : (mid : PlainStreams) (id : StreamId) (limit : ℕ) → HasArrived old mid id.0
      → IsStep (HasLimit limit) mid.send new.send id.0 0 ⊎ IsAbsent mid.send new.send id.0
      → HasUnblocked mid new id.0 limit → new ≡ record mid { send = new.send; blocked = new.blocked } → IsReceived old new (coming.MaxStreamData id limit)
  max_streams : (dir : Dir) (count : ℕ) → new ≡ with_counts (record old { events = old.events ++ available_events (counts_of old (is_two_way dir)) count dir }) (is_two_way dir)
      (with_max_opened count (counts_of old (is_two_way dir))) → IsReceived old new (coming.MaxStreams dir count)

-- ---- writers

-- a writer that was refused for the limits that all share is told once they permit bytes again
abbrev pub with_blocked : PlainStreams → (id : ℕ) → WriteFault → PlainStreams
with_blocked s id Blocked = if write_limit s.send == 0 then record s { blocked = insert_key nat_cmp s.blocked id } else s
with_blocked s id other = s

-- A write may want memory for bytes that nothing refuses, and to note a writer that the limits which all share refuse.
abbrev pub MayWantMemory : PlainStreams → (id : ℕ) → Type 0
MayWantMemory s id = (write_fault_at s.send id ≡ None) ⊎ ((write_fault_at s.send id ≡ Some Blocked) × (write_limit s.send ≡ 0))

-- why a write took nothing: what refuses it, or memory lacks
abbrev pub IsWriteRefusal : (old new : PlainStreams) → (id : ℕ) → WriteFault → Type 0
IsWriteRefusal old new id e = ((e ≡ WriteMemory) × MayWantMemory old id × (new ≡ old)) ⊎ ((write_fault_at old.send id ≡ Some e) × (new ≡ with_blocked old id e))

-- none of these may be written
abbrev pub NoneWritable : PlainStreams → List ℕ → Type 0
NoneWritable s ids = (k : ℕ) → list_any (λ j. j == k) ids ≡ true → half_is_writable (send_at s.send k) ≡ false

-- the streams that are still to be told: if bytes may be written all those were looked at
abbrev pub still_blocked : PlainStreams → List ℕ
still_blocked s = if write_limit s.send == 0 then s.blocked else []

abbrev pub NothingWritable : PlainStreams → Type 0
NothingWritable s = (write_limit s.send ≡ 0) ⊎ NoneWritable s s.blocked

-- the first stream that may be written again is taken out, and those before it; if bytes may be written and none is left
-- of which they may, all are taken out
pub data IsWritablePolled (old new : PlainStreams) : Option StreamId → Type 0 where
  some : (id : StreamId) (front rest : List ℕ) → 0 < write_limit old.send → old.blocked ≡ front ++ id.0 ∷ rest → NoneWritable old front
      → half_is_writable (send_at old.send id.0) ≡ true → new ≡ record old { blocked = rest } → IsWritablePolled old new (Some id)
  none : NothingWritable old → new ≡ record old { blocked = still_blocked old } → IsWritablePolled old new None

-- what is told next: first a stream on which bytes may be written again, then what is queued
pub data IsPolled (old new : PlainStreams) : Option StreamEvent → Type 0 where
  writable : (id : StreamId) (front rest : List ℕ) → 0 < write_limit old.send → old.blocked ≡ front ++ id.0 ∷ rest → NoneWritable old front
      → half_is_writable (send_at old.send id.0) ≡ true → new ≡ record old { blocked = rest } → IsPolled old new (Some (Writable id))
  queued : (e : StreamEvent) (es : List StreamEvent) → NothingWritable old → old.events ≡ e ∷ es
      → new ≡ record old { blocked = still_blocked old; events = es } → IsPolled old new (Some e)
  none : NothingWritable old → old.events ≡ [] → new ≡ record old { blocked = still_blocked old } → IsPolled old new None

-- ---- frames that are sent

-- a frame that was written is out: a STREAM frame's bytes were sent together, or some of them again
abbrev pub IsOut : PlainStreams → SentFrame → Type 0
IsOut s (sent.Stream id piece) = (was_opened s id.0 ≡ true) × IsSpanAt s.send id.0 piece
IsOut s other = Unit {0}

-- a frame that is out is so afterwards
abbrev pub KeepsOut : PlainStreams → PlainStreams → Type 0
KeepsOut old new = (f : SentFrame) → IsOut old f → IsOut new f

-- the bytes of a piece
abbrev pub half_bytes : Option PlainSend → Outgoing → List ℕ
half_bytes None piece = []
half_bytes (Some h) piece = bytes_between h.buffer piece.offsets.start piece.offsets.end

-- the frame as it is written (RFC 9000, section 19)
abbrev pub written_frame : PlainStreams → SentFrame → QuicFrame
written_frame s (sent.Stream id piece) = stream_form (record { id = id.0; offset = piece.offsets.start; payload = half_bytes (send_at s.send id.0) piece; fin = piece.fin })
written_frame s (sent.ResetStream id reset_frame) = frame frame_types.reset_stream (Num id.0 ∷ Num reset_frame.code ∷ Num reset_frame.final_size ∷ [])
written_frame s (sent.StopSending id code) = frame frame_types.stop_sending (Num id.0 ∷ Num code ∷ [])
written_frame s (sent.MaxData limit) = frame frame_types.max_data (Num limit ∷ [])
written_frame s (sent.MaxStreamData id limit) = frame frame_types.max_stream_data (Num id.0 ∷ Num limit ∷ [])
written_frame s (sent.MaxStreams dir count) = frame (by_dir dir frame_types.max_streams_bidi frame_types.max_streams_uni) (Num count ∷ [])

-- a frame's head is at most so long (RFC 9000, section 19.8)
abbrev pub max_frame_header : ℕ
max_frame_header = 25

-- no STOP_SENDING and no MAX frame is due
pub record IsControlIdle (s : PlainStreams) : Type 0 where
  pub none_is_due : NoneIsDue s.recv
  pub max_data : is_due s.recv.announced (data_limit s.recv) ≡ false
  pub max_bidi : is_due s.bi.announced (count_limit s.bi) ≡ false
  pub max_uni : is_due s.uni.announced (count_limit s.uni) ≡ false

-- what is handed out to be sent in one frame, in this much room
pub data IsHandedOver (old new : PlainStreams) (room : ℕ) : SentFrame → Type 0 where
  stream : (id : StreamId) (piece : Outgoing) → IsSentNext old.send new.send (room - max_frame_header) id.0 (Stream piece) → new ≡ record old { send = new.send }
      → IsHandedOver old new room (sent.Stream id piece)
  reset : (id : StreamId) (reset : ResetFrame) → IsSentNext old.send new.send (room - max_frame_header) id.0 (Reset reset) → new ≡ record old { send = new.send }
      → IsHandedOver old new room (sent.ResetStream id reset)
  stop : (id : StreamId) (code : ℕ) → IsRecvStep (GivesControl old.recv.stream_window (StopSending code)) old.recv new.recv id.0 0 → new ≡ record old { recv = new.recv }
      → IsHandedOver old new room (sent.StopSending id code)
  max_stream_data : (id : StreamId) (limit : ℕ) → IsRecvStep (GivesControl old.recv.stream_window (MaxStreamData limit)) old.recv new.recv id.0 0 → new ≡ record old { recv = new.recv }
      → IsHandedOver old new room (sent.MaxStreamData id limit)
  max_data : (limit : ℕ) → limit ≡ data_limit old.recv → is_due old.recv.announced limit ≡ true
      → new ≡ record old { recv = record old.recv { announced = record { value = limit; mark = Sent } } } → IsHandedOver old new room (sent.MaxData limit)
  max_streams : (dir : Dir) (count : ℕ) → count ≡ count_limit (counts_of old (is_two_way dir)) → is_due (counts_of old (is_two_way dir)).announced count ≡ true
      → new ≡ with_counts old (is_two_way dir) (record (counts_of old (is_two_way dir)) { announced = record { value = count; mark = Sent } })
      → IsHandedOver old new room (sent.MaxStreams dir count)

-- nothing is left to be sent
abbrev pub IsIdle : PlainStreams → Type 0
IsIdle s = IsControlIdle s × NoneWaits s.send

-- the bytes of a frame's payload
abbrev pub payload_length : SentFrame → ℕ
payload_length (sent.Stream id piece) = piece.offsets.end - piece.offsets.start
payload_length other = 0

abbrev pub has_form : ℕ → Type 0
has_form n = n < 2 ^ 62

-- a frame that was just handed over is out, its numbers have a form on the wire, and the bytes of its payload are held
abbrev pub IsOutHeld : PlainStreams → SentFrame → Type 0
IsOutHeld s (sent.Stream id piece) = IsOut s (sent.Stream id piece) × has_form id.0 × half_holds (send_at s.send id.0) piece × has_form piece.offsets.end
IsOutHeld s (sent.ResetStream id reset_frame) = has_form id.0
IsOutHeld s (sent.StopSending id code) = has_form id.0
IsOutHeld s (sent.MaxData limit) = Unit {0}
IsOutHeld s (sent.MaxStreamData id limit) = has_form id.0
IsOutHeld s (sent.MaxStreams dir count) = Unit {0}

-- what is written of a frame is read as that frame, whatever comes behind it
abbrev pub IsReadBack : QuicFrame → Type 0
IsReadBack f = (rest : List ℕ) → IsQuicFrame (frame_bytes f ++ rest) f rest

-- frames that were written one after another into this much room, with their bytes
pub data AreWritten : (room : ℕ) → (old new : PlainStreams) → List SentFrame → List ℕ → Type 0 where
  none : (room : ℕ) (s : PlainStreams) → AreWritten room s s [] []
  more : (room : ℕ) (old mid new : PlainStreams) (f : SentFrame) (fs : List SentFrame) (bytes : List ℕ) → IsHandedOver old mid room f
      → length (frame_bytes (written_frame mid f)) ≤ room → IsReadBack (written_frame mid f) → AreWritten (room - length (frame_bytes (written_frame mid f))) mid new fs bytes
      → AreWritten room old new (f ∷ fs) (frame_bytes (written_frame mid f) ++ bytes)

-- ---- frames that are lost or acknowledged

pub data IsLostFrame (old new : PlainStreams) : SentFrame → Type 0 where
  stream : (id : StreamId) (piece : Outgoing) → IsStep (IsLost piece) old.send new.send id.0 0 ⊎ IsAbsent old.send new.send id.0
      → new ≡ record old { send = new.send } → IsLostFrame old new (sent.Stream id piece)
  reset : (id : StreamId) (reset : ResetFrame) → IsStep IsResetLost old.send new.send id.0 0 ⊎ IsAbsent old.send new.send id.0
      → new ≡ record old { send = new.send } → IsLostFrame old new (sent.ResetStream id reset)
  stop : (id : StreamId) (code : ℕ) → IsRecvStep IsStopLost old.recv new.recv id.0 0 ⊎ IsRecvAbsent old.recv new.recv id.0
      → new ≡ record old { recv = new.recv } → IsLostFrame old new (sent.StopSending id code)
  max_data : (limit : ℕ) → new ≡ record old { recv = record old.recv { announced = lost_at limit old.recv.announced } } → IsLostFrame old new (sent.MaxData limit)
  max_stream_data : (id : StreamId) (limit : ℕ) → IsRecvStep (IsLimitLost limit) old.recv new.recv id.0 0 ⊎ IsRecvAbsent old.recv new.recv id.0
      → new ≡ record old { recv = new.recv } → IsLostFrame old new (sent.MaxStreamData id limit)
  max_streams : (dir : Dir) (count : ℕ) → new ≡ with_counts old (is_two_way dir) (record (counts_of old (is_two_way dir)) { announced = lost_at count (counts_of old (is_two_way dir)).announced })
      → IsLostFrame old new (sent.MaxStreams dir count)

-- a frame speaks of a single stream, and bears none of its bytes
abbrev pub is_single : SentFrame → Bool
is_single (sent.StopSending id code) = true
is_single (sent.MaxStreamData id limit) = true
is_single other = false

-- how many of these do
abbrev pub single_count : List SentFrame → ℕ
single_count [] = 0
single_count (f ∷ fs) = (if is_single f then 1 else 0) + single_count fs

-- a STREAM or RESET_STREAM frame
abbrev pub is_sending : SentFrame → Bool
is_sending (sent.Stream id piece) = true
is_sending (sent.ResetStream id reset_frame) = true
is_sending other = false

-- how many frames of single streams stand in front of the first STREAM or RESET_STREAM frame
abbrev pub singles_before : List SentFrame → ℕ
singles_before [] = 0
singles_before (f ∷ fs) = if is_sending f then 0 else (if is_single f then 1 else 0) + singles_before fs

-- No kind of frame keeps another from being sent: the limits of all streams that were due are among these frames, sixteen frames
-- of single streams or all that were due, and a STREAM or RESET_STREAM frame if one waited, with 32 frames of single streams in
-- front of it at most.
pub record AreShared (old new : PlainStreams) (frames : List SentFrame) : Type 0 where
  pub max_data : is_due old.recv.announced (data_limit old.recv) ≡ true → In (sent.MaxData (data_limit old.recv)) frames
  pub max_streams : (dir : Dir) → is_due (counts_of old (is_two_way dir)).announced (count_limit (counts_of old (is_two_way dir))) ≡ true
      → In (sent.MaxStreams dir (count_limit (counts_of old (is_two_way dir)))) frames
  pub single : (16 ≤ single_count frames) ⊎ NoneIsDue new.recv
  pub sending : NoneWaits old.send ⊎ (list_any is_sending frames ≡ true)
  pub few_before : list_any is_sending frames ≡ true → singles_before frames ≤ 32

-- ---- the phases in which a call writes

-- the frames of a phase
pub data IsOf : Phase → SentFrame → Type 0 where
  max_data : (limit : ℕ) → IsOf phase.MaxData (sent.MaxData limit)
  max_streams : (dir : Dir) (count : ℕ) → IsOf (phase.MaxStreams dir) (sent.MaxStreams dir count)
  stop : (id : StreamId) (code : ℕ) → IsOf phase.SingleStreams (sent.StopSending id code)
  max_stream_data : (id : StreamId) (limit : ℕ) → IsOf phase.SingleStreams (sent.MaxStreamData id limit)
  stream : (id : StreamId) (piece : Outgoing) → IsOf phase.Sending (sent.Stream id piece)
  reset : (id : StreamId) (reset_frame : ResetFrame) → IsOf phase.Sending (sent.ResetStream id reset_frame)

abbrev pub AreOf : Phase → List SentFrame → Type 0
AreOf p [] = Unit {0}
AreOf p (f ∷ fs) = IsOf p f × AreOf p fs

-- none of them is due
abbrev pub IsPhaseIdle : Phase → PlainStreams → Type 0
IsPhaseIdle phase.MaxData s = is_due s.recv.announced (data_limit s.recv) ≡ false
IsPhaseIdle (phase.MaxStreams dir) s = is_due (counts_of s (is_two_way dir)).announced (count_limit (counts_of s (is_two_way dir))) ≡ false
IsPhaseIdle phase.SingleStreams s = NoneIsDue s.recv
IsPhaseIdle phase.Sending s = NoneWaits s.send

-- no limit of all streams is due
abbrev pub AreLimitsIdle : PlainStreams → Type 0
AreLimitsIdle s = IsPhaseIdle phase.MaxData s × IsPhaseIdle (phase.MaxStreams Bi) s × IsPhaseIdle (phase.MaxStreams Uni) s

-- The order of the frames that a call writes: limits of all streams, at most 32 frames of single streams, STREAM and RESET_STREAM
-- frames, and frames of single streams again. What goes first keeps what follows back only as long as it is due.
pub record AreByKind (new : PlainStreams) (frames : List SentFrame) : Type 0 where
  pub limits : List SentFrame
  pub first : List SentFrame
  pub sending : List SentFrame
  pub last : List SentFrame
  pub are : frames ≡ ((limits ++ first) ++ sending) ++ last
  pub no_single : single_count limits ≡ 0
  pub no_sending : list_any is_sending limits ≡ false
  pub first_are : AreOf phase.SingleStreams first
  pub few : length first ≤ 32
  pub sending_are : AreOf phase.Sending sending
  pub last_are : AreOf phase.SingleStreams last
  pub limits_first : ((first ≡ []) × (sending ≡ []) × (last ≡ [])) ⊎ AreLimitsIdle new
  pub singles_first : (length first ≡ 32) ⊎ ((NoneIsDue new.recv × (last ≡ [])) ⊎ ((sending ≡ []) × (last ≡ [])))
  pub sending_first : (last ≡ []) ⊎ NoneWaits new.send

-- What a call wrote: these frames one after another, with their bytes behind those that stood there.
pub record IsWrittenBy (room : ℕ) (old new : PlainStreams) (out_old out_new : List ℕ) (sent_old sent_new : List SentFrame) : Type 0 where
  pub frames : List SentFrame
  pub bytes : List ℕ
  pub written : AreWritten room old new frames bytes
  pub out_is : out_new ≡ out_old ++ bytes
  pub sent_is : sent_new ≡ sent_old ++ frames
  pub shared : 600 ≤ room → AreShared old new frames
  pub in_order : AreByKind new frames

-- these frames were handed over one after another
pub data AreHanded : (old new : PlainStreams) → List SentFrame → Type 0 where
  none : (s : PlainStreams) → AreHanded s s []
  more : (room : ℕ) (old mid new : PlainStreams) (f : SentFrame) (fs : List SentFrame) → IsHandedOver old mid room f → AreHanded mid new fs → AreHanded old new (f ∷ fs)

-- one frame of a phase was written
pub record IsOneWritten (p : Phase) (room : ℕ) (old new : PlainStreams) (out_old out_new : List ℕ) (sent_old sent_new : List SentFrame) : Type 0 where
  pub frame : SentFrame
  pub is_of : IsOf p frame
  pub handed : IsHandedOver old new room frame
  pub fits : length (frame_bytes (written_frame new frame)) ≤ room
  pub reads_back : IsReadBack (written_frame new frame)
  pub out_is : out_new ≡ out_old ++ frame_bytes (written_frame new frame)
  pub sent_is : sent_new ≡ sent_old ++ frame ∷ []
  pub is_out : IsOut new frame

abbrev pub AreAllOut : PlainStreams → List SentFrame → Type 0
AreAllOut s [] = Unit {0}
AreAllOut s (f ∷ fs) = IsOut s f × AreAllOut s fs

-- frames were written one after another, behind what stood there
pub record IsPartWritten (room : ℕ) (old new : PlainStreams) (out_old out_new : List ℕ) (sent_old sent_new : List SentFrame) : Type 0 where
  pub frames : List SentFrame
  pub bytes : List ℕ
  pub written : AreWritten room old new frames bytes
  pub out_is : out_new ≡ out_old ++ bytes
  pub sent_is : sent_new ≡ sent_old ++ frames
  pub are_out : AreAllOut new frames

-- What a phase wrote, at most `most` frames: it ended when none was due, or there was no room for a head and a byte, or it had
-- written `most`.
pub record IsPhaseWritten (p : Phase) (most room : ℕ) (old new : PlainStreams) (out_old out_new : List ℕ) (sent_old sent_new : List SentFrame) : Type 0 where
  pub part : IsPartWritten room old new out_old out_new sent_old sent_new
  pub are_of : AreOf p part.frames
  pub few : length part.frames ≤ most
  -- none is begun without room for a head and a byte
  pub wide : (part.frames ≡ []) ⊎ (max_frame_header < room)
  pub done : IsPhaseIdle p new ⊎ ((room < length part.bytes + max_frame_header + 1) ⊎ (length part.frames ≡ most))

-- the limits of all streams were written, one frame of each at most
pub record AreLimitsWritten (room : ℕ) (old new : PlainStreams) (out_old out_new : List ℕ) (sent_old sent_new : List SentFrame) : Type 0 where
  pub part : IsPartWritten room old new out_old out_new sent_old sent_new
  pub short : length part.bytes ≤ 27
  pub no_single : single_count part.frames ≡ 0
  pub no_sending : list_any is_sending part.frames ≡ false
  pub send_is : new.send ≡ old.send
  pub done : AreLimitsIdle new ⊎ (room < length part.bytes + max_frame_header + 1)

-- the allocator had no memory: frames were handed over, and some bytes of them may be written
pub record IsCutShort (old new : PlainStreams) (out_old out_new : List ℕ) (sent_old sent_new : List SentFrame) : Type 0 where
  pub frames : List SentFrame
  pub bytes : List ℕ
  pub handed : AreHanded old new frames
  pub out_is : out_new ≡ out_old ++ bytes
  pub sent_is : sent_new ≡ sent_old ++ frames
  pub are_out : AreAllOut new frames

abbrev pub finished_events : Bool → StreamId → List StreamEvent
finished_events finished id = if finished then Finished id ∷ [] else []

pub data IsAckedFrame (old new : PlainStreams) : SentFrame → Type 0 where
  stream : (id : StreamId) (piece : Outgoing) (finished : Bool) → IsSettledBy (IsAcked piece) old.send new.send id.0 finished
      → new ≡ counted_closed (record old { send = new.send; events = old.events ++ finished_events finished id }) id.0 (is_live old id.0)
      → IsAckedFrame old new (sent.Stream id piece)
  reset : (id : StreamId) (reset : ResetFrame) (gone : Bool) → IsSettledBy IsResetAcked old.send new.send id.0 gone
      → new ≡ counted_closed (record old { send = new.send }) id.0 (is_live old id.0) → IsAckedFrame old new (sent.ResetStream id reset)
  stop : (id : StreamId) (code : ℕ) → IsRecvStep IsStopAcked old.recv new.recv id.0 0 ⊎ IsRecvAbsent old.recv new.recv id.0
      → new ≡ record old { recv = new.recv } → IsAckedFrame old new (sent.StopSending id code)
  max_data : (limit : ℕ) → new ≡ record old { recv = record old.recv { announced = acked_at limit old.recv.announced } } → IsAckedFrame old new (sent.MaxData limit)
  max_stream_data : (id : StreamId) (limit : ℕ) → IsRecvStep (IsLimitAcked limit) old.recv new.recv id.0 0 ⊎ IsRecvAbsent old.recv new.recv id.0
      → new ≡ record old { recv = new.recv } → IsAckedFrame old new (sent.MaxStreamData id limit)
  max_streams : (dir : Dir) (count : ℕ) → new ≡ with_counts old (is_two_way dir) (record (counts_of old (is_two_way dir)) { announced = acked_at count (counts_of old (is_two_way dir)).announced })
      → IsAckedFrame old new (sent.MaxStreams dir count)

-- these frames were acknowledged one after another
pub data AreAcked : (old new : PlainStreams) → List SentFrame → Type 0 where
  none : (s : PlainStreams) → AreAcked s s []
  more : (old mid new : PlainStreams) (fs : List SentFrame) (f : SentFrame) → AreAcked old mid fs → IsAckedFrame mid new f → AreAcked old new (fs ++ f ∷ [])

-- these frames were lost one after another
pub data AreLost : (old new : PlainStreams) → List SentFrame → Type 0 where
  none : (s : PlainStreams) → AreLost s s []
  more : (old mid new : PlainStreams) (fs : List SentFrame) (f : SentFrame) → AreLost old mid fs → IsLostFrame mid new f → AreLost old new (fs ++ f ∷ [])

-- frames were handed over, and then lost, the last one first: what they had waits again
pub record AreTakenBack (old new : PlainStreams) : Type 0 where
  pub frames : List SentFrame
  pub mid : PlainStreams
  pub handed : AreHanded old mid frames
  pub lost : AreLost mid new (reverse frames)

-- nothing of a frame is to be acknowledged any more
abbrev pub IsSettledFrame : PlainStreams → SentFrame → Type 0
IsSettledFrame s (sent.Stream id piece) = IsSettledAt s.send id.0 piece
IsSettledFrame s (sent.ResetStream id reset_frame) = half_owes_reset (send_at s.send id.0) ≡ false
IsSettledFrame s (sent.StopSending id code) = half_owes_stop (recv_at s.recv id.0) ≡ false
IsSettledFrame s (sent.MaxData limit) = owes_value s.recv.announced limit ≡ false
IsSettledFrame s (sent.MaxStreamData id limit) = half_owes_limit (recv_at s.recv id.0) limit ≡ false
IsSettledFrame s (sent.MaxStreams dir count) = owes_value (counts_of s (is_two_way dir)).announced count ≡ false

-- ---- what the program keeps: a half is that of a stream that was opened and has such a half; each sending half has its
-- room among the events
pub record AreStreams (s : PlainStreams) (capacity : ℕ) : Type 0 where
  pub send_live : (k : ℕ) → is_some (send_at s.send k) ≡ true → (was_opened s k ≡ true) × (has_send s.side k ≡ true)
  pub recv_live : (k : ℕ) → is_some (recv_at s.recv k) ≡ true → (was_opened s k ≡ true) × (has_recv s.side k ≡ true)
  pub bi : AreCounts s.bi
  pub uni : AreCounts s.uni
  pub room : length s.events + length s.send.halves ≤ capacity
