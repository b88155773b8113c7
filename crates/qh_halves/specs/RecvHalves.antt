-- The receiving halves of a connection's streams by their ids, and what they share: the connection's limit.
use Rattle.std.specs.Prelude.{◌≡◌, ℕ, ◌+◌, ◌-◌, ◌<◌, ◌≤◌, ◌^◌, ◌==◌, min, max, Bool, true, false, ◌&&◌, ◌||◌, not, List, Option, Some, None, IfSome, IsSomeAnd, is_some, pos, Result, Err, if◌then◌else◌}
use Rattle.std.specs.Ordering.{nat_cmp}
use Rattle.std.specs.BTreeMap.{is_at}
use Rattle.std.specs.Map.{lookup, set_value}
use Rattle.std.specs.Option.{option_map}
use Rattle.qh_buffers.specs.declared.send_buffer.Mark.TheVariants.{Sent, Queued, Acked}
use Rattle.qh_buffers.specs.declared.assembler.Chunk.{Chunk}
use Rattle.qh_half.specs.declared.fault.ReadFault.{ReadFault}
use Rattle.qh_half.specs.declared.fault.ReadFault.TheVariants.{Memory}
use Rattle.qh_half.specs.declared.fault.ReadableFault.{ReadableFault}
use Rattle.qh_half.specs.declared.fault.ReadableFault.TheVariants.{ClosedStream}
use Rattle.qh_half.specs.declared.recv.IngestFault.{IngestFault}
use Rattle.qh_halves.specs.declared.pending.PendingStream.{PendingStream}
use Rattle.qh_halves.specs.declared.recv_halves.StreamControl.{StreamControl}
use Rattle.qh_halves.specs.declared.recv_halves.StreamControl.TheVariants.{StopSending, MaxStreamData}
use Rattle.qh_halves.specs.Counts.{is_in_range}
use Rattle.qh_halves.specs.Limit.{is_due}
use Rattle.qh_halves.specs.Pending.{PlainPending, has_room, waits}
use Rattle.qh_half.specs.Recv.{PlainRecv, new_recv, ingest_fault, readable_fault, with_order, IsBlocked, awaits_reset, IsIngested, IsResetBy, IsReadAnswer, WaitsForMore, IsStopped, with_reset_given, reset_code, is_closed, is_done, counted, limit_of, is_limit_due, owes_limit, is_stop_due, owes_stop, is_frame_due, acked_stop, lost_stop}
use Rattle.qh_buffers.specs.SendBuffer.{lost_mark}
use Rattle.qh_halves.specs.declared.limit.AnnouncedLimit.{AnnouncedLimit}

pub record PlainRecvHalves : Type 0 where
  -- the halves that aren't done, by id
  pub halves : List (ℕ × PlainRecv)
  -- how many bytes came, over all streams that ever were: of each stream up to the last one
  pub received : ℕ
  -- how many of them count as read
  pub credited : ℕ
  -- how many bytes more than are read may come, of all streams, and of one
  pub receive_window : ℕ
  pub stream_window : ℕ
  -- the connection's limit that was announced
  pub announced : AnnouncedLimit

-- ---- the halves

abbrev pub recv_half_in : List (ℕ × PlainRecv) → (id : ℕ) → Option PlainRecv
recv_half_in halves id = lookup (is_at (nat_cmp id)) halves

-- the half of a stream; none if it is done or never was
abbrev pub recv_at : PlainRecvHalves → (id : ℕ) → Option PlainRecv
recv_at s id = recv_half_in s.halves id

-- the connection's limit that the bytes read and the window make, at most 2^62 - 1 (RFC 9000, section 4.1); it never falls
abbrev pub data_limit : PlainRecvHalves → ℕ
data_limit s = max (min (2 ^ 62 - 1) (s.credited + s.receive_window)) s.announced.value

-- a half, or none if it is done
abbrev pub unless_done : PlainRecv → Option PlainRecv
unless_done r = if is_done r then None else Some r

-- how many bytes count as read then, as far as a number of 64 bits holds them
abbrev pub credited_after : (before : ℕ) → (old new : PlainRecv) → ℕ
credited_after before old new = min (2 ^ 64 - 1) (before + (counted new - counted old))

-- The half of a stream becomes another one, and goes if that one is done; all others are as they were. `fresh` more bytes
-- came, what the half newly counts as read is credited, and nothing else that the halves share changed.
pub record IsRecvStep (P : PlainRecv → PlainRecv → Type 0) (old new : PlainRecvHalves) (id fresh : ℕ) : Type 0 where
  pub half : PlainRecv
  pub next : PlainRecv
  pub was : recv_at old id ≡ Some half
  pub step : P half next
  pub halves_are : (k : ℕ) → recv_at new k ≡ (if k == id then unless_done next else recv_at old k)
  pub rest_is : new ≡ record old { halves = new.halves; received = old.received + fresh; credited = credited_after old.credited half next }

-- the stream has no half, and nothing changed
pub record IsRecvAbsent (old new : PlainRecvHalves) (id : ℕ) : Type 0 where
  pub none : recv_at old id ≡ None
  pub same : new ≡ old

-- one half is there now, or gone; nothing else changed
pub record IsRecvHalf (old new : PlainRecvHalves) (id : ℕ) (half : Option PlainRecv) : Type 0 where
  pub halves_are : (k : ℕ) → recv_at new k ≡ (if k == id then half else recv_at old k)
  pub rest_is : new ≡ record old { halves = new.halves }

-- streams got their halves: `count` of them, each fourth id from the first on
pub record AreRecvAdded (old new : PlainRecvHalves) (first count : ℕ) : Type 0 where
  pub halves_are : (k : ℕ) → recv_at new k ≡ (if is_in_range first count k then Some (new_recv (min old.stream_window (2 ^ 62 - 1))) else recv_at old k)
  pub rest_is : new ≡ record old { halves = new.halves }

-- ---- what comes: frames of a stream without a half are dropped

abbrev pub half_ingest_fault : Option PlainRecv → (to : ℕ) → (is_end : Bool) → (received max_data : ℕ) → Option IngestFault
half_ingest_fault None to is_end received max_data = None
half_ingest_fault (Some r) to is_end received max_data = ingest_fault r to is_end received max_data

-- why bytes up to this offset, or an end there, are refused
abbrev pub ingest_fault_at : PlainRecvHalves → (id to : ℕ) → (is_end : Bool) → Option IngestFault
ingest_fault_at s id to is_end = half_ingest_fault (recv_at s id) to is_end s.received s.announced.value

pub record IsPieceTaken (old new : PlainRecvHalves) (id : ℕ) (c : Chunk) (fin : Bool) : Type 0 where
  pub fresh : ℕ
  pub step : IsRecvStep (λ r next. IsIngested r next c fin fresh) old new id fresh

pub record IsResetTaken (old new : PlainRecvHalves) (id code size : ℕ) : Type 0 where
  pub fresh : ℕ
  pub step : IsRecvStep (λ r next. IsResetBy r next code size fresh) old new id fresh

-- ---- reads

abbrev pub half_readable_fault : Option PlainRecv → (ordered : Bool) → Option ReadableFault
half_readable_fault None ordered = Some ClosedStream
half_readable_fault (Some r) ordered = readable_fault r ordered

abbrev pub readable_fault_at : PlainRecvHalves → (id : ℕ) → (ordered : Bool) → Option ReadableFault
readable_fault_at s id ordered = half_readable_fault (recv_at s id) ordered

abbrev pub half_is_closed : Option PlainRecv → Bool
half_is_closed None = true
half_is_closed (Some r) = is_closed r

-- reads are refused: the half is done, or never was, or was stopped, or its end or its reset was given
abbrev pub is_closed_at : PlainRecvHalves → (id : ℕ) → Bool
is_closed_at s id = half_is_closed (recv_at s id)

abbrev pub Reads : (max_length : ℕ) → Result (Option Chunk) ReadFault → PlainRecv → PlainRecv → Type 0
Reads max_length result r next = IsReadAnswer r next max_length result

abbrev pub Begins : (ordered : Bool) → PlainRecv → PlainRecv → Type 0
Begins ordered r next = next ≡ with_order r ordered

-- memory lacked for the answer of a read
abbrev pub is_wanting : Result (Option Chunk) ReadFault → Bool
is_wanting (Err Memory) = true
is_wanting other = false

-- nothing waits that a read of the half would give, in the order that its reads have, and in order or not; a half that isn't there has nothing
abbrev pub WaitsForMoreAt : PlainRecvHalves → (id : ℕ) → Type 0
WaitsForMoreAt s id = IfSome (recv_at s id) WaitsForMore

abbrev pub WaitsForMoreInOrderAt : PlainRecvHalves → (id : ℕ) → (ordered : Bool) → Type 0
WaitsForMoreInOrderAt s id ordered = IfSome (recv_at s id) (λ r. WaitsForMore (with_order r ordered))

-- a read of the half in this order waits; one of a half that isn't there doesn't
abbrev pub IsReadBlockedAt : PlainRecvHalves → (id : ℕ) → (ordered : Bool) → Type 0
IsReadBlockedAt s id ordered = IsSomeAnd (recv_at s id) (λ r. IsBlocked r ordered)

abbrev pub half_awaits_reset : Option PlainRecv → Bool
half_awaits_reset None = false
half_awaits_reset (Some r) = awaits_reset r

-- a read that begins, in order or not, and then answers so
pub record IsBegunRead (max_length : ℕ) (ordered : Bool) (answer : Result (Option Chunk) ReadFault) (old new : PlainRecvHalves) (id : ℕ) : Type 0 where
  pub mid : PlainRecvHalves
  pub begun : IsRecvStep (Begins ordered) old mid id 0
  pub reads : IsRecvStep (Reads max_length answer) mid new id 0

abbrev pub Stops : (code : ℕ) → PlainRecv → PlainRecv → Type 0
Stops code r next = IsStopped r next code

abbrev pub TakesReset : Option ℕ → PlainRecv → PlainRecv → Type 0
TakesReset code r next = (is_closed r ≡ false) × (code ≡ reset_code r.state) × (next ≡ with_reset_given r)

-- ---- frames that are due

-- no STOP_SENDING and no MAX_STREAM_DATA frame waits in any half
abbrev pub NoneIsDue : PlainRecvHalves → Type 0
NoneIsDue s = (k : ℕ) (r : PlainRecv) → recv_at s k ≡ Some r → is_frame_due r s.stream_window ≡ false

-- a half gives a frame that is due
abbrev pub GivesControl : (window : ℕ) → StreamControl → PlainRecv → PlainRecv → Type 0
GivesControl window (StopSending code) r next = (is_stop_due r ≡ true) × (r.stop_frame ≡ Some (record { code = code; mark = Queued }))
    × (next ≡ record r { stop_frame = Some (record { code = code; mark = Sent }) })
GivesControl window (MaxStreamData limit) r next = (limit ≡ limit_of r window) × (is_limit_due r window ≡ true)
    × (next ≡ record r { sent_max_stream_data = limit; limit_mark = Sent })

abbrev pub IsLimitAcked : (limit : ℕ) → PlainRecv → PlainRecv → Type 0
IsLimitAcked limit r next = next ≡ record r { limit_mark = (if limit == r.sent_max_stream_data then Acked else r.limit_mark) }

abbrev pub IsLimitLost : (limit : ℕ) → PlainRecv → PlainRecv → Type 0
IsLimitLost limit r next = next ≡ record r { limit_mark = (if limit == r.sent_max_stream_data then lost_mark r.limit_mark else r.limit_mark) }

abbrev pub IsStopAcked : PlainRecv → PlainRecv → Type 0
IsStopAcked r next = next ≡ record r { stop_frame = option_map acked_stop r.stop_frame }

abbrev pub IsStopLost : PlainRecv → PlainRecv → Type 0
IsStopLost r next = next ≡ record r { stop_frame = option_map lost_stop r.stop_frame }

abbrev pub half_owes_limit : Option PlainRecv → (limit : ℕ) → Bool
half_owes_limit None limit = false
half_owes_limit (Some r) limit = owes_limit r limit

abbrev pub half_owes_stop : Option PlainRecv → Bool
half_owes_stop None = false
half_owes_stop (Some r) = owes_stop r

-- the half is there and isn't stopped
abbrev pub half_is_wanted : Option PlainRecv → Bool
half_is_wanted None = false
half_is_wanted (Some r) = not r.is_stopped

abbrev pub half_is_limit_due : Option PlainRecv → (window : ℕ) → Bool
half_is_limit_due None window = false
half_is_limit_due (Some r) window = is_limit_due r window

-- the connection's limit is to be announced, or that of a stream
abbrev pub is_credit_due : PlainRecvHalves → (id : ℕ) → Bool
is_credit_due s id = half_is_limit_due (recv_at s id) s.stream_window || is_due s.announced (data_limit s)

-- ---- what the program keeps

abbrev pub due_entry : (id : ℕ) → PendingStream
due_entry id = record { priority = pos 0; id = id }

-- In the queue wait the streams of which a frame is due; exactly the streams with a half have room in it; no half is done; no
-- byte came past the limit.
pub record AreRecvHalves (halves : List (ℕ × PlainRecv)) (due : PlainPending) (received stream_window : ℕ) (announced : AnnouncedLimit) : Type 0 where
  pub listed : (k : ℕ) (r : PlainRecv) → recv_half_in halves k ≡ Some r → is_frame_due r stream_window ≡ true → waits due k ≡ Some (pos 0)
  pub room : (k : ℕ) → has_room due k ≡ is_some (recv_half_in halves k)
  pub undone : (k : ℕ) (r : PlainRecv) → recv_half_in halves k ≡ Some r → is_done r ≡ false
  pub received_below : received ≤ announced.value
  pub bound : announced.value < 2 ^ 62

-- A half that is done leaves, with what it had to send. Of one that isn't a frame may be due.
pub record IsSettled (old new : List (ℕ × PlainRecv)) (due after : PlainPending) (id : ℕ) (is_done is_due : Bool) : Type 0 where
  pub halves_are : (k : ℕ) → recv_half_in new k ≡ (if is_done && k == id then None else recv_half_in old k)
  pub others : (k : ℕ) → (k == id) ≡ false → waits after k ≡ waits due k
  pub here : is_done ≡ false → waits after id ≡ (if is_due then Some (pos 0) else waits due id)
  pub room_is : (k : ℕ) → has_room after k ≡ (not (is_done && k == id) && has_room due k)

-- one half was written, and no other
pub record IsHalfWritten (P : PlainRecv → PlainRecv → Type 0) (old new : List (ℕ × PlainRecv)) (id : ℕ) : Type 0 where
  pub half : PlainRecv
  pub next : PlainRecv
  pub was : recv_half_in old id ≡ Some half
  pub step : P half next
  pub written : new ≡ set_value (is_at (nat_cmp id)) old next

-- no frame is due of a half, if it is there
abbrev pub IsNoneDue : Option PlainRecv → (window : ℕ) → Type 0
IsNoneDue None window = Unit {0}
IsNoneDue (Some r) window = is_frame_due r window ≡ false
