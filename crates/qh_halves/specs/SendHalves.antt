-- The sending halves of a connection's streams by their ids, and what they share: the peer's limit on the connection and the
-- send window.
use Rattle.std.specs.Prelude.{◌≡◌, ◌⊎◌, ℕ, ℤ, ◌+◌, ◌-◌, ◌<◌, ◌≤◌, ◌^◌, ◌==◌, min, max, Bool, true, false, List, [], ◌∷◌, length, Option, Some, None, IsSomeAnd, is_some, if◌then◌else◌}
use Rattle.std.specs.Ordering.{nat_cmp}
use Rattle.std.specs.BTreeMap.{is_at}
use Rattle.std.specs.Map.{lookup}
use Rattle.std.specs.Option.{option_map}
use Rattle.qh_buffers.specs.SendBuffer.{IsSpan, taken_to}
use Rattle.qh_buffers.specs.declared.send_buffer.Mark.TheVariants.{Sent, Queued, Acked}
use Rattle.qh_half.specs.declared.fault.WriteFault.{WriteFault}
use Rattle.qh_half.specs.declared.fault.WriteFault.TheVariants.{ClosedStream}
use Rattle.qh_half.specs.declared.fault.FinishFault.{FinishFault}
use Rattle.qh_half.specs.declared.fault.FinishFault.TheVariants.{ClosedStream as FinishClosed}
use Rattle.qh_half.specs.declared.send.SendState.TheVariants.{ResetSent, DataSent, Ready}
use Rattle.qh_half.specs.declared.send.Outgoing.{Outgoing}
use Rattle.qh_half.specs.declared.send.ResetFrame.{ResetFrame}
use Rattle.qh_halves.specs.declared.pending.PendingStream.{PendingStream}
use Rattle.qh_halves.specs.declared.send_halves.Transmission.{Transmission}
use Rattle.qh_halves.specs.declared.send_halves.Transmission.TheVariants.{Stream, Reset}
use Rattle.qh_halves.specs.Counts.{is_in_range}
use Rattle.qh_halves.specs.Pending.{PlainPending, has_room, waits, goes_before}
use Rattle.qh_half.specs.Send.{PlainSend, new_send, is_reset, is_done, write_fault, finish_fault, is_reset_refused, IsPieceOut, IsEndOut, IsPieceAcked, IsPieceQueued, IsSettled, with_reset_mark, with_reset_lost, with_bytes, owes_reset, held, Waits, is_writable, IsHeld, is_end_acked}

pub record PlainSendHalves : Type 0 where
  -- the halves that aren't done, by id
  pub halves : List (ℕ × PlainSend)
  -- the peer's limit on the bytes of all streams
  pub max_data : ℕ
  -- how many bytes were taken, over all streams that ever were
  pub data_sent : ℕ
  -- how many bytes may be held that aren't acknowledged
  pub send_window : ℕ

abbrev pub half_in : List (ℕ × PlainSend) → (id : ℕ) → Option PlainSend
half_in halves id = lookup (is_at (nat_cmp id)) halves

-- the half of a stream; none if it is done or never was
abbrev pub send_at : PlainSendHalves → (id : ℕ) → Option PlainSend
send_at s id = half_in s.halves id

-- the end of a half is acknowledged, as it is of one that is done
abbrev pub half_end_acked : Option PlainSend → Bool
half_end_acked None = true
half_end_acked (Some h) = is_end_acked h.state

-- how many bytes all halves hold
abbrev pub unacked : List (ℕ × PlainSend) → ℕ
unacked [] = 0
unacked (e ∷ es) = held e.1 + unacked es

-- how many bytes may be taken now by the limits that the streams share
abbrev pub write_limit : PlainSendHalves → ℕ
write_limit s = min (s.max_data - s.data_sent) (s.send_window - unacked s.halves)

-- how many bytes a half holds, 0 if there is none
abbrev pub held_of : Option PlainSend → ℕ
held_of None = 0
held_of (Some h) = held h

-- One half is another now, or gone, and all others are as they were. `taken` more bytes were taken, and nothing else that
-- the halves share changed.
pub record IsHalf (old new : PlainSendHalves) (id : ℕ) (half : Option PlainSend) (taken : ℕ) : Type 0 where
  pub halves_are : (k : ℕ) → send_at new k ≡ (if k == id then half else send_at old k)
  pub rest_is : new ≡ record old { halves = new.halves; data_sent = old.data_sent + taken }
  -- all halves together hold as many bytes more, or fewer, as this one does
  pub held_is : unacked new.halves + held_of (send_at old id) ≡ unacked old.halves + held_of half

-- the half of a stream becomes another one, which isn't done
pub record IsStep (P : PlainSend → PlainSend → Type 0) (old new : PlainSendHalves) (id taken : ℕ) : Type 0 where
  pub half : PlainSend
  pub next : PlainSend
  pub was : send_at old id ≡ Some half
  pub step : P half next
  pub is_on : is_done next ≡ false
  pub is : IsHalf old new id (Some next) taken
  pub count : length new.halves ≡ length old.halves

-- the half of a stream is done by it, and goes
pub record IsLast (P : PlainSend → PlainSend → Type 0) (old new : PlainSendHalves) (id : ℕ) : Type 0 where
  pub half : PlainSend
  pub next : PlainSend
  pub was : send_at old id ≡ Some half
  pub step : P half next
  pub is_done : is_done next ≡ true
  pub is : IsHalf old new id None 0
  pub count : length new.halves + 1 ≡ length old.halves

-- the stream has no half, and nothing changed
pub record IsAbsent (old new : PlainSendHalves) (id : ℕ) : Type 0 where
  pub none : send_at old id ≡ None
  pub same : new ≡ old

-- streams got their halves: `count` of them, each fourth id from the first on
pub record AreAdded (old new : PlainSendHalves) (first count limit : ℕ) : Type 0 where
  pub halves_are : (k : ℕ) → send_at new k ≡ (if is_in_range first count k then Some (new_send limit) else send_at old k)
  pub rest_is : new ≡ record old { halves = new.halves }
  -- all halves together hold as many bytes as before
  pub held_is : unacked new.halves ≡ unacked old.halves

-- ---- faults: of a stream without a half, and else of its half

abbrev pub half_write_fault : Option PlainSend → (limit : ℕ) → Option WriteFault
half_write_fault None limit = Some ClosedStream
half_write_fault (Some h) limit = write_fault h limit

abbrev pub write_fault_at : PlainSendHalves → (id : ℕ) → Option WriteFault
write_fault_at s id = half_write_fault (send_at s id) (write_limit s)

abbrev pub half_finish_fault : Option PlainSend → Option FinishFault
half_finish_fault None = Some FinishClosed
half_finish_fault (Some h) = finish_fault h

abbrev pub finish_fault_at : PlainSendHalves → (id : ℕ) → Option FinishFault
finish_fault_at s id = half_finish_fault (send_at s id)

abbrev pub half_is_reset_refused : Option PlainSend → Bool
half_is_reset_refused None = true
half_is_reset_refused (Some h) = is_reset_refused h

abbrev pub is_reset_refused_at : PlainSendHalves → (id : ℕ) → Bool
is_reset_refused_at s id = half_is_reset_refused (send_at s id)

-- ---- steps of a half

abbrev pub Takes : (bytes : List ℕ) → PlainSend → PlainSend → Type 0
Takes bytes h next = next ≡ with_bytes h bytes

abbrev pub Finishes : PlainSend → PlainSend → Type 0
Finishes h next = (finish_fault h ≡ None) × (next ≡ record h { state = DataSent Queued })

abbrev pub IsResetWith : (code : ℕ) → PlainSend → PlainSend → Type 0
IsResetWith code h next = (is_reset_refused h ≡ false) × (next ≡ record h { state = ResetSent code Queued })

abbrev pub HasPriority : (priority : ℤ) → PlainSend → PlainSend → Type 0
HasPriority priority h next = next ≡ record h { priority = priority }

-- the first code of the peer's STOP_SENDING stays
abbrev pub IsStoppedWith : (code : ℕ) → PlainSend → PlainSend → Type 0
IsStoppedWith code h next = (h.stop_reason ≡ None) × (next ≡ record h { stop_reason = Some code })

abbrev pub HasLimit : (max : ℕ) → PlainSend → PlainSend → Type 0
HasLimit limit h next = next ≡ record h { max_data = max h.max_data limit }

-- bytes may be written again that the stream's limit forbade
abbrev pub IsUnblocked : (max : ℕ) → Option PlainSend → Type 0
IsUnblocked max None = ⊥
IsUnblocked max (Some h) = (h.max_data < max) × (taken_to h.buffer ≡ h.max_data) × (h.state ≡ Ready)

abbrev pub IsAcked : Outgoing → PlainSend → PlainSend → Type 0
IsAcked frame h next = IsPieceAcked h next frame.offsets.start frame.offsets.end frame.fin

abbrev pub IsLost : Outgoing → PlainSend → PlainSend → Type 0
IsLost frame h next = IsPieceQueued h next frame.offsets.start frame.offsets.end frame.fin

abbrev pub IsResetAcked : PlainSend → PlainSend → Type 0
IsResetAcked h next = next ≡ record h { state = with_reset_mark Acked h.state }

abbrev pub IsResetLost : PlainSend → PlainSend → Type 0
IsResetLost h next = next ≡ record h { state = with_reset_lost h.state }

-- an acknowledgement: the half stays, goes, or is no more; it tells whether the half goes by it
pub data IsSettledBy (P : PlainSend → PlainSend → Type 0) (old new : PlainSendHalves) (id : ℕ) : Bool → Type 0 where
  absent : IsAbsent old new id → IsSettledBy P old new id false
  on : IsStep P old new id 0 → IsSettledBy P old new id false
  done : IsLast P old new id → IsSettledBy P old new id true

-- ---- what is sent

abbrev pub entry_of : PlainSend → (id : ℕ) → PendingStream
entry_of h id = record { priority = h.priority; id = id }

-- nothing waits in any half
abbrev pub NoneWaits : PlainSendHalves → Type 0
NoneWaits s = (k : ℕ) (h : PlainSend) → send_at s k ≡ Some h → Waits h → ⊥

-- of the halves in which something waits it is the one with the greatest priority, and of these with the least id
abbrev pub IsFirstToSend : PlainSendHalves → (id : ℕ) → PlainSend → Type 0
IsFirstToSend s id h = (k : ℕ) (g : PlainSend) → send_at s k ≡ Some g → Waits g → (k == id) ≡ false
    → goes_before (entry_of h id) (entry_of g k) ≡ true

-- something waits in the stream's half, and it comes first
abbrev pub IsNextToSend : PlainSendHalves → (id : ℕ) → Type 0
IsNextToSend s id = IsSomeAnd (send_at s id) (λ h. Waits h × IsFirstToSend s id h)

-- what a half gives to be sent in one frame
abbrev pub GivesPiece : (room : ℕ) → Outgoing → PlainSend → PlainSend → Type 0
GivesPiece room out h next = IsPieceOut h next room out.offsets.start out.offsets.end out.fin
    ⊎ IsEndOut h next out.offsets.start out.offsets.end out.fin

abbrev pub GivesReset : ResetFrame → PlainSend → PlainSend → Type 0
GivesReset f h next = (h.state ≡ ResetSent f.code Queued) × (f.final_size ≡ taken_to h.buffer) × (next ≡ record h { state = with_reset_mark Sent h.state })

abbrev pub Gives : (room : ℕ) → Transmission → PlainSend → PlainSend → Type 0
Gives room (Stream out) = GivesPiece room out
Gives room (Reset f) = GivesReset f

-- the first stream in which something waits gave what it sends next
pub record IsSentNext (old new : PlainSendHalves) (room id : ℕ) (t : Transmission) : Type 0 where
  pub step : IsStep (Gives room t) old new id 0
  pub is_first : IsFirstToSend old id step.half

-- ---- frames that are out

-- the bytes of a frame were sent together, or some of them again; of a half that was reset or is done nothing is said
abbrev pub half_is_span : Option PlainSend → Outgoing → Type 0
half_is_span None frame = Unit {0}
half_is_span (Some h) frame = is_reset h.state ≡ false → IsSpan h.buffer frame.offsets.start frame.offsets.end

abbrev pub IsSpanAt : PlainSendHalves → (id : ℕ) → Outgoing → Type 0
IsSpanAt s id frame = half_is_span (send_at s id) frame

-- a frame that is out is so afterwards
abbrev pub KeepsSpans : PlainSendHalves → PlainSendHalves → Type 0
KeepsSpans old new = (id : ℕ) (frame : Outgoing) → IsSpanAt old id frame → IsSpanAt new id frame

-- the half holds the bytes of a frame
abbrev pub half_holds : Option PlainSend → Outgoing → Type 0
half_holds None frame = ⊥
half_holds (Some h) frame = IsHeld h.buffer frame.offsets.start frame.offsets.end

abbrev pub half_is_out : Option PlainSend → Transmission → Type 0
half_is_out h (Stream frame) = half_is_span h frame × half_holds h frame
half_is_out h (Reset f) = Unit {0}

-- what was just given to be sent is out, and its bytes are held
abbrev pub IsOutNow : PlainSendHalves → (id : ℕ) → Transmission → Type 0
IsOutNow s id t = half_is_out (send_at s id) t

-- the offsets of a piece have a form on the wire
abbrev pub HasForm : Transmission → Type 0
HasForm (Stream frame) = frame.offsets.end < 2 ^ 62
HasForm (Reset f) = Unit {0}

abbrev pub half_is_settled : Option PlainSend → Outgoing → Type 0
half_is_settled None frame = Unit {0}
half_is_settled (Some h) frame = IsSettled h frame.offsets.start frame.offsets.end frame.fin

-- nothing of a frame is to be acknowledged any more
abbrev pub IsSettledAt : PlainSendHalves → (id : ℕ) → Outgoing → Type 0
IsSettledAt s id frame = half_is_settled (send_at s id) frame

abbrev pub half_owes_reset : Option PlainSend → Bool
half_owes_reset None = false
half_owes_reset (Some h) = owes_reset h.state

-- bytes may be written as far as the stream's own state and limit go
abbrev pub half_is_writable : Option PlainSend → Bool
half_is_writable None = false
half_is_writable (Some h) = is_writable h

-- ---- what the program keeps

abbrev pub half_priority : Option PlainSend → Option ℤ
half_priority o = option_map (λ (h : PlainSend). h.priority) o

-- In the queue wait the streams in which something waits, each with its half's priority, and no stream without a half; exactly
-- the streams with a half have room in it; what is counted are the bytes held; no half is done; nothing was taken past the
-- limit.
pub record AreSendHalves (halves : List (ℕ × PlainSend)) (pending : PlainPending) (max_data data_sent unacked_data : ℕ) : Type 0 where
  pub live : (k : ℕ) (priority : ℤ) → waits pending k ≡ Some priority → half_priority (half_in halves k) ≡ Some priority
  pub listed : (k : ℕ) (h : PlainSend) → half_in halves k ≡ Some h → Waits h → waits pending k ≡ Some h.priority
  pub room : (k : ℕ) → has_room pending k ≡ is_some (half_in halves k)
  pub counted : unacked_data ≡ unacked halves
  pub undone : (k : ℕ) (h : PlainSend) → half_in halves k ≡ Some h → is_done h ≡ false
  pub credit : data_sent ≤ max_data
