-- How far the bytes of a message are on a stream, and what the calls of a role add to what was done with an end.
use Rattle.std.specs.Prelude.{◌≡◌, ◌⊎◌, ℕ, ◌+◌, ◌-◌, ◌^◌, ◌<◌, min, Bool, true, false, List, [], ◌++◌, length, take, Option, Some, None, IsSome, Result, Ok}
use Rattle.qh_base.specs.declared.memory.Memory.{Memory as OutOfMemory}
use Rattle.qh_core.specs.Inner.{HaveSameCounts, is_open, with_streams}
use Rattle.qh_core.specs.declared.inner.Inner.{Inner}
use Rattle.qh_half.specs.Recv.{PlainRecv, WaitsForMore, is_at_end, reset_code}
use Rattle.qh_half.specs.Send.{PlainSend, credit}
use Rattle.qh_half.specs.declared.fault.WriteFault.{WriteFault}
use Rattle.qh_half.specs.declared.fault.WriteFault.TheVariants.{ClosedStream, Stopped}
use Rattle.qh_halves.specs.RecvHalves.{PlainRecvHalves, readable_fault_at, recv_at}
use Rattle.qh_halves.specs.SendHalves.{PlainSendHalves, IsResetWith, IsStep, finish_fault_at, is_reset_refused_at, send_at, write_fault_at, write_limit}
use Rattle.qh_roles.specs.Going.{WentFrom}
use Rattle.qh_roles.specs.declared.incoming.ReadState.{ReadState}
use Rattle.qh_roles.specs.declared.incoming.ReadState.TheVariants as reading
use Rattle.qh_roles.specs.declared.outgoing.WriteState.{WriteState}
use Rattle.qh_roles.specs.declared.outgoing.WriteState.TheVariants as writing
use Rattle.qh_spec.specs.Lawful.{AreInOrder}
use Rattle.qh_spec.specs.Transcript.{Act, handed_in, handed_out, written, finished, pieces_read, read, ended}
use Rattle.qh_streams.specs.Streams.{PlainStreams}

-- the bytes of a message on their way out: so many of them were taken for the stream
pub record Outgoing : Type 0 where
  pub stream : ℕ
  pub bytes : List ℕ
  pub taken : ℕ

-- the bytes of a message that came so far
pub record Incoming : Type 0 where
  pub stream : ℕ
  pub bytes : List ℕ

-- ---- acts

-- nothing was written on the stream, and it wasn't finished
abbrev pub IsUntouched : List Act → (stream : ℕ) → Type 0
IsUntouched t stream = (written t stream ≡ []) × (finished t stream ≡ false)

-- nothing was read of the stream, and not its end
abbrev pub IsUnread : List Act → (stream : ℕ) → Type 0
IsUnread t stream = (pieces_read t stream ≡ []) × (ended t stream ≡ false)

abbrev pub IsFresh : List Act → (stream : ℕ) → Type 0
IsFresh t stream = IsUntouched t stream × IsUnread t stream

-- no datagram was handed in or out
abbrev pub AreCalls : List Act → Type 0
AreCalls acts = (handed_in acts ≡ []) × (handed_out acts ≡ [])

-- calls on one stream alone
pub record AreOn (stream : ℕ) (acts : List Act) : Type 0 where
  pub calls : AreCalls acts
  pub others : (k : ℕ) → (k ≡ stream → ⊥) → IsFresh acts k

-- ---- writing

-- so many of the bytes were written on the stream, which isn't finished
pub record IsWriting (t : List Act) (o : Outgoing) : Type 0 where
  pub written_is : written t o.stream ≡ take o.taken o.bytes
  pub unfinished : finished t o.stream ≡ false

-- all of them were, and it is finished
pub record HasWritten (t : List Act) (o : Outgoing) : Type 0 where
  pub written_is : written t o.stream ≡ o.bytes
  pub is_finished : finished t o.stream ≡ true

-- how far a call of `write` came that answered so
abbrev pub IsWrittenTo : Result WriteState OutOfMemory → List Act → Outgoing → Type 0
IsWrittenTo (Ok writing.Finished) t o = HasWritten t o
IsWrittenTo other t o = IsWriting t o

-- ---- reading

-- these bytes were read of the stream, in order, and its end wasn't told
pub record IsReading (t : List Act) (i : Incoming) : Type 0 where
  pub in_order : AreInOrder 0 (pieces_read t i.stream)
  pub bytes_are : read t i.stream ≡ i.bytes
  pub endless : ended t i.stream ≡ false

-- these are all its bytes
pub record HasRead (t : List Act) (i : Incoming) : Type 0 where
  pub in_order : AreInOrder 0 (pieces_read t i.stream)
  pub bytes_are : read t i.stream ≡ i.bytes
  pub to_the_end : ended t i.stream ≡ true

-- how far a call of `read` came that answered so; nothing is said of a stream that was given up, or after want of memory
abbrev pub IsReadTo : Result ReadState OutOfMemory → List Act → Incoming → Type 0
IsReadTo (Ok reading.Blocked) t i = IsReading t i
IsReadTo (Ok reading.Ended) t i = HasRead t i
IsReadTo other t i = Unit {0}

-- ---- why a write or a read stops

-- the stream takes no more bytes: it was finished or reset, or it is no more, or the peer stopped it
abbrev pub is_refusal : Option WriteFault → Bool
is_refusal (Some ClosedStream) = true
is_refusal (Some (Stopped code)) = true
is_refusal other = false

-- the stream takes nothing of what is left of a message: no bytes or, where none is left, no end
abbrev pub TakesNothing : PlainSendHalves → Outgoing → Type 0
TakesNothing s o = ((o.taken < length o.bytes) × (is_refusal (write_fault_at s o.stream) ≡ true)) ⊎ ((o.taken ≡ length o.bytes) × IsSome (finish_fault_at s o.stream))

-- bytes are left of a message, and a write took as many as the credit of its stream and of the connection permitted
pub record TookAllCredit (s : PlainSendHalves) (old new : Outgoing) : Type 0 where
  pub left : new.taken < length new.bytes
  pub half : PlainSend
  pub half_is : send_at s old.stream ≡ Some half
  pub taken_is : new.taken ≡ old.taken + credit half (write_limit s)

-- the receiving half of the stream waits: the next byte isn't there, nor is its end, nor did the peer reset it
pub record WaitsToRead (s : PlainRecvHalves) (stream : ℕ) : Type 0 where
  pub half : PlainRecv
  pub half_is : recv_at s stream ≡ Some half
  pub waits : WaitsForMore half
  pub endless : is_at_end half ≡ false
  pub not_reset : reset_code half.state ≡ None

-- the peer reset the stream
pub record WasReset (s : PlainRecvHalves) (stream : ℕ) : Type 0 where
  pub half : PlainRecv
  pub half_is : recv_at s stream ≡ Some half
  pub code : ℕ
  pub code_is : reset_code half.state ≡ Some code

-- no more is read of the stream in order: it can't be read, or the peer reset it
abbrev pub GivesNoMore : PlainRecvHalves → (stream : ℕ) → Type 0
GivesNoMore s stream = IsSome (readable_fault_at s stream true) ⊎ WasReset s stream

-- the sending half of the stream was reset with this code, as far as a number of 62 bits holds it, or it can't be
abbrev pub IsGivenUp : (old new : PlainSendHalves) → (stream code : ℕ) → Type 0
IsGivenUp old new stream code = IsStep (IsResetWith (min code (2 ^ 62 - 1))) old new stream 0 ⊎ (is_reset_refused_at old stream ≡ true)

-- nothing more is written of the stream: it was finished or reset, or it is no more, or the peer stopped it
abbrev pub IsOver : PlainSendHalves → (stream : ℕ) → Type 0
IsOver s stream = IsSome (finish_fault_at s stream)

-- a stream of which nothing more is written stays so
abbrev pub KeepsOver : (old new : PlainSendHalves) → Type 0
KeepsOver old new = (stream : ℕ) → IsOver old stream → IsOver new stream

-- no further stream of the peer's in both directions came
abbrev pub NoneArrived : (old new : PlainStreams) → Type 0
NoneArrived old new = new.bi.arrived ≡ old.bi.arrived

-- ---- of a connection

module _ {S : Type 0} where
  -- of the connection only the streams changed, and so many were opened and accepted as before
  pub record IsStirred (old new : Inner S) : Type 0 where
    pub rest_is : new ≡ with_streams old new.space.streams
    pub counts : HaveSameCounts old.space.streams new.space.streams

  -- why a write is blocked: the connection isn't open, or the credit is used up
  abbrev pub IsBlocked : Inner S → (old new : Outgoing) → Type 0
  IsBlocked c old new = (is_open c.state ≡ false) ⊎ TookAllCredit c.space.streams.send old new

  -- what a call of `write` did behind this transcript
  pub record Writes (start : Inner S) (before : List Act) (result : Result WriteState OutOfMemory) (o : Outgoing) (new : Inner S) (t : List Act) : Type 0 where
    pub acts : List Act
    pub on : AreOn o.stream acts
    pub unread : IsUnread acts o.stream
    pub follows : WentFrom start before new (t ++ acts)
    pub is : IsWrittenTo result (t ++ acts) o

  -- what a call of `read` did behind this transcript
  pub record ReadsOn (start : Inner S) (before : List Act) (result : Result ReadState OutOfMemory) (i : Incoming) (new : Inner S) (t : List Act) : Type 0 where
    pub acts : List Act
    pub on : AreOn i.stream acts
    pub untouched : IsUntouched acts i.stream
    pub follows : WentFrom start before new (t ++ acts)
    pub is : IsReadTo result (t ++ acts) i

  -- behind this transcript a role made calls on streams, and this holds of all
  pub record Acted (start : Inner S) (before : List Act) (Holds : List Act → Type 0) (new : Inner S) (t : List Act) : Type 0 where
    pub acts : List Act
    pub calls : AreCalls acts
    pub follows : WentFrom start before new (t ++ acts)
    pub holds : Holds (t ++ acts)
