-- What the calls on streams do to the streams of a connection.
use Rattle.std.specs.Prelude.{◌≡◌, ◌⊎◌, ℕ, ◌<◌, ℤ, Bool, true, false, ◌&&◌, not, List, [], length, min, take, Option, Some, None, Result, Ok, Err, IfSome, MatchBool, is_some}
use Rattle.qh_base.specs.declared.connection_error.ConnectionError.{ConnectionError}
use Rattle.qh_book.specs.declared.reply.Reply.{Reply}
use Rattle.qh_book.specs.declared.reply.Reply.TheVariants as reply
use Rattle.qh_buffers.specs.declared.assembler.Chunk.{Chunk}
use Rattle.qh_conn.specs.declared.connection.Connection.{Connection}
use Rattle.qh_core.specs.Inner.{with_streams}
use Rattle.qh_core.specs.Streams.{IsRead, IsWriteRefused}
use Rattle.qh_half.specs.Recv.{PlainRecv}
use Rattle.qh_half.specs.Send.{PlainSend, credit}
use Rattle.qh_half.specs.declared.fault.FinishFault.TheVariants as finish_faults
use Rattle.qh_half.specs.declared.fault.ReadFault.{ReadFault}
use Rattle.qh_half.specs.declared.fault.ReadFault.TheVariants as read_faults
use Rattle.qh_half.specs.declared.fault.WriteFault.{WriteFault}
use Rattle.qh_half.specs.declared.fault.WriteFault.TheVariants as write_faults
use Rattle.qh_halves.specs.RecvHalves.{IsRecvStep, Stops, TakesReset}
use Rattle.qh_halves.specs.SendHalves.{Finishes, HasPriority, IsResetWith, IsStep, Takes, finish_fault_at, send_at, write_limit}
use Rattle.qh_quinn.specs.Readers.{reader_in}
use Rattle.qh_quinn.specs.declared.inner.StateInner.{StateInner}
use Rattle.qh_quinn.specs.declared.readers.Reader.{Reader}
use Rattle.qh_shown.specs.Connections.{is_wanting}
use Rattle.qh_spec.specs.Link.{other as other_side}
use Rattle.qh_spec.specs.StreamId.{stream_id}
use Rattle.qh_spec.specs.declared.sides.Dir.{Dir}
use Rattle.qh_streams.specs.Streams.{IsOpened, counted_closed, counts_of, is_live, is_two_way, with_accepted, with_counts}

module _ {S : Type 0} where
  -- only the streams changed
  abbrev pub IsOnStreams : (old new : Connection S) → Type 0
  IsOnStreams old new = new ≡ record old { core = with_streams old.core new.core.space.streams }

  -- of the streams a sending half alone changed, and with it what was counted of so many bytes
  pub record IsSendChange (P : PlainSend → PlainSend → Type 0) (id taken : ℕ) (old new : Connection S) : Type 0 where
    pub step : IsStep P old.core.space.streams.send new.core.space.streams.send id taken
    pub rest : new ≡ record old { core = with_streams old.core (record old.core.space.streams { send = new.core.space.streams.send }) }

  -- a receiving half alone changed, and the count of the peer's streams if the stream is done by it
  pub record IsRecvChange (P : PlainRecv → PlainRecv → Type 0) (id : ℕ) (old new : Connection S) : Type 0 where
    pub step : IsRecvStep P old.core.space.streams.recv new.core.space.streams.recv id 0
    pub rest : new ≡ record old { core = with_streams old.core (counted_closed (record old.core.space.streams { recv = new.core.space.streams.recv }) id (is_live old.core.space.streams id)) }

  -- ---- opening

  -- the next stream of a direction is opened, which the peer permits
  pub record IsOpenedAs (dir : Dir) (id : ℕ) (old new : Connection S) : Type 0 where
    pub is_next : id ≡ stream_id old.core.space.streams.side dir (counts_of old.core.space.streams (is_two_way dir)).opened
    pub permitted : (counts_of old.core.space.streams (is_two_way dir)).opened < (counts_of old.core.space.streams (is_two_way dir)).max_opened
    pub opened : IsOpened old.core.space.streams new.core.space.streams id
    pub rest : IsOnStreams old new

  -- the next stream of the peer's is accepted, which came
  pub record IsAcceptedAs (dir : Dir) (id : ℕ) (old new : Connection S) : Type 0 where
    pub is_next : id ≡ stream_id (other_side old.core.space.streams.side) dir (counts_of old.core.space.streams (is_two_way dir)).accepted
    pub came : (counts_of old.core.space.streams (is_two_way dir)).accepted < (counts_of old.core.space.streams (is_two_way dir)).arrived
    pub is : new ≡ record old { core = with_streams old.core (with_counts old.core.space.streams (is_two_way dir) (with_accepted (counts_of old.core.space.streams (is_two_way dir)))) }

  abbrev pub OpensOne : {T : Type 0} → Dir → Reply T → (old new : Connection S) → Type 0
  OpensOne dir (reply.Opened id) old new = IsOpenedAs dir id.0 old new
  OpensOne dir r old new = new ≡ old

  abbrev pub AcceptsOne : {T : Type 0} → Dir → Reply T → (old new : Connection S) → Type 0
  AcceptsOne dir (reply.Opened id) old new = IsAcceptedAs dir id.0 old new
  AcceptsOne dir r old new = new ≡ old

  -- ---- sending halves

  -- A write is refused: the peer's hello wasn't read; or for another reason, and if it is that the connection's limits have no room it is noted that a writer
  -- waits for them.
  abbrev pub IsRefusedAs : WriteFault → (id : ℕ) → (old new : Connection S) → Type 0
  IsRefusedAs e id old new = ((is_some old.handshake.peer ≡ false) × (e ≡ write_faults.ClosedStream) × (new ≡ old)) ⊎ (IsWriteRefused id e old.core new.core × (new ≡ record old { core = new.core }))

  -- as many bytes are taken as the limits permit
  pub record IsWritten (id : ℕ) (payload : List ℕ) (n : ℕ) (old new : Connection S) : Type 0 where
    pub count : IfSome (send_at old.core.space.streams.send id) (λ h. n ≡ min (length payload) (credit h (write_limit old.core.space.streams.send)))
    pub change : IsSendChange (Takes (take n payload)) id n old new

  abbrev pub WritesTo : {T : Type 0} → (id : ℕ) → (payload : List ℕ) → Reply T → (old new : Connection S) → Type 0
  WritesTo id payload (reply.Count n) old new = IsWritten id payload n old new
  WritesTo id payload reply.Pending old new = IsRefusedAs write_faults.Blocked id old new
  WritesTo id payload (reply.Stopped code) old new = IsRefusedAs (write_faults.Stopped code) id old new
  WritesTo id payload reply.ClosedStream old new = IsRefusedAs write_faults.ClosedStream id old new
  WritesTo id payload r old new = new ≡ old

  -- the peer asked to stop the half
  pub record NeedsNoEnd (id : ℕ) (old new : Connection S) : Type 0 where
    pub code : ℕ
    pub stopped : finish_fault_at old.core.space.streams.send id ≡ Some (finish_faults.Stopped code)
    pub same : new ≡ old

  abbrev pub FinishesOne : {T : Type 0} → (id : ℕ) → Reply T → (old new : Connection S) → Type 0
  FinishesOne id reply.Done old new = IsSendChange Finishes id 0 old new ⊎ NeedsNoEnd id old new
  FinishesOne id r old new = new ≡ old

  abbrev pub ResetsOne : {T : Type 0} → (id code : ℕ) → Reply T → (old new : Connection S) → Type 0
  ResetsOne id code reply.Done old new = IsSendChange (IsResetWith code) id 0 old new
  ResetsOne id code r old new = new ≡ old

  abbrev pub PrioritizesOne : {T : Type 0} → (id : ℕ) → (priority : ℤ) → Reply T → (old new : Connection S) → Type 0
  PrioritizesOne id priority reply.Done old new = IsSendChange (HasPriority priority) id 0 old new
  PrioritizesOne id priority r old new = new ≡ old

  -- the end of a `SendStream`: the half is finished, or reset with a code, or nothing of it changes
  pub data EndsSending (id : ℕ) (old new : Connection S) : Type 0 where
    finished : IsSendChange Finishes id 0 old new → EndsSending id old new
    reset : (code : ℕ) → IsSendChange (IsResetWith code) id 0 old new → EndsSending id old new
    kept : new ≡ old → EndsSending id old new

  -- ---- receiving halves

  abbrev pub ReadsBy : (id max_length : ℕ) → (is_ordered : Bool) → Result (Option Chunk) ReadFault → (old new : Connection S) → Type 0
  ReadsBy id max_length is_ordered answer old new = IsRead max_length is_ordered id answer old.core.space.streams new.core.space.streams × IsOnStreams old new

  -- A read of a half that is read still. Where it finds nothing the call waits, or the connection is lost.
  abbrev pub ReadsIn : {T : Type 0} → (id max_length : ℕ) → (is_ordered : Bool) → Reply T → (old new : Connection S) → Type 0
  ReadsIn id max_length is_ordered (reply.Bytes offset bytes) old new = ReadsBy id max_length is_ordered (Ok (Some (record { offset = offset; bytes = bytes }))) old new ⊎ ((max_length ≡ 0) × (bytes ≡ []) × (new ≡ old))
  ReadsIn id max_length is_ordered reply.Ended old new = ReadsBy id max_length is_ordered (Ok None) old new
  ReadsIn id max_length is_ordered (reply.Reset code) old new = ReadsBy id max_length is_ordered (Err (read_faults.Reset code)) old new
  ReadsIn id max_length is_ordered reply.Pending old new = ReadsBy id max_length is_ordered (Err read_faults.Blocked) old new
  ReadsIn id max_length is_ordered (reply.ConnectionLost e) old new = ReadsBy id max_length is_ordered (Err read_faults.Blocked) old new
  ReadsIn id max_length is_ordered r old new = new ≡ old

  -- a half is stopped; if the peer reset it before, its reader takes that
  pub data StopsReading (id code : ℕ) (old new : Connection S) : Type 0 where
    stopped : (mid : Connection S) → IsRecvChange (TakesReset None) id old mid → IsRecvChange (Stops code) id mid new → StopsReading id code old new
    was_reset : (reset : ℕ) → IsRecvChange (TakesReset (Some reset)) id old new → StopsReading id code old new

-- it gives no bytes
abbrev pub GivesNone : {T : Type 0} → Reply T → Type 0
GivesNone (reply.Bytes offset bytes) = bytes ≡ []
GivesNone r = Unit {0}

-- the code that a reader is told
abbrev pub told_code : {T : Type 0} → Reply T → Option ℕ
told_code (reply.Code code) = code
told_code r = None

abbrev pub is_reader_open : Option Reader → Bool
is_reader_open None = false
is_reader_open (Some r) = r.is_open

-- no code of a reset is known of it
abbrev pub is_reader_untold : Option Reader → Bool
is_reader_untold None = false
is_reader_untold (Some r) = not (is_some r.code)

-- the end of its handle stops a half: one that is read and gave no error, of a connection that isn't lost
abbrev pub is_stopped_by_end : Option ConnectionError → Reader → Bool
is_stopped_by_end error r = (not (is_some error) && r.is_open) && not r.gave_error

module _ {S : Type 0} where
  -- a handle holds the half, it is read still, and want of memory left what came to it
  abbrev pub is_reading : StateInner S → (id : ℕ) → Bool
  is_reading s id = not (is_wanting s.connection) && is_reader_open (reader_in s.readers id)

  -- and its reset wasn't told
  abbrev pub asks_reset : StateInner S → (id : ℕ) → Bool
  asks_reset s id = is_reading s id && is_reader_untold (reader_in s.readers id)

  abbrev pub ReadsOne : {T : Type 0} → (id max_length : ℕ) → (is_ordered : Bool) → Reply T → (old new : StateInner S) → Type 0
  ReadsOne id max_length is_ordered r old new = MatchBool (is_reading old id) (ReadsIn id max_length is_ordered r old.connection new.connection) (GivesNone r × (new.connection ≡ old.connection))

  abbrev pub StopsOne : (id code : ℕ) → (old new : StateInner S) → Type 0
  StopsOne id code old new = MatchBool (is_reading old id) (StopsReading id code old.connection new.connection) (new.connection ≡ old.connection)

  abbrev pub TakesResetOf : {T : Type 0} → (id : ℕ) → Reply T → (old new : StateInner S) → Type 0
  TakesResetOf id r old new = MatchBool (asks_reset old id) (IsRecvChange (TakesReset (told_code r)) id old.connection new.connection) (new.connection ≡ old.connection)

  -- the end of a `RecvStream`: the half is stopped with the code 0, if its end stops it
  abbrev pub EndsReading : Option ConnectionError → Reader → (id : ℕ) → (old new : Connection S) → Type 0
  EndsReading error reader id old new = MatchBool (is_stopped_by_end error reader) (StopsReading id 0 old new) (new ≡ old)
