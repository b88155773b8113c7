-- What a call does to the connection: what it adds to all that was done with it, what it says to the peer, and what it leaves as it was.
use Rattle.std.specs.Prelude.{◌≡◌, ◌⊎◌, ℕ, ◌-◌, ◌==◌, max, Bool, true, false, ◌&&◌, not, List, [], ◌∷◌, ◌++◌, length, take, Option, Some, None, Result, MatchBool, MatchOption, MatchResult, is_some, if◌then◌else◌}
use Rattle.qh_base.specs.declared.connection_error.ConnectionError.{ConnectionError}
use Rattle.qh_base.specs.declared.connection_error.ConnectionError.TheVariants.{LocallyClosed}
use Rattle.qh_base.specs.declared.memory.Memory.{Memory}
use Rattle.qh_base.specs.declared.time.Moment.{Moment}
use Rattle.qh_book.specs.Book.{Book}
use Rattle.qh_book.specs.Pages.{RecvPage, SendPage, is_reset, is_writing, live_send, open_recv}
use Rattle.qh_book.specs.declared.call.Call.{Call}
use Rattle.qh_book.specs.declared.call.Call.TheVariants as call
use Rattle.qh_book.specs.declared.call.Setting.{Setting}
use Rattle.qh_book.specs.declared.call.Setting.TheVariants as setting
use Rattle.qh_book.specs.declared.reply.Reply.{Reply}
use Rattle.qh_book.specs.declared.reply.Reply.TheVariants as reply
use Rattle.qh_conn.specs.Greeting.{early_concurrent, with_concurrent}
use Rattle.qh_conn.specs.Whole.{CarriesOn}
use Rattle.qh_conn.specs.declared.connection.Connection.{Connection}
use Rattle.qh_conn.specs.declared.connection.EarlyLimits.{EarlyLimits}
use Rattle.qh_core.specs.Inner.{is_open, with_streams}
use Rattle.qh_core.specs.Receiving.{IsClosedWith}
use Rattle.qh_core.specs.declared.state.Close.TheVariants.{Application}
use Rattle.qh_datagrams.specs.Datagrams.{with_room}
use Rattle.qh_quinn.specs.Readers.{reader_in}
use Rattle.qh_quinn.specs.States.{Shows}
use Rattle.qh_quinn.specs.Streaming.{AcceptsOne, EndsReading, EndsSending, FinishesOne, OpensOne, PrioritizesOne, ReadsOne, ResetsOne, StopsOne, TakesResetOf, WritesTo}
use Rattle.qh_quinn.specs.declared.inner.StateInner.{StateInner}
use Rattle.qh_spec.specs.Transcript.{Act, Finished, ReadEnd, ReadReset, Reset, Stopped, Wrote}
use Rattle.qh_spec.specs.declared.sides.Dir.TheVariants.{Bi, Uni}
use Rattle.qh_streams.specs.Streams.{PlainStreams}
use Rattle.qh_transcript.specs.Receiving.{piece_acts}

-- ---- what a call adds to all that was done with the connection

-- the end is told to a reader, if the half is read still
abbrev pub end_acts : (id : ℕ) → Option RecvPage → List Act
end_acts id None = []
end_acts id (Some p) = ReadEnd id ∷ []

-- and the code of a reset
abbrev pub reset_told_acts : (id code : ℕ) → Option RecvPage → List Act
reset_told_acts id code None = []
reset_told_acts id code (Some p) = ReadReset id code ∷ []

-- a half that is read is stopped; if the peer reset it before, its reader takes that
abbrev pub stopped_by : (id code : ℕ) → Option ℕ → List Act
stopped_by id code None = Stopped id code ∷ []
stopped_by id code (Some reset) = ReadReset id reset ∷ []

abbrev pub stop_acts : (is_emptied : Bool) → (id code : ℕ) → Option RecvPage → List Act
stop_acts is_emptied id code None = []
stop_acts is_emptied id code (Some p) = if is_emptied then [] else stopped_by id code p.reset_code

-- the half is finished, unless the peer asked to stop it
abbrev pub finished_by : (id : ℕ) → Option ℕ → List Act
finished_by id None = Finished id ∷ []
finished_by id (Some code) = []

abbrev pub finish_acts : (id : ℕ) → Option SendPage → List Act
finish_acts id None = []
finish_acts id (Some p) = finished_by id p.stop_code

-- the end of a `SendStream` finishes the half, or resets it with the code with which the peer asked to stop it
abbrev pub send_ended_by : (id : ℕ) → SendPage → Option ℕ → List Act
send_ended_by id p None = if is_writing p.state then Finished id ∷ [] else []
send_ended_by id p (Some code) = if is_reset p.state then [] else Reset id code ∷ []

abbrev pub send_end_acts : (id : ℕ) → Option SendPage → List Act
send_end_acts id None = []
send_end_acts id (Some p) = send_ended_by id p p.stop_code

-- the end of a `RecvStream` stops the half with the code 0, unless a read gave its end or an error
abbrev pub recv_end_acts : (is_emptied : Bool) → (id : ℕ) → Option RecvPage → List Act
recv_end_acts is_emptied id None = []
recv_end_acts is_emptied id (Some p) = if p.gave_error then [] else stop_acts is_emptied id 0 (Some p)

-- nothing of a stream changes once an error is kept
abbrev pub send_handle_acts : Book → (id : ℕ) → List Act
send_handle_acts b id = if is_some b.error then [] else send_end_acts id (live_send (b.sends id))

abbrev pub recv_handle_acts : Book → (id : ℕ) → List Act
recv_handle_acts b id = if is_some b.error then [] else recv_end_acts b.is_emptied id (open_recv (b.recvs id))

-- told by the call, its reply, and the book before it
abbrev pub call_acts : {T : Type 0} → Book → Call → Reply T → List Act
call_acts b (call.Read id max_length is_ordered) (reply.Bytes offset bytes) = piece_acts id.0 offset bytes
call_acts b (call.Read id max_length is_ordered) reply.Ended = end_acts id.0 (open_recv (b.recvs id.0))
call_acts b (call.Read id max_length is_ordered) (reply.Reset code) = ReadReset id.0 code ∷ []
call_acts b (call.Write id payload) (reply.Count n) = Wrote id.0 (take n payload) ∷ []
call_acts b (call.Finish id) reply.Done = finish_acts id.0 (live_send (b.sends id.0))
call_acts b (call.Reset id code) reply.Done = Reset id.0 code ∷ []
call_acts b (call.Stop id code) reply.Done = stop_acts b.is_emptied id.0 code (open_recv (b.recvs id.0))
call_acts b (call.ReceivedReset id) (reply.Code (Some code)) = reset_told_acts id.0 code (open_recv (b.recvs id.0))
call_acts b (call.EndSend id) r = send_handle_acts b id.0
call_acts b (call.EndRecv id) r = if b.readers id.0 then recv_handle_acts b id.0 else []
call_acts b other r = []

-- a datagram is queued behind the others; one that doesn't wait for room drops the oldest ones
abbrev pub queued_behind : (wait : Bool) → (payload : List ℕ) → (room : ℕ) → List (List ℕ) → List (List ℕ)
queued_behind wait payload room queued = (if wait then queued else with_room (length payload) room queued) ++ payload ∷ []

-- calls after which there may be something to send, if they changed the connection
abbrev pub IsSending : {T : Type 0} → Call → Reply T → Type 0
IsSending (call.Read id max_length is_ordered) (reply.Bytes offset bytes) = Unit {0}
IsSending (call.Read id max_length is_ordered) reply.Ended = Unit {0}
IsSending (call.Read id max_length is_ordered) (reply.Reset code) = Unit {0}
IsSending (call.Write id payload) (reply.Count n) = Unit {0}
IsSending (call.Finish id) reply.Done = Unit {0}
IsSending (call.Reset id code) reply.Done = Unit {0}
IsSending (call.Stop id code) reply.Done = Unit {0}
IsSending (call.ReceivedReset id) (reply.Code code) = Unit {0}
IsSending (call.SendDatagram payload wait) reply.Done = Unit {0}
IsSending (call.Close now code reason) r = Unit {0}
IsSending (call.EndSend id) r = Unit {0}
IsSending (call.EndRecv id) r = Unit {0}
IsSending call.EndHandle r = Unit {0}
IsSending (call.Set setting) r = Unit {0}
IsSending other r = ⊥

module _ {S : Type 0} where
  -- ---- what it makes of the connection

  -- This end closes with a code and a reason of the application's, if it is open, at the later of two moments.
  pub record ClosesWith (one other : Moment) (code : ℕ) (reason : List ℕ) (old new : Connection S) : Type 0 where
    pub moment : Moment
    pub is_later : moment.0 ≡ max one.0 other.0
    pub closed : is_open old.core.state ≡ true → IsClosedWith moment (Application (record { error_code = code; reason = reason })) LocallyClosed old.core new.core
    pub kept : is_open old.core.state ≡ false → new ≡ old
    pub rest : new ≡ record old { core = new.core }

  -- A handle ends. The last one closes, if no error is kept, with the code 0 and no reason, at the moment of the driver's last turn.
  abbrev pub EndsHandleOf : (handles : ℕ) → Option ConnectionError → (last_turn : Moment) → (old new : Connection S) → Type 0
  EndsHandleOf handles error last_turn old new = MatchBool (handles - 1 == 0 && not (is_some error)) (ClosesWith last_turn last_turn 0 [] old new) (new ≡ old)

  -- the handle of a half ends: first of the half, if no error is kept
  pub record EndsHalfOf (Half : Connection S → Connection S → Type 0) (handles : ℕ) (error : Option ConnectionError) (last_turn : Moment) (old new : Connection S) : Type 0 where
    pub mid : Connection S
    pub half : Half old mid
    pub lost : is_some error ≡ true → mid ≡ old
    pub ends : EndsHandleOf handles error last_turn mid new

  -- a limit is set, and held for the peer's hello if that wasn't read
  abbrev pub IsLimitSet : (streams : PlainStreams) (early : EarlyLimits) (old new : Connection S) → Type 0
  IsLimitSet streams early old new = new ≡ record old { core = with_streams old.core streams; early = (if is_some old.handshake.peer then old.early else early) }

  abbrev pub IsSet : Setting → (old new : Connection S) → Type 0
  IsSet (setting.MaxConcurrentUniStreams count) old new = IsLimitSet (with_concurrent Uni count old.core.space.streams) (early_concurrent Uni count old.early) old new
  IsSet (setting.MaxConcurrentBiStreams count) old new = IsLimitSet (with_concurrent Bi count old.core.space.streams) (early_concurrent Bi count old.early) old new
  IsSet (setting.SendWindow bytes) old new = IsLimitSet (record old.core.space.streams { send = record old.core.space.streams.send { send_window = bytes } }) (record old.early { send_window = Some bytes }) old new
  IsSet (setting.ReceiveWindow bytes) old new = IsLimitSet (record old.core.space.streams { recv = record old.core.space.streams.recv { receive_window = bytes } }) (record old.early { receive_window = Some bytes }) old new

  -- a datagram is queued; one that waits for room notes that it does
  abbrev pub IsQueued : {T : Type 0} → (payload : List ℕ) → (wait : Bool) → Reply T → (old new : Connection S) → Type 0
  IsQueued payload wait reply.Done old new = new ≡ record old { control = record old.control { datagrams = record old.control.datagrams { outgoing = queued_behind wait payload old.control.datagram_send old.control.datagrams.outgoing } } }
  IsQueued payload wait reply.Pending old new = new ≡ record old { control = record old.control { datagrams = record old.control.datagrams { is_send_blocked = true } } }
  IsQueued payload wait r old new = new ≡ old

  -- the oldest datagram that came is taken
  pub record IsTaken (payload : List ℕ) (old new : Connection S) : Type 0 where
    pub oldest : old.control.datagrams.incoming ≡ payload ∷ new.control.datagrams.incoming
    pub rest : new ≡ record old { control = record old.control { datagrams = record old.control.datagrams { incoming = new.control.datagrams.incoming } } }

  abbrev pub IsReceived : {T : Type 0} → Reply T → (old new : Connection S) → Type 0
  IsReceived (reply.Datagram payload) old new = IsTaken payload old new
  IsReceived r old new = new ≡ old

  -- What a call makes of the connection.
  abbrev pub IsCalled : {T : Type 0} → Call → Reply T → (old new : StateInner S) → Type 0
  IsCalled (call.Close now code reason) r old new = ClosesWith now old.last_turn code reason old.connection new.connection
  IsCalled call.EndHandle r old new = EndsHandleOf old.handles old.error old.last_turn old.connection new.connection
  IsCalled (call.EndSend id) r old new = EndsHalfOf (EndsSending id.0) old.handles old.error old.last_turn old.connection new.connection
  IsCalled (call.EndRecv id) r old new = MatchOption (reader_in old.readers id.0) (new.connection ≡ old.connection) (λ reader. EndsHalfOf (EndsReading old.error reader id.0) old.handles old.error old.last_turn old.connection new.connection)
  IsCalled (call.Set setting) r old new = IsSet setting old.connection new.connection
  IsCalled (call.SendDatagram payload wait) r old new = IsQueued payload wait r old.connection new.connection
  IsCalled call.ReadDatagram r old new = IsReceived r old.connection new.connection
  IsCalled (call.Open dir) r old new = OpensOne dir r old.connection new.connection
  IsCalled (call.Accept dir) r old new = AcceptsOne dir r old.connection new.connection
  IsCalled (call.Read id max_length is_ordered) r old new = ReadsOne id.0 max_length is_ordered r old new
  IsCalled (call.Write id payload) r old new = WritesTo id.0 payload r old.connection new.connection
  IsCalled (call.Finish id) r old new = FinishesOne id.0 r old.connection new.connection
  IsCalled (call.Reset id code) r old new = ResetsOne id.0 code r old.connection new.connection
  IsCalled (call.Stop id code) r old new = StopsOne id.0 code old new
  IsCalled (call.ReceivedReset id) r old new = TakesResetOf id.0 r old new
  IsCalled (call.SetPriority id priority) r old new = PrioritizesOne id.0 priority r old.connection new.connection
  IsCalled other r old new = new.connection ≡ old.connection

  -- ---- the driver

  -- the driver is woken if the connection changed
  abbrev pub WakesIfChanged : (old new : StateInner S) → Type 0
  WakesIfChanged old new = (new.connection ≡ old.connection) ⊎ (new.driver ≡ None)

  -- ---- the whole of it

  pub record IsCallOf {T : Type 0} (c : Call) (r : Reply T) (old new : StateInner S) : Type 0 where
    pub carries : (b : Book) → Shows old b → CarriesOn old.connection new.connection (call_acts b c r)
    pub called : IsCalled c r old new
    pub wakes : IsSending c r → WakesIfChanged old new

  -- for want of memory nothing is done with the connection
  abbrev pub CallsOf : {T : Type 0} → Call → Result (Reply T) Memory → (old new : StateInner S) → Type 0
  CallsOf c result old new = MatchResult result (λ r. IsCallOf c r old new) (λ _. new.connection ≡ old.connection)
