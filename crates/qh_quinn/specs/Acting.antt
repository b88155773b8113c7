-- What a call does at a state: it is one step of each book that shows the state.
use Rattle.std.specs.Prelude.{◌≡◌, ℕ, Option, Some, None, Result, MatchResult, if◌then◌else◌}
use Rattle.qh_base.specs.declared.memory.Memory.{Memory}
use Rattle.qh_base.specs.declared.connection_error.ConnectionError.{ConnectionError}
use Rattle.qh_book.specs.Book.{Book, without_handle}
use Rattle.qh_book.specs.Receiving.{with_recv_ended, without_reader}
use Rattle.qh_book.specs.Step.{Allows, Steps}
use Rattle.qh_book.specs.declared.call.Call.{Call}
use Rattle.qh_book.specs.declared.call.Call.TheVariants as call
use Rattle.qh_book.specs.declared.reply.Reply.{Reply}
use Rattle.qh_book.specs.declared.reply.Reply.TheVariants as reply
use Rattle.qh_handles.specs.Told.{MayReply}
use Rattle.qh_handles.specs.declared.told.Told.{Told}
use Rattle.qh_quinn.specs.Calls.{IsCallOf}
use Rattle.qh_quinn.specs.States.{IsState, Shows}
use Rattle.qh_quinn.specs.declared.inner.StateInner.{StateInner}

-- the error that is kept; if there is none the call waits
abbrev pub lost_or_pending : {T : Type 0} → Option ConnectionError → Reply T
lost_or_pending None = reply.Pending
lost_or_pending (Some e) = reply.ConnectionLost e

-- the handle of a stream's receiving half ends, if one holds it
abbrev pub recv_handle_ended : (id : ℕ) → Book → Book
recv_handle_ended id b = if b.readers id then without_handle (without_reader id (with_recv_ended b id)) else b

-- what waits for the driver isn't touched
abbrev pub KeepsTurns : {S : Type 0} → (old new : StateInner S) → Type 0
KeepsTurns old new = new ≡ record old {
  connection = new.connection;
  error = new.error;
  handles = new.handles;
  readers = new.readers;
  waiting = new.waiting;
  driver = new.driver;
}

-- the call hands nothing over
abbrev pub IsLent : Call → Type 0
IsLent (call.Close now code reason) = ⊥
IsLent (call.SendDatagram payload wait) = ⊥
IsLent other = Unit {0}

-- the call is told a value that the book doesn't have
abbrev pub IsTelling : Call → Type 0
IsTelling call.HandshakeData = Unit {0}
IsTelling (call.Get getter) = Unit {0}
IsTelling other = ⊥

-- the call takes no memory
abbrev pub IsFree : Call → Type 0
IsFree (call.Finish id) = Unit {0}
IsFree (call.Reset id code) = Unit {0}
IsFree (call.Stop id code) = Unit {0}
IsFree (call.SetPriority id priority) = Unit {0}
IsFree (call.Priority id) = Unit {0}
IsFree call.CloseReason = Unit {0}
IsFree (call.Close now code reason) = Unit {0}
IsFree (call.EndSend id) = Unit {0}
IsFree (call.EndRecv id) = Unit {0}
IsFree call.EndHandle = Unit {0}
IsFree (call.Get getter) = Unit {0}
IsFree (call.Set setting) = Unit {0}
IsFree other = ⊥

-- the call is on one stream
abbrev pub IsOfStream : Call → Type 0
IsOfStream (call.Read id max_length is_ordered) = Unit {0}
IsOfStream (call.Write id payload) = Unit {0}
IsOfStream (call.Finish id) = Unit {0}
IsOfStream (call.Reset id code) = Unit {0}
IsOfStream (call.Stop id code) = Unit {0}
IsOfStream (call.Stopped id) = Unit {0}
IsOfStream (call.ReceivedReset id) = Unit {0}
IsOfStream (call.SetPriority id priority) = Unit {0}
IsOfStream (call.Priority id) = Unit {0}
IsOfStream (call.EndSend id) = Unit {0}
IsOfStream (call.EndRecv id) = Unit {0}
IsOfStream other = ⊥

module _ {S : Type 0} where
  -- each book that showed the state shows it, changed so
  pub record IsChanged (f : Book → Book) (old new : StateInner S) : Type 0 where
    pub each : (b : Book) → Shows old b → Shows new (f b)
    pub state : IsState new

  -- For want of memory no call was made: each book that showed the state shows it still.
  pub record Stays (old new : StateInner S) : Type 0 where
    pub each : (b : Book) → Shows old b → Shows new b
    pub state : IsState new

module _ {S T : Type 0} where
  -- The book allows the reply, and shows the state then, but for that the call may wait now.
  pub record IsAllowed (call : Call) (reply : Reply T) (b : Book) (new : StateInner S) : Type 0 where
    pub after : Book
    pub allows : Allows b call reply after
    pub shows : Shows new after

  -- so it is of each book that shows the state before
  pub record IsAnswered (call : Call) (reply : Reply T) (old new : StateInner S) : Type 0 where
    pub each : (b : Book) → Shows old b → IsAllowed call reply b new
    pub state : IsState new

  abbrev pub Answers : Call → Result (Reply T) Memory → (old new : StateInner S) → Type 0
  Answers call result old new = MatchResult result (λ reply. IsAnswered call reply old new) (λ _. Stays old new)

  -- The call steps the book, with its interest if it waits.
  pub record IsStepOf (call : Call) (reply : Reply T) (b : Book) (new : StateInner S) : Type 0 where
    pub after : Book
    pub steps : Steps b call reply after
    pub shows : Shows new after

  pub record IsActed (call : Call) (reply : Reply T) (old new : StateInner S) : Type 0 where
    pub each : (b : Book) → Shows old b → IsStepOf call reply b new
    pub state : IsState new

  abbrev pub Acts : Call → Result (Reply T) Memory → (old new : StateInner S) → Type 0
  Acts call result old new = MatchResult result (λ reply. IsActed call reply old new) (λ _. Stays old new)

-- ---- what is said of calls where each state is known to be one

module _ {S : Type 0} where
  -- For want of memory no call was made. So it is of each state that nothing is done at.
  abbrev pub IsKept : (old new : StateInner S) → Type 0
  IsKept old new = (b : Book) → Shows old b → Shows new b

  -- and nothing was done with the connection
  pub record IsUnmade (old new : StateInner S) : Type 0 where
    pub kept : IsKept old new
    pub same : new.connection ≡ old.connection

module _ {S D : Type 0} where
  -- the call was made, as one of the connection's, and replied in a form that it may have
  pub record IsMade (call : Call) (reply : Reply (Told D)) (old new : StateInner S) : Type 0 where
    pub acted : IsActed call reply old new
    pub calls : IsCallOf call reply old new
    pub fits : MayReply call reply
