-- What the parts of a server do: calls on one stream, and entries of that stream.
use Rattle.std.specs.Prelude.{◌≡◌, ◌⊎◌, ℕ, ◌≤◌, ◌<◌, ◌^◌, true, false, List, ◌++◌, Result, Ok, Err, IfOk}
use Rattle.qh_base.specs.declared.memory.Memory.{Memory as OutOfMemory}
use Rattle.qh_core.specs.Inner.{with_streams}
use Rattle.qh_core.specs.declared.inner.Inner.{Inner}
use Rattle.qh_halves.specs.Counts.{other_side}
use Rattle.qh_roles.specs.Going.{WentFrom}
use Rattle.qh_roles.specs.Server.{AreGoing, AreOnStreams, HasHandler, IsOn, IsHandledIn, is_done, SpellsResponse, Responds, HasAccepted, ServerStep, GrewByAnswers}
use Rattle.qh_roles.specs.Streams.{AreOn, IsFresh, IsOver, IsUntouched, IsUnread, IsStirred, NoneArrived}
use Rattle.qh_roles.specs.declared.server.Handler.{Handler}
use Rattle.qh_roles.specs.declared.server.HandlerState.{HandlerState}
use Rattle.qh_roles.specs.declared.server.HandlerState.TheVariants.{Reading, Responding, Done}
use Rattle.qh_service.specs.declared.service.Limits.{Limits}
use Rattle.qh_spec.specs.Growth.{streams_of}
use Rattle.qh_spec.specs.Lawful.{ReadsMessage}
use Rattle.qh_spec.specs.Lists.{In, Distinct}
use Rattle.qh_spec.specs.Message.{PlainMessage, IsRequest}
use Rattle.qh_spec.specs.Record.{PlainEntry}
use Rattle.qh_spec.specs.Spelling.{Spells}
use Rattle.qh_spec.specs.StreamId.{stream_id}
use Rattle.qh_spec.specs.Transcript.{Act, ended}
use Rattle.qh_spec.specs.declared.sides.Dir.TheVariants.{Bi}
use Rattle.qh_streams.specs.Streams.{PlainStreams}

-- the limits of settings that fit
pub record AreFitting (limits : Limits) : Type 0 where
  pub section : limits.max_field_section_size ≤ 2 ^ 20
  pub body : limits.max_response_body ≤ 2 ^ 30

-- the entry's request came on this stream, as these bytes
pub record CameOn (stream : ℕ) (bytes : List ℕ) (e : PlainEntry) : Type 0 where
  pub stream_is : e.stream ≡ stream
  pub is_request : IsRequest e.request.head
  pub spells : Spells bytes e.request

-- what handles a stream behind its request: the response of an entry waits whole, or nothing more is done
abbrev pub IsAnswering : (entries : List PlainEntry) → (stream : ℕ) → HandlerState → Type 0
IsAnswering entries stream (Reading i) = ⊥
IsAnswering entries stream (Responding o) = (o.stream ≡ stream) × (o.taken ≡ 0) × SpellsResponse entries stream o.bytes
IsAnswering entries stream Done = Unit {0}

-- how a stream goes on; nothing more is done where memory is wanting
abbrev pub state_of : Result HandlerState OutOfMemory → HandlerState
state_of (Ok state) = state
state_of (Err e) = Done

-- the record grew by the request that came so on this stream, or by nothing, and this is how the stream goes on
pub record IsServed (stream : ℕ) (bytes : List ℕ) (result : Result HandlerState OutOfMemory) (before after : List PlainEntry) : Type 0 where
  pub fresh : List PlainEntry
  pub longer : after ≡ before ++ fresh
  pub each : (e : PlainEntry) → In e fresh → CameOn stream bytes e
  pub once : Distinct (streams_of fresh)
  pub state : IfOk result (IsAnswering fresh stream)

-- an entry of this stream that was recorded now: its request was read, and hadn't been before
pub record IsFreshOn (stream : ℕ) (t acts : List Act) (e : PlainEntry) : Type 0 where
  pub stream_is : e.stream ≡ stream
  pub is_request : IsRequest e.request.head
  pub reads : ReadsMessage (t ++ acts) stream e.request
  pub first : ended t stream ≡ false

-- a stream is handled so: where nothing more is done with it, nothing more is written of it
abbrev pub IsSettledIn : (stream : ℕ) → PlainStreams → HandlerState → Type 0
IsSettledIn stream s state = IsOn stream state × (is_done state ≡ true → IsOver s.send stream)

abbrev pub AreSettled : List Handler → PlainStreams → Type 0
AreSettled handlers s = (h : Handler) → In h handlers → IsSettledIn h.stream.0 s h.state

-- each stream that was accepted has a handler with which something is to be done
pub record Accepts (old new : List Handler) (before after : PlainStreams) : Type 0 where
  pub each : (stream : ℕ) → HasHandler old stream → HasHandler new stream
  pub fresh : (k : ℕ) → before.bi.accepted ≤ k → k < after.bi.accepted → HasHandler new (stream_id (other_side before.side) Bi k)
  pub side : after.side ≡ before.side
  pub going : AreGoing old → AreGoing new
  pub on : AreOnStreams old → AreOnStreams new

-- handlers went on with their streams, and none was lost
pub record Polls (old new : List Handler) (before after : PlainStreams) : Type 0 where
  pub each : (stream : ℕ) → HasHandler old stream → HasHandler new stream
  pub settled : AreSettled old before → AreSettled new after
  pub arrived : NoneArrived before after

module _ {S : Type 0} where
  -- calls on this stream neither wrote nor read anything
  pub record IsQuiet (start : Inner S) (before : List Act) (stream : ℕ) (new : Inner S) (t : List Act) : Type 0 where
    pub acts : List Act
    pub on : AreOn stream acts
    pub fresh : IsFresh acts stream
    pub follows : WentFrom start before new (t ++ acts)

  -- what calls on one stream did behind this transcript, and how the stream is handled then
  pub record Handles (start : Inner S) (before : List Act) (stream : ℕ) (state : HandlerState) (new : Inner S) (entries fresh : List PlainEntry) (t : List Act) : Type 0 where
    pub acts : List Act
    pub on : AreOn stream acts
    pub follows : WentFrom start before new (t ++ acts)
    pub reads : IsUnread acts stream ⊎ (ended t stream ≡ false)
    pub writes : IsUntouched acts stream ⊎ Responds (entries ++ fresh) (t ++ acts) stream
    pub each : (e : PlainEntry) → In e fresh → IsFreshOn stream t acts e
    pub handled : IsHandledIn (entries ++ fresh) (t ++ acts) stream state

  -- a handler went on with its stream
  pub record HandlerStep (stream : ℕ) (old new : HandlerState) (end_before end_after : Inner S) (before after : List PlainEntry) : Type 0 where
    pub fresh : List PlainEntry
    pub longer : after ≡ before ++ fresh
    pub once : Distinct (streams_of fresh)
    pub does : (start : Inner S) (done t : List Act) (entries : List PlainEntry) → WentFrom start done end_before t → IsHandledIn entries t stream old
        → Handles start done stream new end_after entries fresh t

  -- handlers went on with their streams
  pub record HandlersStep (Answer : PlainMessage → PlainMessage → Type 0) (limits : Limits) (accepted : ℕ) (old new : List Handler)
      (end_before end_after : Inner S) (before after : List PlainEntry) : Type 0 where
    pub stirred : IsStirred end_before end_after
    pub serves : ServerStep (record { limits = limits; accepted = accepted; handlers = old }) (record { limits = limits; accepted = accepted; handlers = new }) end_before end_after before after
    pub answered : GrewByAnswers Answer before after

  -- the next stream was accepted, or none was new
  pub record AcceptStep (old_count new_count : ℕ) (old new : List Handler) (end_before end_after : Inner S) : Type 0 where
    pub rest : end_after ≡ with_streams end_before end_after.space.streams
    pub counts : end_after.space.streams.bi.accepted ≡ new_count
    pub serves : (limits : Limits) (recorded : List PlainEntry)
        → ServerStep (record { limits = limits; accepted = old_count; handlers = old }) (record { limits = limits; accepted = new_count; handlers = new }) end_before end_after recorded recorded

  -- a server went on with all its streams: its handlers and how many streams it accepted, before and after
  pub record Advances (Answer : PlainMessage → PlainMessage → Type 0) (limits : Limits) (old_count new_count : ℕ) (old new : List Handler)
      (end_before end_after : Inner S) (before after : List PlainEntry) : Type 0 where
    pub rest : end_after ≡ with_streams end_before end_after.space.streams
    pub accepted : HasAccepted (record { limits = limits; accepted = old_count; handlers = old }) end_before
        → HasAccepted (record { limits = limits; accepted = new_count; handlers = new }) end_after
    pub serves : HasAccepted (record { limits = limits; accepted = old_count; handlers = old }) end_before
        → ServerStep (record { limits = limits; accepted = old_count; handlers = old }) (record { limits = limits; accepted = new_count; handlers = new }) end_before end_after before after
    pub answered : GrewByAnswers Answer before after
