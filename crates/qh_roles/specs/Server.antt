-- How a server stands to what was done with its end, and to what was served.
use Rattle.std.specs.Prelude.{◌≡◌, ◌⊎◌, ℕ, ◌*◌, ◌<◌, ◌≤◌, ◌^◌, Bool, true, false, not, List, ◌++◌, map, Some}
use Rattle.qh_base.specs.declared.connection_error.ConnectionError.TheVariants.{Memory}
use Rattle.qh_core.specs.declared.inner.Inner.{Inner}
use Rattle.qh_halves.specs.Counts.{other_side}
use Rattle.qh_roles.specs.Going.{WentFrom}
use Rattle.qh_roles.specs.Streams.{Acted, IsOver, IsUntouched, IsFresh, IsWriting, IsReading}
use Rattle.qh_roles.specs.declared.server.Handler.{Handler}
use Rattle.qh_roles.specs.declared.server.HandlerState.{HandlerState}
use Rattle.qh_roles.specs.declared.server.HandlerState.TheVariants.{Reading, Responding, Done}
use Rattle.qh_service.specs.declared.service.Limits.{Limits}
use Rattle.qh_spec.specs.Growth.{streams_of}
use Rattle.qh_spec.specs.Lawful.{WritesMessage, ReadsMessage}
use Rattle.qh_spec.specs.Lists.{In, Distinct}
use Rattle.qh_spec.specs.Message.{PlainMessage, IsRequest, IsResponse}
use Rattle.qh_spec.specs.Record.{PlainEntry}
use Rattle.qh_spec.specs.Spelling.{Spells}
use Rattle.qh_spec.specs.StreamId.{stream_id}
use Rattle.qh_spec.specs.Transcript.{Act}
use Rattle.qh_spec.specs.declared.sides.Dir.TheVariants.{Bi}
use Rattle.qh_streams.specs.Streams.{PlainStreams}

-- a server as a value
pub record PlainServer : Type 0 where
  pub limits : Limits
  -- how many streams were accepted
  pub accepted : ℕ
  -- those of them whose response isn't written
  pub handlers : List Handler

-- the limits are those of settings that fit, so that each response that may be given can be written
pub record IsServer (s : PlainServer) : Type 0 where
  pub section : s.limits.max_field_section_size ≤ 2 ^ 20
  pub body : s.limits.max_response_body ≤ 2 ^ 30

-- the response of an entry is written on its stream
pub record Responds (entries : List PlainEntry) (t : List Act) (stream : ℕ) : Type 0 where
  pub entry : PlainEntry
  pub among : In entry entries
  pub stream_is : entry.stream ≡ stream
  pub is_response : IsResponse entry.response.head
  pub writes : WritesMessage t stream entry.response

-- these bytes spell the response of the entry of this stream
pub record SpellsResponse (entries : List PlainEntry) (stream : ℕ) (bytes : List ℕ) : Type 0 where
  pub entry : PlainEntry
  pub among : In entry entries
  pub stream_is : entry.stream ≡ stream
  pub is_response : IsResponse entry.response.head
  pub spells : Spells bytes entry.response

-- how far a request is on its stream
abbrev pub IsHandledIn : List PlainEntry → List Act → (stream : ℕ) → HandlerState → Type 0
IsHandledIn entries t stream (Reading i) = (i.stream ≡ stream) × IsReading t i × IsUntouched t stream
IsHandledIn entries t stream (Responding o) = (o.stream ≡ stream) × SpellsResponse entries stream o.bytes × IsWriting t o
IsHandledIn entries t stream Done = Unit {0}

-- nothing more is done with it
abbrev pub is_done : HandlerState → Bool
is_done Done = true
is_done other = false

abbrev pub is_going : Handler → Bool
is_going h = not (is_done h.state)

-- something is still to be done with each
abbrev pub AreGoing : List Handler → Type 0
AreGoing handlers = (h : Handler) → In h handlers → is_going h ≡ true

-- it reads or writes the stream
abbrev pub IsOn : (stream : ℕ) → HandlerState → Type 0
IsOn stream (Reading i) = i.stream ≡ stream
IsOn stream (Responding o) = o.stream ≡ stream
IsOn stream Done = Unit {0}

abbrev pub AreOnStreams : List Handler → Type 0
AreOnStreams handlers = (h : Handler) → In h handlers → IsOn h.stream.0 h.state

-- the stream has a handler
pub record HasHandler (handlers : List Handler) (stream : ℕ) : Type 0 where
  pub handler : Handler
  pub among : In handler handlers
  pub stream_is : handler.stream.0 ≡ stream

-- the stream has a handler, or nothing more is written of it
abbrev pub IsCaredFor : List Handler → PlainStreams → (stream : ℕ) → Type 0
IsCaredFor handlers s stream = HasHandler handlers stream ⊎ IsOver s.send stream

-- No stream was forgotten, neither one that had a handler nor one that was accepted now; and each handler is on its stream.
pub record ForgetsNone (old new : List Handler) (before after : PlainStreams) : Type 0 where
  pub each : (stream : ℕ) → HasHandler old stream → IsCaredFor new after stream
  pub fresh : (k : ℕ) → before.bi.accepted ≤ k → k < after.bi.accepted → IsCaredFor new after (stream_id (other_side before.side) Bi k)
  pub on : AreOnStreams new

-- the streams that a server handles: each of those that were accepted, none twice
pub record HaveHandlers (s : PlainServer) (entries : List PlainEntry) (t : List Act) : Type 0 where
  pub each : (h : Handler) → In h s.handlers → IsHandledIn entries t h.stream.0 h.state
  pub accepted : (h : Handler) → In h s.handlers → h.stream.0 < 4 * s.accepted
  pub apart : Distinct (map (λ (h : Handler). h.stream.0) s.handlers)
  pub fresh : (k : ℕ) → s.accepted ≤ k → IsFresh t (4 * k)

-- What a server does with its streams: the requests of the entries are what it read, no stream twice, and it writes their
-- responses.
pub record Serving (s : PlainServer) (entries : List PlainEntry) (t : List Act) : Type 0 where
  pub served : (e : PlainEntry) → In e entries → IsRequest e.request.head × ReadsMessage t e.stream e.request
  pub once : Distinct (streams_of entries)
  pub responds : (stream : ℕ) → IsUntouched t stream ⊎ Responds entries t stream
  pub handlers : HaveHandlers s entries t

-- the record grew by entries whose responses are answers to their requests
pub record GrewByAnswers (Answer : PlainMessage → PlainMessage → Type 0) (before after : List PlainEntry) : Type 0 where
  pub fresh : List PlainEntry
  pub longer : after ≡ before ++ fresh
  pub each : (e : PlainEntry) → In e fresh → Answer e.request e.response

module _ {S : Type 0} where
  -- the end accepted as many streams, unless want of memory ended it
  abbrev pub HasAccepted : PlainServer → Inner S → Type 0
  HasAccepted s end = (end.error ≡ Some Memory) ⊎ (end.space.streams.bi.accepted ≡ s.accepted)

  -- a server served, and the record grew
  pub record ServerStep (old new : PlainServer) (end_before end_after : Inner S) (before after : List PlainEntry) : Type 0 where
    pub fresh : List PlainEntry
    pub served_is : after ≡ before ++ fresh
    pub does : (start : Inner S) (done t : List Act) (entries : List PlainEntry) → WentFrom start done end_before t → Serving old entries t
        → Acted start done (Serving new (entries ++ fresh)) end_after t
