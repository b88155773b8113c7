-- How a client stands to what was done with its end.
use Rattle.std.specs.Prelude.{◌≡◌, ◌⊎◌, ℕ, ◌+◌, ◌*◌, ◌<◌, ◌≤◌, Bool, true, false, List, [], ◌∷◌, length, map, filter, slice_get, Option, Some, None, is_some}
use Rattle.qh_base.specs.declared.connection_error.ConnectionError.TheVariants.{Memory}
use Rattle.qh_core.specs.declared.inner.Inner.{Inner}
use Rattle.qh_message.specs.Written.{CanBeWritten}
use Rattle.qh_roles.specs.Streams.{IsUntouched, IsUnread, IsFresh, IsWriting, IsReading}
use Rattle.qh_roles.specs.declared.client.RequestStream.{RequestStream}
use Rattle.qh_roles.specs.declared.client.RequestState.{RequestState}
use Rattle.qh_roles.specs.declared.client.RequestState.TheVariants.{Sending, Receiving, Done}
use Rattle.qh_spec.specs.Lawful.{WritesMessage, ReadsMessage}
use Rattle.qh_spec.specs.Lists.{In, Distinct}
use Rattle.qh_spec.specs.Message.{PlainMessage, IsRequest, IsResponse}
use Rattle.qh_spec.specs.Spelling.{Spells}
use Rattle.qh_spec.specs.Transcript.{Act}

-- a client as a value
pub record PlainClient : Type 0 where
  pub requests : List PlainMessage
  -- the index of the first request that has no stream yet
  pub next : ℕ
  -- the streams on which a request is sent, or an answer comes
  pub streams : List RequestStream
  -- as many as requests: the answers that are held
  pub answers : List (Option PlainMessage)

-- how many answers are held
abbrev pub held : List (Option PlainMessage) → ℕ
held answers = length (filter is_some answers)

-- requests that can be written
abbrev pub AreAskable : List PlainMessage → Type 0
AreAskable requests = (index : ℕ) (m : PlainMessage) → slice_get requests index ≡ Some m → IsRequest m.head × CanBeWritten m

-- there are as many places for answers as requests, and each stream is of a request
pub record IsClient (c : PlainClient) : Type 0 where
  pub places : length c.answers ≡ length c.requests
  pub next_within : c.next ≤ length c.requests
  pub askable : AreAskable c.requests
  pub opened : (r : RequestStream) → In r c.streams → r.index < c.next

-- one of the requests is written on the stream, which has its index
pub record Asks (requests : List PlainMessage) (t : List Act) (stream : ℕ) : Type 0 where
  pub index : ℕ
  pub asked : PlainMessage
  pub asked_is : slice_get requests index ≡ Some asked
  pub stream_is : stream ≡ 4 * index
  pub is_request : IsRequest asked.head
  pub writes : WritesMessage t stream asked

-- these bytes spell the request of this index
pub record SpellsAsked (requests : List PlainMessage) (index : ℕ) (bytes : List ℕ) : Type 0 where
  pub asked : PlainMessage
  pub asked_is : slice_get requests index ≡ Some asked
  pub is_request : IsRequest asked.head
  pub spells : Spells bytes asked

-- how far a request is on its stream
abbrev pub IsAskedIn : List PlainMessage → List Act → (index : ℕ) → RequestState → Type 0
IsAskedIn requests t index (Sending o) = (o.stream ≡ 4 * index) × SpellsAsked requests index o.bytes × IsWriting t o × IsUnread t (4 * index)
IsAskedIn requests t index (Receiving i) = (i.stream ≡ 4 * index) × IsReading t i
IsAskedIn requests t index Done = Unit {0}

-- the streams that a client uses, no index twice
pub record HaveStreams (c : PlainClient) (t : List Act) : Type 0 where
  pub each : (r : RequestStream) → In r c.streams → IsAskedIn c.requests t r.index r.state
  pub apart : Distinct (map (λ (r : RequestStream). r.index) c.streams)
  pub fresh : (k : ℕ) → c.next ≤ k → IsFresh t (4 * k)

-- What a client does with its streams: it writes requests, and its answers are what it read.
pub record Asking (c : PlainClient) (t : List Act) : Type 0 where
  pub asks : (stream : ℕ) → IsUntouched t stream ⊎ Asks c.requests t stream
  pub answers_are : (index : ℕ) (answer : PlainMessage) → slice_get c.answers index ≡ Some (Some answer)
      → IsResponse answer.head × ReadsMessage t (4 * index) answer
  pub streams : HaveStreams c t

module _ {S : Type 0} where
  -- the end opened a stream for each request that has one, unless want of memory ended it
  abbrev pub HasOpened : PlainClient → Inner S → Type 0
  HasOpened c end = (end.error ≡ Some Memory) ⊎ (end.space.streams.bi.opened ≡ c.next)
