-- What the steps of a client do with its streams.
use Rattle.std.specs.Prelude.{◌≡◌, ◌⊎◌, ℕ, ◌*◌, Bool, true, false, not, List, [], ◌∷◌, ◌++◌, length, Option, Some, None, Result, Ok, Err, IfSome, slice_get, slice_set}
use Rattle.qh_base.specs.declared.memory.Memory.{Memory as OutOfMemory}
use Rattle.qh_core.specs.Inner.{is_open, with_streams}
use Rattle.qh_core.specs.declared.inner.Inner.{Inner}
use Rattle.qh_roles.specs.Client.{PlainClient, Asks, Asking, HasOpened, IsAskedIn}
use Rattle.qh_roles.specs.Going.{WentFrom}
use Rattle.qh_roles.specs.Streams.{Acted, AreOn, IsUntouched}
use Rattle.qh_roles.specs.declared.client.RequestStream.{RequestStream}
use Rattle.qh_roles.specs.declared.client.RequestState.{RequestState}
use Rattle.qh_roles.specs.declared.client.RequestState.TheVariants.{Sending, Receiving, Done}
use Rattle.qh_spec.specs.Lawful.{ReadsMessage}
use Rattle.qh_spec.specs.Lists.{In}
use Rattle.qh_spec.specs.Message.{PlainMessage, IsResponse}
use Rattle.qh_spec.specs.Transcript.{Act}
use Rattle.qh_streams.specs.Streams.{counts_of}

-- nothing more is done in this state
abbrev pub is_over : RequestState → Bool
is_over (Sending o) = false
is_over (Receiving i) = false
is_over Done = true

-- something is left to be done with the stream
abbrev pub is_left : RequestStream → Bool
is_left r = not (is_over r.state)

-- something is left to be done with each of the streams
abbrev pub AreLeft : List RequestStream → Type 0
AreLeft streams = (r : RequestStream) → In r streams → is_left r ≡ true

-- the answers with this one, where there is one
abbrev pub with_answer : List (Option PlainMessage) → (index : ℕ) → Option PlainMessage → List (Option PlainMessage)
with_answer answers index None = answers
with_answer answers index (Some answer) = slice_set answers index (Some answer)

-- each place that held an answer holds one
abbrev pub KeepsAnswers : (old new : List (Option PlainMessage)) → Type 0
KeepsAnswers old new = (index : ℕ) (a : PlainMessage) → slice_get old index ≡ Some (Some a) → (b : PlainMessage) × (slice_get new index ≡ Some (Some b))

-- the answers that are there
abbrev pub present : List (Option PlainMessage) → List PlainMessage
present [] = []
present (None ∷ answers) = present answers
present (Some answer ∷ answers) = answer ∷ present answers

-- nothing was written on the stream, or one of the requests is
abbrev pub AsksOn : List PlainMessage → List Act → (stream : ℕ) → Type 0
AsksOn requests t stream = IsUntouched t stream ⊎ Asks requests t stream

-- how far a request is once it was sent as far as it goes; after want of memory nothing is said
abbrev pub IsSent : List PlainMessage → (index : ℕ) → Result RequestState OutOfMemory → List Act → Type 0
IsSent requests index (Ok state) t = IsAskedIn requests t index state
IsSent requests index (Err e) t = Unit {0}

-- the same once its answer was read as far as it came, and what the answer is
abbrev pub IsAdvanced : List PlainMessage → (index : ℕ) → Result (RequestState × Option PlainMessage) OutOfMemory → List Act → Type 0
IsAdvanced requests index (Ok r) t = IsAskedIn requests t index r.0 × IfSome r.1 (λ m. IsResponse m.head × ReadsMessage t (4 * index) m)
IsAdvanced requests index (Err e) t = Unit {0}

module _ {S : Type 0} where
  -- no further stream in both directions can be opened: the connection isn't open, or the peer permits no more
  abbrev pub MayOpenNone : Inner S → Type 0
  MayOpenNone c = (is_open c.state ≡ false) ⊎ ((counts_of c.space.streams true).opened ≡ (counts_of c.space.streams true).max_opened)

  -- Behind this transcript calls were made on the stream of this index alone. What was asked on it is one of the requests still,
  -- an answer that was read of it is what was read, and this holds of all.
  pub record Advances (start : Inner S) (before : List Act) (Is : List Act → Type 0) (requests : List PlainMessage) (index : ℕ) (new : Inner S) (t : List Act) : Type 0 where
    pub acts : List Act
    pub on : AreOn (4 * index) acts
    pub follows : WentFrom start before new (t ++ acts)
    pub asks : AsksOn requests t (4 * index) → AsksOn requests (t ++ acts) (4 * index)
    pub answered : (m : PlainMessage) → ReadsMessage t (4 * index) m → ReadsMessage (t ++ acts) (4 * index) m
    pub is : Is (t ++ acts)

  -- Whatever was done before, the client goes on with its requests.
  pub record Goes (old : PlainClient) (old_end : Inner S) (new : PlainClient) (new_end : Inner S) : Type 0 where
    pub rest : new_end ≡ with_streams old_end new_end.space.streams
    pub requests : new.requests ≡ old.requests
    pub places : length new.answers ≡ length old.answers
    pub kept : KeepsAnswers old.answers new.answers
    pub opened : HasOpened old old_end → HasOpened new new_end
    pub asks : (start : Inner S) (before t : List Act) → WentFrom start before old_end t → HasOpened old old_end → Asking old t → Acted start before (Asking new) new_end t
