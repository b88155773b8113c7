-- What a service's record gains over an exchange (own).
use Rattle.std.specs.Prelude.{◌≡◌, ◌*◌, ℕ, List, ◌++◌, Some, slice_get, map}
use Rattle.qh_spec.specs.Lists.{In, Distinct}
use Rattle.qh_spec.specs.Message.{PlainMessage}
use Rattle.qh_spec.specs.Record.{PlainEntry}
use Rattle.qh_spec.specs.Same.{SameMessage}

-- the entry's request is one of the requests, and its stream is the client's two-way stream of that index (own)
pub record IsAsAsked (requests : List PlainMessage) (e : PlainEntry) : Type 0 where
  pub index : ℕ
  pub asked : PlainMessage
  pub asked_is : slice_get requests index ≡ Some asked
  pub stream_is : e.stream ≡ 4 * index
  pub same : SameMessage e.request asked

-- the streams of entries, in order (own)
abbrev pub streams_of : List PlainEntry → List ℕ
streams_of entries = map (λ (e : PlainEntry). e.stream) entries

-- `after` is `before` and new entries behind it: no stream twice, each as asked (own)
pub record Grew (before after : List PlainEntry) (requests : List PlainMessage) : Type 0 where
  pub fresh : List PlainEntry
  pub longer : after ≡ before ++ fresh
  pub once : Distinct (streams_of fresh)
  pub as_asked : (e : PlainEntry) → In e fresh → IsAsAsked requests e
