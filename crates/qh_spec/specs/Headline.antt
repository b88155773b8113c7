-- What an exchange promises (own).
use Rattle.std.specs.Prelude.{◌≡◌, ℕ, ◌*◌, List, length, slice_get, Some}
use Rattle.qh_spec.specs.declared.sides.Side.TheVariants.{Client, Server}
use Rattle.qh_spec.specs.declared.link.Event.{Event}
use Rattle.qh_spec.specs.Growth.{Grew}
use Rattle.qh_spec.specs.Link.{given_to}
use Rattle.qh_spec.specs.Lists.{In}
use Rattle.qh_spec.specs.Message.{PlainMessage}
use Rattle.qh_spec.specs.Record.{PlainEntry}
use Rattle.qh_spec.specs.Same.{SameMessage}
use Rattle.qh_spec.specs.Whole.{IsWhole}

-- no request was served twice or altered, and each that was served was whole in the datagrams that the server was given
pub record ServedOnce (id_length : ℕ) (events : List Event) (requests : List PlainMessage) (before after : List PlainEntry) : Type 0 where
  pub grew : Grew before after requests
  pub whole : (e : PlainEntry) → In e grew.fresh → IsWhole id_length (given_to Server events) Client e.stream e.request

-- the answer is the response that was recorded on the stream of this index, and was whole in the datagrams that the client was given
pub record IsRecordedAnswer (id_length : ℕ) (events : List Event) (fresh : List PlainEntry) (index : ℕ) (answer : PlainMessage) : Type 0 where
  pub entry : PlainEntry
  pub among : In entry fresh
  pub stream_is : entry.stream ≡ 4 * index
  pub same : SameMessage answer entry.response
  pub whole : IsWhole id_length (given_to Client events) Server (4 * index) answer

-- each request was served exactly once, as asked, and its answer is the one recorded
pub record AnsweredOnce (id_length : ℕ) (events : List Event) (requests : List PlainMessage) (before after : List PlainEntry) (answers : List PlainMessage) : Type 0 where
  pub served : ServedOnce id_length events requests before after
  pub count : length answers ≡ length requests
  pub each : (index : ℕ) (answer : PlainMessage) → slice_get answers index ≡ Some answer → IsRecordedAnswer id_length events served.grew.fresh index answer
