-- An open connection that opens a stream: nothing was done with that one yet.
use Rattle.std.proofs.Common.{◌≡◌, ◌<◌, true, false, [], Option, Some, None, Result, Ok, Err, IfOk, IfSome, OnErr, List, ap, sym, subst, refl}
use Rattle.std.proofs.lemmas.List.{append-nil}
use Rattle.qh_base.specs.declared.connection_error.ConnectionError.TheVariants.{Memory}
use Rattle.qh_base.specs.declared.memory.Memory.{Memory as OutOfMemory}
use Rattle.qh_base.specs.declared.stream_id.StreamId.{StreamId}
use Rattle.qh_core.specs.Follows.{Follows}
use Rattle.qh_core.specs.Inner.{IsConnection, is_open, with_streams}
use Rattle.qh_core.specs.declared.inner.Inner.{Inner}
use Rattle.qh_core.proofs.QuietCalls.{same_call}
use Rattle.qh_core.proofs.StreamsGo.{StreamsGo, connection, follows, stands_now}
use Rattle.qh_core.proofs.WriterCalls.{opened_go, is_new}
use Rattle.qh_spec.specs.StreamId.{stream_id}
use Rattle.qh_spec.specs.Transcript.{Act, joined, written, finished, read}
use Rattle.qh_spec.specs.declared.sides.Dir.{Dir}
use Rattle.qh_streams.specs.Streams.{PlainStreams, IsOpened, KeepsOut, counts_of, is_two_way}

-- what opening a stream tells
abbrev IsGiven : (old new : PlainStreams) → Dir → StreamId → Type 0
IsGiven old new dir id = (id.0 ≡ stream_id old.side dir (counts_of old (is_two_way dir)).opened)
    × ((counts_of old (is_two_way dir)).opened < (counts_of old (is_two_way dir)).max_opened) × IsOpened old new id.0

abbrev IsNotGiven : (old new : PlainStreams) → Dir → Type 0
IsNotGiven old new dir = ((counts_of old (is_two_way dir)).opened ≡ (counts_of old (is_two_way dir)).max_opened) × (new ≡ old)

pub open_go : (old new : PlainStreams) (dir : Dir) (r : Result (Option StreamId) OutOfMemory) → IfOk r (λ o. IfSome o (IsGiven old new dir)) → IfOk r (λ o. o ≡ None → IsNotGiven old new dir)
    → OnErr r (new ≡ old) → KeepsOut old new → StreamsGo old new []
open_go old new dir (Ok (Some id)) some none err keeps = opened_go old new dir id.0 some.0 some.1 some.2 keeps
open_go old new dir (Ok None) some none err keeps = (same_call old new (none refl).1 keeps).go
open_go old new dir (Err e) some none err keeps = (same_call old new err keeps).go

module _ {S : Type 0} where
  not_failed : (c : Inner S) → true ≡ is_open c.state → IsConnection c → c.error ≡ Some Memory → ⊥
  not_failed c open_now p failed = let none = p.not_lost (sym open_now) in absurd (cc)

  pub open_connection : (c : Inner S) (new : PlainStreams) → true ≡ is_open c.state → StreamsGo c.space.streams new [] → IsConnection c → IsConnection (with_streams c new)
  open_connection c new open_now go p = connection c new [] go (λ failed. absurd (not_failed c open_now p failed)) p

  pub open_follows : (c : Inner S) (new : PlainStreams) (t : List Act) → true ≡ is_open c.state → StreamsGo c.space.streams new [] → IsConnection c → Follows c t → Follows (with_streams c new) t
  open_follows c new t open_now go p f = subst (λ (t : List Act). Follows (with_streams c new) t) (append-nil t) (follows c new [] t go (λ failed. absurd (not_failed c open_now p failed)) f)

  pub open_unwritten : (c : Inner S) (new : PlainStreams) (dir : Dir) (r : Result (Option StreamId) OutOfMemory) → true ≡ is_open c.state → IfOk r (λ o. IfSome o (IsGiven c.space.streams new dir)) → IsConnection c
      → IfOk r (λ o. IfSome o (λ id. (t : List Act) → Follows c t → (written t id.0 ≡ []) × (finished t id.0 ≡ false) × (read t id.0 ≡ [])))
  open_unwritten c new dir (Ok (Some id)) open_now some p = λ t f.
      let s = (stands_now c t f (not_failed c open_now p)).stands in
      let unopened = is_new c.space.streams dir id.0 some.0 in
      let out = s.out.unopened id.0 unopened in
      (out.1, out.2, ap joined (s.into.unopened id.0 unopened).1)
  open_unwritten c new dir (Ok None) open_now some p = tt
  open_unwritten c new dir (Err e) open_now some p = tt
