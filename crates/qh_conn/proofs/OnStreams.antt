-- A call on streams of an end that was greeted carries on how the connection stands to all that was done with it.
use Rattle.std.proofs.Common.{◌≡◌, ℕ, ◌<◌, Bool, true, false, List, [], ◌++◌, length, Option, Some, None, Result, Ok, Err, refl, sym, ap, ◌∙◌}
use Rattle.std.specs.Prelude.{IfOk, IfSome, is_some}
use Rattle.qh_base.specs.declared.memory.Memory.{Memory as OutOfMemory}
use Rattle.qh_base.specs.declared.stream_id.StreamId.{StreamId}
use Rattle.qh_buffers.specs.declared.assembler.Chunk.{Chunk}
use Rattle.qh_conn.proofs.CoreLog.{stream_log}
use Rattle.qh_conn.proofs.OutKeys.{shut_of}
use Rattle.qh_conn.proofs.OutWhole.{handshake_whole}
use Rattle.qh_conn.specs.Whole.{CarriesOn, IsWhole, Stands}
use Rattle.qh_conn.specs.declared.connection.Connection.{Connection}
use Rattle.qh_converse.proofs.MadeOpens.{locally_opens}
use Rattle.qh_converse.specs.Converses.{Converses}
use Rattle.qh_core.proofs.MadeTogether.{one_step, streams_local}
use Rattle.qh_core.specs.Follows.{Follows}
use Rattle.qh_core.specs.Inner.{is_open}
use Rattle.qh_core.specs.Made.{AcceptsTags, AreMadeLocally, IsMadeOnStreams, MakesTagsOf}
use Rattle.qh_core.specs.declared.fault.TakeFault.{TakeFault}
use Rattle.qh_core.specs.declared.inner.Inner.{Inner}
use Rattle.qh_handshake.specs.declared.handshake.Handshake.{Handshake}
use Rattle.qh_spec.proofs.PartLaws.{part_finished, part_read, part_written}
use Rattle.qh_spec.specs.Transcript.{Act, finished, read, written}

-- what `sends` says of calls that hand out no datagram
abbrev pub Called : Type 0 → Type 0
Called S = (accepts : AcceptsTags S) (sealed : MakesTagsOf S) (hello : List ℕ) (h : Handshake) (c new : Inner S) (k : Bool) (acts t : List Act) → AreMadeLocally c new acts → (h.peer ≡ None → acts ≡ [])
    → Converses accepts sealed hello h c k t → Converses accepts sealed hello h new k (t ++ acts)

pub some_or_none : {A : Type 0} (X : Type 0) (o : Option A) → is_some o ≡ true → o ≡ None → X
some_or_none X (Some a) some none = cc
some_or_none X None some none = cc

module _ {S : Type 0} where
  locally : (old new : Inner S) (acts : List Act) → IsMadeOnStreams old new acts → AreMadeLocally old new acts
  locally old new acts made = streams_local old new acts (one_step IsMadeOnStreams old new acts made)

  pub carried : Called S → (old : Connection S) (new : Inner S) (acts : List Act) → is_some old.handshake.peer ≡ true → IsMadeOnStreams old.core new acts
      → CarriesOn old (record old { core = new }) acts
  carried called old new acts greeted made accepts sealed hello t p =
      called accepts sealed hello old.handshake old.core new old.is_connected acts t (locally old.core new acts made) (some_or_none (acts ≡ []) old.handshake.peer greeted) p

  pub whole_after : (old : Connection S) (new : Inner S) (acts : List Act) → IsWhole old → IsMadeOnStreams old.core new acts → IsWhole (record old { core = new })
  whole_after old new acts w made =
      handshake_whole old old.handshake new w w.sound.handshake refl refl refl (λ none. none) made.1.same_end
      (shut_of (is_open old.core.state) (is_open new.state) (locally_opens old.core new acts (locally old.core new acts made))) (stream_log old.core new acts made.0)

  -- a stream that was opened is new in all that was done
  pub opened_new : (c : Connection S) (result : Result (Option StreamId) OutOfMemory)
      → IfOk result (λ o. IfSome o (λ id. (t : List Act) → Follows c.core t → (written t id.0 ≡ []) × (finished t id.0 ≡ false) × (read t id.0 ≡ [])))
      → IfOk result (λ o. IfSome o (λ id. (accepts : AcceptsTags S) (sealed : MakesTagsOf S) (hello : List ℕ) (t : List Act) → Stands accepts sealed hello c t → (written t id.0 ≡ []) × (finished t id.0 ≡ false) × (read t id.0 ≡ [])))
  opened_new c (Ok (Some id)) h = λ accepts sealed hello t p.
      let part = h p.part p.begun.behaves.follows in (
        sym (part_written p.part t p.is_part id.0) ∙ part.0,
        sym (part_finished p.part t p.is_part id.0) ∙ part.1,
        sym (part_read p.part t p.is_part id.0) ∙ part.2,
      )
  opened_new c (Ok None) h = tt
  opened_new c (Err e) h = tt

  -- what is read in order comes behind all that was read
  pub read_behind : (c : Connection S) (id : ℕ) (ordered : Bool) (result : Result (Option Chunk) TakeFault)
      → IfOk result (λ o. IfSome o (λ x. (t : List Act) → Follows c.core t → ordered ≡ true → 0 < length x.bytes → x.offset ≡ length (read t id)))
      → IfOk result (λ o. IfSome o (λ x. (accepts : AcceptsTags S) (sealed : MakesTagsOf S) (hello : List ℕ) (t : List Act) → Stands accepts sealed hello c t → ordered ≡ true → 0 < length x.bytes → x.offset ≡ length (read t id)))
  read_behind c id ordered (Ok (Some x)) h = λ accepts sealed hello t p in_order some.
      h p.part p.begun.behaves.follows in_order some ∙ ap (λ (z : List ℕ). length z) (part_read p.part t p.is_part id)
  read_behind c id ordered (Ok None) h = tt
  read_behind c id ordered (Err e) h = tt
