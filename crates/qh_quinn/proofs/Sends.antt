-- Calls on sending halves, told or refused or made.
use Rattle.std.proofs.Common.{◌≡◌, ◌⊎◌, ℕ, ℤ, Bool, true, false, List, Option, Some, None, is_some, refl, sym, ap, ◌∙◌, inl, inr, subst}
use Rattle.futures.specs.declared.task.waker.Waker.{Waker}
use Rattle.qh_base.specs.declared.connection_error.ConnectionError.{ConnectionError}
use Rattle.qh_base.specs.declared.stream_id.StreamId.{StreamId}
use Rattle.qh_book.specs.Book.{Book}
use Rattle.qh_book.specs.Sending.{IsFinished}
use Rattle.qh_book.specs.Shown.{IsStreamStep, Note, ShowsStreams, handles_after, readers_after}
use Rattle.qh_book.specs.Step.{Allows}
use Rattle.qh_book.specs.declared.call.Call.{Call}
use Rattle.qh_book.specs.declared.call.Call.TheVariants as call
use Rattle.qh_book.specs.declared.reply.Reply.{Reply}
use Rattle.qh_book.specs.declared.reply.Reply.TheVariants as reply
use Rattle.qh_conn.specs.Whole.{IsWhole}
use Rattle.qh_conn.specs.declared.connection.Connection.{Connection}
use Rattle.qh_halves.specs.SendHalves.{send_at}
use Rattle.qh_quinn.proofs.Holding.{SameRecvs}
use Rattle.qh_quinn.proofs.Moving.{IsMoved, IsOnward, IsStepRest, answered, answered_same, none_at, sent}
use Rattle.qh_quinn.specs.Acting.{IsAnswered, lost_or_pending}
use Rattle.qh_quinn.specs.States.{IsState, ShowsWith}
use Rattle.qh_quinn.specs.declared.inner.StateInner.{StateInner}
use Rattle.qh_shown.specs.Connections.{ShowsLive, is_wanting}
use Rattle.qh_streams.specs.Streams.{PlainStreams}

pub rest_of : (b after : Book) (readers : ℕ → Bool) (handles : ℕ) → after ≡ record b { sends = after.sends; recvs = after.recvs; readers = readers; bi = after.bi; uni = after.uni; taken = after.taken; unconfirmed = after.unconfirmed; handles = handles }
    → IsStepRest b after
rest_of b after readers handles is =
    is
    ∙ ap (λ (r : ℕ → Bool). record b { sends = after.sends; recvs = after.recvs; readers = r; bi = after.bi; uni = after.uni; taken = after.taken; unconfirmed = after.unconfirmed; handles = handles }) (sym (ap (λ (x : Book). x.readers) is))
    ∙ ap (λ (n : ℕ). record b { sends = after.sends; recvs = after.recvs; readers = after.readers; bi = after.bi; uni = after.uni; taken = after.taken; unconfirmed = after.unconfirmed; handles = n }) (sym (ap (λ (x : Book). x.handles) is))

-- a step that leaves receiving halves, readers and handles as they are
pub record IsSendStep {T : Type 0} (b : Book) (c : Call) (r : Reply T) (new : PlainStreams) (notes : ℕ → Note) : Type 0 where
  pub step : IsStreamStep b c r new notes
  pub readers : readers_after c r b ≡ b.readers
  pub handles : handles_after c r b ≡ b.handles
  pub recvs : step.after.recvs ≡ b.recvs
  pub bi : step.after.bi ≡ b.bi
  pub uni : step.after.uni ≡ b.uni

module _ {T : Type 0} (b : Book) (id : StreamId) (new : PlainStreams) (notes : ℕ → Note) where
  pub written : (payload : List ℕ) (n : ℕ) → IsStreamStep {T = T} b (call.Write id payload) (reply.Count n) new notes → IsSendStep {T = T} b (call.Write id payload) (reply.Count n) new notes
  written payload n step =
      let is = step.allows.6 in
      record { step = step; readers = refl; handles = refl; recvs = ap (λ (x : Book). x.recvs) is; bi = ap (λ (x : Book). x.bi) is; uni = ap (λ (x : Book). x.uni) is }

  pub finished : IsStreamStep {T = T} b (call.Finish id) reply.Done new notes → IsSendStep {T = T} b (call.Finish id) reply.Done new notes
  finished step = at step.allows.2
    where
      at : IsFinished b id.0 step.allows.0 step.after → IsSendStep {T = T} b (call.Finish id) reply.Done new notes
      at (inl s) = record { step = step; readers = refl; handles = refl; recvs = ap (λ (x : Book). x.recvs) s.1; bi = ap (λ (x : Book). x.bi) s.1; uni = ap (λ (x : Book). x.uni) s.1 }
      at (inr s) = record { step = step; readers = refl; handles = refl; recvs = ap (λ (x : Book). x.recvs) s.2; bi = ap (λ (x : Book). x.bi) s.2; uni = ap (λ (x : Book). x.uni) s.2 }

  pub was_reset : (code : ℕ) → IsStreamStep {T = T} b (call.Reset id code) reply.Done new notes → IsSendStep {T = T} b (call.Reset id code) reply.Done new notes
  was_reset code step =
      let is = step.allows.3 in
      record { step = step; readers = refl; handles = refl; recvs = ap (λ (x : Book). x.recvs) is; bi = ap (λ (x : Book). x.bi) is; uni = ap (λ (x : Book). x.uni) is }

  pub was_set : (priority : ℤ) → IsStreamStep {T = T} b (call.SetPriority id priority) reply.Done new notes → IsSendStep {T = T} b (call.SetPriority id priority) reply.Done new notes
  was_set priority step =
      let is = step.allows.2 in
      record { step = step; readers = refl; handles = refl; recvs = ap (λ (x : Book). x.recvs) is; bi = ap (λ (x : Book). x.bi) is; uni = ap (λ (x : Book). x.uni) is }

module _ {S : Type 0} where
  -- a connection that wasn't greeted has no half
  pub send_gone : (c : Connection S) (notes : ℕ → Note) (b : Book) (k : ℕ) → ShowsLive c notes b → (is_some c.handshake.peer ≡ false) ⊎ (send_at c.core.space.streams.send k ≡ None) → send_at c.core.space.streams.send k ≡ None
  send_gone c notes b k live (inl none) = (live.ungreeted (none_at c.handshake.peer none)).streams.sends k
  send_gone c notes b k live (inr none) = none

  -- the state stays as it is
  pub told : {T : Type 0} (c : Call) (r : Reply T) (s : StateInner S) → IsState s → ((notes : ℕ → Note) (b : Book) → ShowsWith notes s b → Allows b c r b) → IsAnswered c r s s
  told c r s state allows = answered_same c r s state (λ b shown. record { after = b; allows = allows shown.notes b shown.shows; shows = shown })

  -- it does so, and the kept error is told; if there is none the call waits
  pub lost_or_waits : {T : Type 0} (c : Call) (r : Reply T) (s : StateInner S) → IsState s → r ≡ lost_or_pending s.error
      → ((notes : ℕ → Note) (b : Book) (e : ConnectionError) → ShowsWith notes s b → s.error ≡ Some e → b.error ≡ Some e → Allows {T = T} b c (reply.ConnectionLost e) b)
      → ((notes : ℕ → Note) (b : Book) → ShowsWith notes s b → s.error ≡ None → b.error ≡ None → Allows {T = T} b c reply.Pending b) → IsAnswered c r s s
  lost_or_waits {T} c r s state is lost waits = subst (λ (x : Reply T). IsAnswered c x s s) (sym is) (at s.error refl)
    where
      at : (error : Option ConnectionError) → s.error ≡ error → IsAnswered {T = T} c (lost_or_pending error) s s
      at (Some e) has = told c (reply.ConnectionLost e) s state (λ notes b shown. lost notes b e shown has (shown.error ∙ has))
      at None has = told c reply.Pending s state (λ notes b shown. waits notes b shown has (shown.error ∙ has))

  -- a step of the streams is made
  pub sends : {T : Type 0} (c : Call) (r : Reply T) (old new : StateInner S) → IsState old → is_wanting old.connection ≡ false → is_some old.connection.handshake.peer ≡ true → IsMoved old new → new.readers ≡ old.readers → new.handles ≡ old.handles
      → IsWhole new.connection → ((notes : ℕ → Note) (b : Book) → ShowsWith notes old b → ShowsStreams old.connection.core.space.streams notes b → IsSendStep {T = T} b c r new.connection.core.space.streams notes) → IsAnswered c r old new
  sends c r old new state calm greeted is readers handles whole each =
      answered c r old new state is whole
      (λ b shown.
      let made = each shown.notes b shown.shows (shown.shows.connection.live calm).streams in
      let step = made.step in
      let rest = rest_of b step.after (readers_after c r b) (handles_after c r b) step.rest in
      let same : SameRecvs b step.after = record { side = ap (λ (x : Book). x.side) step.rest; recvs = made.recvs; readers = ap (λ (x : Book). x.readers) step.rest ∙ made.readers; bi = made.bi; uni = made.uni } in
      record {
        after = step.after;
        allows = step.allows;
        shows = record {
          notes = shown.notes;
          shows = sent shown.notes old new b step.after is readers handles shown.shows calm greeted step.shows rest same (ap (λ (x : Book). x.handles) step.rest ∙ made.handles);
        };
      })

  -- so it is where the connection and the driver's waker alone changed
  pub sends_at : {T : Type 0} (c : Call) (r : Reply T) (old new : StateInner S) (to : Connection S) (driver : Option Waker) → IsState old → is_wanting old.connection ≡ false → is_some old.connection.handshake.peer ≡ true → new ≡ record old { connection = to; driver = driver }
      → IsOnward old.connection to → IsWhole to → ((notes : ℕ → Note) (b : Book) → ShowsWith notes old b → ShowsStreams old.connection.core.space.streams notes b → IsSendStep {T = T} b c r to.core.space.streams notes) → IsAnswered c r old new
  sends_at c r old new to driver state calm greeted is on whole each =
      subst (λ (s : StateInner S). IsAnswered c r old s) (sym is)
      (sends c r old (record old { connection = to; driver = driver }) state calm greeted (ap (λ (x : Connection S). record old { connection = x; driver = driver }) on) refl refl whole each)

  -- the book stays as it is, and the connection shows it still
  pub told_at : {T : Type 0} (c : Call) (r : Reply T) (old new : StateInner S) (to : Connection S) → IsState old → is_wanting old.connection ≡ false → is_some old.connection.handshake.peer ≡ true → new ≡ record old { connection = to } → IsOnward old.connection to → IsWhole to
      → ((notes : ℕ → Note) (b : Book) → ShowsWith notes old b → ShowsStreams old.connection.core.space.streams notes b → Allows {T = T} b c r b × ShowsStreams to.core.space.streams notes b) → IsAnswered c r old new
  told_at c r old new to state calm greeted is on whole each =
      subst (λ (s : StateInner S). IsAnswered c r old s) (sym is)
      (answered c r old (record old { connection = to }) state (ap (λ (x : Connection S). record old { connection = x }) on) whole
      (λ b shown.
      let made = each shown.notes b shown.shows (shown.shows.connection.live calm).streams in
      record {
        after = b;
        allows = made.0;
        shows = record {
          notes = shown.notes;
          shows = sent shown.notes old (record old { connection = to }) b b (ap (λ (x : Connection S). record old { connection = x }) on) refl refl shown.shows calm greeted made.1 refl (record { side = refl; recvs = refl; readers = refl; bi = refl; uni = refl }) refl;
        };
      }))
