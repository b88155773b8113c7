-- Streams that the state opens and accepts.
use Rattle.std.proofs.Common.{◌≡◌, ◌⊎◌, ℕ, ◌+◌, ◌==◌, Bool, true, false, Option, Some, None, is_some, if◌then◌else◌, refl, sym, ap, ◌∙◌, inl, inr, subst}
use Rattle.qh_base.specs.declared.memory.Memory.{Memory}
use Rattle.std.proofs.lemmas.Bool.{false≢true}
use Rattle.std.specs.Prelude.{IsErr, Result, Ok, Err}
use Rattle.qh_base.specs.declared.connection_error.ConnectionError.{ConnectionError}
use Rattle.qh_base.specs.declared.stream_id.StreamId.{StreamId}
use Rattle.qh_book.specs.Book.{Book, tally}
use Rattle.qh_book.specs.Opening.{handles_of, held_by_opener}
use Rattle.qh_book.specs.Pages.{Tally, no_streams}
use Rattle.qh_book.specs.Shown.{IsStreamStep, Note, ShowsStreams, handles_after, readers_after, tally_of}
use Rattle.qh_book.specs.Step.{Allows}
use Rattle.qh_book.specs.declared.call.Call.{Call}
use Rattle.qh_book.specs.declared.call.Call.TheVariants as call
use Rattle.qh_book.specs.declared.reply.Reply.{Reply}
use Rattle.qh_book.specs.declared.reply.Reply.TheVariants as reply
use Rattle.qh_conn.specs.Whole.{IsWhole}
use Rattle.qh_conn.specs.declared.connection.Connection.{Connection}
use Rattle.qh_quinn.proofs.Holding.{no_reader_by}
use Rattle.qh_quinn.proofs.Moving.{IsMoved, answered, none_at, stays, stepped}
use Rattle.qh_quinn.proofs.Opens.{next_id, next_no_page, next_unaccepted, no_page_unheld, readers_accepted, readers_opened, untouched_accepted, untouched_opened}
use Rattle.qh_quinn.proofs.Sends.{rest_of}
use Rattle.qh_quinn.specs.Acting.{Answers, IsAnswered, Stays, lost_or_pending}
use Rattle.qh_quinn.specs.Readers.{HoldsReader, new_reader, reader_in}
use Rattle.qh_quinn.specs.States.{AreUntouched, IsState, ShowsWith}
use Rattle.qh_quinn.specs.declared.inner.StateInner.{StateInner}
use Rattle.qh_shown.specs.Connections.{ShowsLive, is_wanting}
use Rattle.qh_spec.specs.StreamId.{stream_id}
use Rattle.qh_spec.specs.declared.sides.Dir.{Dir}
use Rattle.qh_spec.specs.declared.sides.Dir.TheVariants.{Bi, Uni}
use Rattle.qh_streams.specs.Streams.{PlainStreams, counts_of, is_two_way}

tally_is : (s : PlainStreams) (notes : ℕ → Note) (b : Book) (dir : Dir) → ShowsStreams s notes b → tally b dir ≡ tally_of (counts_of s (is_two_way dir))
tally_is s notes b Bi shown = shown.bi
tally_is s notes b Uni shown = shown.uni

module _ {S : Type 0} where
  -- room was made for readers, and no more
  pub same_shows : (old new : StateInner S) → new ≡ record old { readers = new.readers } → ((k : ℕ) → reader_in new.readers k ≡ reader_in old.readers k) → (notes : ℕ → Note) (b : Book) → ShowsWith notes old b → ShowsWith notes new b
  same_shows old new is items notes b shown =
      subst (λ (s : StateInner S). ShowsWith notes s b) (sym is)
      (record {
        connection = shown.connection;
        readers = λ k. rw (items k) (shown.readers k);
        untouched = shown.untouched;
        stable_id = shown.stable_id;
        error = shown.error;
        handles = shown.handles;
        interests = shown.interests;
      })

  as_moved : (old new : StateInner S) → new ≡ record old { readers = new.readers } → IsMoved old new
  as_moved old new e = rw e refl

  same_whole : (old new : StateInner S) → IsState old → new ≡ record old { readers = new.readers } → IsWhole new.connection
  same_whole old new state e = subst (λ (s : StateInner S). IsWhole s.connection) (sym e) state.whole

  pub stays_roomy : (old new : StateInner S) → IsState old → new ≡ record old { readers = new.readers } → ((k : ℕ) → reader_in new.readers k ≡ reader_in old.readers k) → Stays old new
  stays_roomy old new state is items = stays old new state (as_moved old new is) (same_whole old new state is) (λ b shown. record { notes = shown.notes; shows = same_shows old new is items shown.notes b shown.shows })

  -- for want of memory no call was made
  pub stays_err : {T : Type 0} (c : Call) (result : Result (Reply T) Memory) (old new : StateInner S) → IsErr result → Stays old new → Answers {T = T} c result old new
  stays_err c (Ok r) old new is h = absurd (false≢true is)
  stays_err c (Err e) old new is h = h

  pub told_roomy : {T : Type 0} (c : Call) (r : Reply T) (old new : StateInner S) → IsState old → new ≡ record old { readers = new.readers } → ((k : ℕ) → reader_in new.readers k ≡ reader_in old.readers k) → ((notes : ℕ → Note) (b : Book) → ShowsWith notes old b → Allows b c r b) → IsAnswered c r old new
  told_roomy c r old new state is items allows =
      answered c r old new state (as_moved old new is) (same_whole old new state is)
      (λ b shown. record { after = b; allows = allows shown.notes b shown.shows; shows = record { notes = shown.notes; shows = same_shows old new is items shown.notes b shown.shows } })

  pub lost_or_waits_roomy : {T : Type 0} (c : Call) (r : Reply T) (old new : StateInner S) → IsState old → new ≡ record old { readers = new.readers } → ((k : ℕ) → reader_in new.readers k ≡ reader_in old.readers k) → r ≡ lost_or_pending old.error
      → ((notes : ℕ → Note) (b : Book) (e : ConnectionError) → ShowsWith notes old b → b.error ≡ Some e → Allows {T = T} b c (reply.ConnectionLost e) b)
      → ((notes : ℕ → Note) (b : Book) → ShowsWith notes old b → old.error ≡ None → b.error ≡ None → Allows {T = T} b c reply.Pending b) → IsAnswered c r old new
  lost_or_waits_roomy {T} c r old new state is items reply_is lost waits = subst (λ (x : Reply T). IsAnswered c x old new) (sym reply_is) (at old.error refl)
    where
      at : (error : Option ConnectionError) → old.error ≡ error → IsAnswered {T = T} c (lost_or_pending error) old new
      at (Some e) has = told_roomy c (reply.ConnectionLost e) old new state is items (λ notes b shown. lost notes b e shown (shown.error ∙ has))
      at None has = told_roomy c reply.Pending old new state is items (λ notes b shown. waits notes b shown has (shown.error ∙ has))

  -- ---- a stream is opened

  pub opened_unheld : (s : StateInner S) (dir : Dir) (id : ℕ) (notes : ℕ → Note) (b : Book) → ShowsWith notes s b → is_wanting s.connection ≡ false → id ≡ stream_id b.side dir (tally b dir).opened → reader_in s.readers id ≡ None
  opened_unheld s dir id notes b shown calm is =
      (no_page_unheld (is_wanting s.connection) (reader_in s.readers id) (b.readers id) (notes id) (b.recvs id) (next_no_page s.connection.core.space.streams notes b dir id (shown.connection.live calm).streams is) (shown.readers id)).0

  pub opens : {T : Type 0} (old new : StateInner S) (dir : Dir) (id : StreamId) → IsState old → is_wanting old.connection ≡ false → is_some old.connection.handshake.peer ≡ true → IsMoved old new → IsWhole new.connection → new.handles ≡ old.handles + handles_of dir
      → ((k : ℕ) → reader_in new.readers k ≡ (if held_by_opener dir id.0 (λ j. false) k then Some new_reader else reader_in old.readers k))
      → ((notes : ℕ → Note) (b : Book) → ShowsWith notes old b → ShowsStreams old.connection.core.space.streams notes b → IsStreamStep {T = T} b (call.Open dir) (reply.Opened id) new.connection.core.space.streams notes) → IsAnswered {T = T} (call.Open dir) (reply.Opened id) old new
  opens {T} old new dir id state calm greeted is whole handles put each =
      answered (call.Open dir) (reply.Opened id) old new state is whole
      (λ b shown.
      let notes = shown.notes in
      let streams = (shown.shows.connection.live calm).streams in
      let step = each notes b shown.shows streams in
      let rest = rest_of b step.after (readers_after {T = T} (call.Open dir) (reply.Opened id) b) (handles_after {T = T} (call.Open dir) (reply.Opened id) b) step.rest in
      record {
        after = step.after;
        allows = step.allows;
        shows = record {
          notes = notes;
          shows = stepped notes notes old new b step.after is shown.shows calm greeted step.shows rest
              (λ k. subst (λ (x : Book). HoldsReader false (reader_in new.readers k) (x.readers k) (notes k) (x.recvs k)) (sym step.allows.3)
              (readers_opened old.connection.core.space.streams notes b dir id.0 old.readers new.readers streams step.allows.2 put
              (λ j. subst (λ (w : Bool). HoldsReader w (reader_in old.readers j) (b.readers j) (notes j) (b.recvs j)) calm (shown.shows.readers j)) k))
              (subst (λ (x : Book). AreUntouched x) (sym step.allows.3) (untouched_opened b dir id.0 step.allows.2 shown.shows.untouched))
              (ap (λ (x : Book). x.handles) step.rest ∙ ap (λ (n : ℕ). n + handles_of dir) shown.shows.handles ∙ sym handles);
        };
      })

  -- ---- a stream is accepted

  pub accepted_unheld : (s : StateInner S) (dir : Dir) (id : ℕ) (notes : ℕ → Note) (b : Book) → ShowsWith notes s b → id ≡ next_id b dir → reader_in s.readers id ≡ None
  accepted_unheld s dir id notes b shown is =
      no_reader_by (is_wanting s.connection) (reader_in s.readers id) (b.readers id) (notes id) (b.recvs id) (ap b.readers is ∙ shown.untouched.unheld _ (next_unaccepted b dir)) (shown.readers id)

  pub accepts : {T : Type 0} (old new : StateInner S) (dir : Dir) (id : StreamId) → IsState old → is_wanting old.connection ≡ false → is_some old.connection.handshake.peer ≡ true → IsMoved old new → IsWhole new.connection → new.handles ≡ old.handles + handles_of dir
      → ((k : ℕ) → reader_in new.readers k ≡ (if k == id.0 then Some new_reader else reader_in old.readers k))
      → ((notes : ℕ → Note) (b : Book) → ShowsWith notes old b → ShowsStreams old.connection.core.space.streams notes b → IsStreamStep {T = T} b (call.Accept dir) (reply.Opened id) new.connection.core.space.streams notes) → IsAnswered {T = T} (call.Accept dir) (reply.Opened id) old new
  accepts {T} old new dir id state calm greeted is whole handles put each =
      answered (call.Accept dir) (reply.Opened id) old new state is whole
      (λ b shown.
      let notes = shown.notes in
      let streams = (shown.shows.connection.live calm).streams in
      let step = each notes b shown.shows streams in
      let rest = rest_of b step.after (readers_after {T = T} (call.Accept dir) (reply.Opened id) b) (handles_after {T = T} (call.Accept dir) (reply.Opened id) b) step.rest in
      record {
        after = step.after;
        allows = step.allows;
        shows = record {
          notes = notes;
          shows = stepped notes notes old new b step.after is shown.shows calm greeted step.shows rest
              (λ k. subst (λ (x : Book). HoldsReader false (reader_in new.readers k) (x.readers k) (notes k) (x.recvs k)) (sym step.allows.2)
              (readers_accepted old.connection.core.space.streams notes b dir id.0 old.readers new.readers streams shown.shows.untouched step.allows.1 step.allows.0 put
              (λ j. subst (λ (w : Bool). HoldsReader w (reader_in old.readers j) (b.readers j) (notes j) (b.recvs j)) calm (shown.shows.readers j)) k))
              (subst (λ (x : Book). AreUntouched x) (sym step.allows.2) (untouched_accepted b dir shown.shows.untouched))
              (ap (λ (x : Book). x.handles) step.rest ∙ ap (λ (n : ℕ). n + handles_of dir) shown.shows.handles ∙ sym handles);
        };
      })

  -- ---- none is there

  nothing_opened : (c : Connection S) (notes : ℕ → Note) (b : Book) (dir : Dir) → ShowsLive c notes b → c.handshake.peer ≡ None → tally b dir ≡ no_streams
  nothing_opened c notes b Bi live none = live.streams.bi ∙ sym (live.ungreeted none).streams.bi
  nothing_opened c notes b Uni live none = live.streams.uni ∙ sym (live.ungreeted none).streams.uni

  counts_none : (c : Connection S) (notes : ℕ → Note) (b : Book) (dir : Dir) → ShowsLive c notes b → c.handshake.peer ≡ None → no_streams ≡ tally_of (counts_of c.core.space.streams (is_two_way dir))
  counts_none c notes b dir live none = sym (nothing_opened c notes b dir live none) ∙ tally_is c.core.space.streams notes b dir live.streams

  pub none_to_open : (c : Connection S) (notes : ℕ → Note) (b : Book) (dir : Dir) (opened : Bool) → ShowsLive c notes b → opened ≡ true
      → (is_some c.handshake.peer ≡ false) ⊎ ((opened ≡ false) ⊎ ((counts_of c.core.space.streams (is_two_way dir)).opened ≡ (counts_of c.core.space.streams (is_two_way dir)).max_opened))
      → (counts_of c.core.space.streams (is_two_way dir)).opened ≡ (counts_of c.core.space.streams (is_two_way dir)).max_opened
  none_to_open c notes b dir opened live up (inl none) =
      let e = counts_none c notes b dir live (none_at c.handshake.peer none) in
      sym (ap (λ (t : Tally). t.opened) e) ∙ ap (λ (t : Tally). t.permitted) e
  none_to_open c notes b dir opened live up (inr (inl shut)) = let z : true ≡ false = sym up ∙ shut in cc
  none_to_open c notes b dir opened live up (inr (inr is)) = is

  pub none_to_accept : (c : Connection S) (notes : ℕ → Note) (b : Book) (dir : Dir) → ShowsLive c notes b
      → (is_some c.handshake.peer ≡ false) ⊎ ((counts_of c.core.space.streams (is_two_way dir)).accepted ≡ (counts_of c.core.space.streams (is_two_way dir)).arrived)
      → (counts_of c.core.space.streams (is_two_way dir)).accepted ≡ (counts_of c.core.space.streams (is_two_way dir)).arrived
  none_to_accept c notes b dir live (inl none) =
      let e = counts_none c notes b dir live (none_at c.handshake.peer none) in
      sym (ap (λ (t : Tally). t.accepted) e) ∙ ap (λ (t : Tally). t.arrived) e
  none_to_accept c notes b dir live (inr is) = is
