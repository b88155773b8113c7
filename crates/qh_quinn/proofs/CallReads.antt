-- What calls on receiving halves do to the connection.
use Rattle.std.proofs.Common.{◌≡◌, ℕ, Bool, true, false, List, [], ◌∷◌, ◌++◌, Option, Some, None, if◌then◌else◌, refl, sym, ap, ◌∙◌, subst, inr, append-nil, append_assoc}
use Rattle.std.proofs.lemmas.Option.{same_Some}
use Rattle.qh_base.specs.declared.connection_error.ConnectionError.{ConnectionError}
use Rattle.qh_base.specs.declared.stream_id.StreamId.{StreamId}
use Rattle.qh_book.specs.Book.{Book}
use Rattle.qh_book.specs.Pages.{RecvPage, is_open, open_recv}
use Rattle.qh_book.specs.declared.call.Call.{Call}
use Rattle.qh_book.specs.declared.call.Call.TheVariants as call
use Rattle.qh_book.specs.declared.reply.Reply.{Reply}
use Rattle.qh_book.specs.declared.reply.Reply.TheVariants as reply
use Rattle.qh_conn.specs.Whole.{CarriesOn, Stands}
use Rattle.qh_conn.specs.declared.connection.Connection.{Connection}
use Rattle.qh_core.specs.Inner.{with_streams}
use Rattle.qh_half.specs.Recv.{PlainRecv, reset_code}
use Rattle.qh_halves.specs.RecvHalves.{recv_at}
use Rattle.qh_quinn.proofs.CallParts.{undone}
use Rattle.qh_quinn.proofs.Recvs.{holder, open_page, read_at}
use Rattle.qh_quinn.specs.Acting.{lost_or_pending}
use Rattle.qh_quinn.specs.Calls.{IsCallOf, IsCalled, IsSending, call_acts, end_acts}
use Rattle.qh_quinn.specs.Readers.{PlainReaders, reader_in}
use Rattle.qh_quinn.specs.States.{Shows}
use Rattle.qh_quinn.specs.Streaming.{IsOnStreams, ReadsOne, TakesResetOf}
use Rattle.qh_quinn.specs.declared.inner.StateInner.{StateInner}
use Rattle.qh_quinn.specs.declared.readers.Reader.{Reader}
use Rattle.qh_shown.specs.Connections.{is_wanting}
use Rattle.qh_spec.specs.Transcript.{Act, ReadEnd}
use Rattle.qh_streams.specs.Streams.{PlainStreams}

pub shut_page : (o : Option RecvPage) (p : RecvPage) → o ≡ Some p → is_open p.state ≡ false → open_recv o ≡ None
shut_page o p is shut = rw is (rw shut refl)

module _ {S : Type 0} where
  -- ---- a connection carries on

  pub carries_same : (old new : Connection S) → new ≡ old → CarriesOn old new []
  carries_same old new same accepts sealed hello t s =
      subst (λ (z : List Act). Stands accepts sealed hello new z) (sym (append-nil t)) (subst (λ (c : Connection S). Stands accepts sealed hello c t) (sym same) s)

  pub carries_as : (old new : Connection S) (xs ys : List Act) → ys ≡ xs → CarriesOn old new xs → CarriesOn old new ys
  carries_as old new xs ys is h = subst (λ (z : List Act). CarriesOn old new z) (sym is) h

  pub carries_both : (old mid new : Connection S) (xs ys : List Act) → CarriesOn old mid xs → CarriesOn mid new ys → CarriesOn old new (xs ++ ys)
  carries_both old mid new xs ys h k accepts sealed hello t s =
      subst (λ (z : List Act). Stands accepts sealed hello new z) (append_assoc t xs ys) (k accepts sealed hello (t ++ xs) (h accepts sealed hello t s))

  -- beside it what is kept of halves changed alone
  pub connection_kept : (old new : StateInner S) (to : Connection S) (readers : PlainReaders) → new ≡ record old { connection = to; readers = readers } → new.connection ≡ to
  connection_kept old new to readers is = ap (λ (s : StateInner S). s.connection) is

  -- ---- the whole of a call on a stream

  -- its streams changed, and the driver was woken
  pub called_woken : {T : Type 0} (c : Call) (r : Reply T) (old new : StateInner S) (to : Connection S) (readers : PlainReaders) (acts : List Act) → IsCalled c r old (record old { connection = to; readers = readers; driver = None })
      → new ≡ record old { connection = to; readers = readers; driver = None } → CarriesOn old.connection to acts → ((b : Book) → Shows old b → call_acts b c r ≡ acts) → IsCallOf c r old new
  called_woken c r old new to readers acts called is carries told =
      let there : new.connection ≡ to = ap (λ (s : StateInner S). s.connection) is in
      record {
        carries = λ b shown. subst (λ (k : Connection S). CarriesOn old.connection k (call_acts b c r)) (sym there) (carries_as old.connection to acts (call_acts b c r) (told b shown) carries);
        called = subst (λ (s : StateInner S). IsCalled c r old s) (sym is) called;
        wakes = λ sends. inr (ap (λ (s : StateInner S). s.driver) is);
      }

  -- its streams changed, and there is nothing to send
  called_quiet : {T : Type 0} (c : Call) (r : Reply T) (old new : StateInner S) (to : Connection S) → IsCalled c r old new → (IsSending c r → ⊥) → new.connection ≡ to → CarriesOn old.connection to []
      → ((b : Book) → call_acts b c r ≡ []) → IsCallOf c r old new
  called_quiet c r old new to called quiet is carries none = record {
    carries = λ b shown. subst (λ (k : Connection S). CarriesOn old.connection k (call_acts b c r)) (sym is) (carries_as old.connection to [] (call_acts b c r) (none b) carries);
    called = called;
    wakes = λ sends. absurd (quiet sends);
  }

  -- a call is lost, or waits
  pub read_quiet : {T : Type 0} (id : StreamId) (max_length : ℕ) (is_ordered : Bool) (r : Reply T) (old new : StateInner S) (to : Connection S) (error : Option ConnectionError) → r ≡ lost_or_pending error → new.connection ≡ to → CarriesOn old.connection to []
      → ((e : Option ConnectionError) → ReadsOne id.0 max_length is_ordered (lost_or_pending {T = T} e) old new) → IsCallOf (call.Read id max_length is_ordered) r old new
  read_quiet {T} id max_length is_ordered r old new to error reply_is is carries called = subst (λ (x : Reply T). IsCallOf (call.Read id max_length is_ordered) x old new) (sym reply_is) (at error)
    where
      at : (e : Option ConnectionError) → IsCallOf {T = T} (call.Read id max_length is_ordered) (lost_or_pending e) old new
      at None = called_quiet {T = T} (call.Read id max_length is_ordered) reply.Pending old new to (called None) (λ h. h) is carries (λ b. refl)
      at (Some e) = called_quiet {T = T} (call.Read id max_length is_ordered) (reply.ConnectionLost e) old new to (called (Some e)) (λ h. h) is carries (λ b. refl)

  pub reset_quiet : {T : Type 0} (id : StreamId) (r : Reply T) (old new : StateInner S) (to : Connection S) (error : Option ConnectionError) → r ≡ lost_or_pending error → new.connection ≡ to → CarriesOn old.connection to []
      → ((e : Option ConnectionError) → TakesResetOf id.0 (lost_or_pending {T = T} e) old new) → IsCallOf (call.ReceivedReset id) r old new
  reset_quiet {T} id r old new to error reply_is is carries called = subst (λ (x : Reply T). IsCallOf (call.ReceivedReset id) x old new) (sym reply_is) (at error)
    where
      at : (e : Option ConnectionError) → IsCallOf {T = T} (call.ReceivedReset id) (lost_or_pending e) old new
      at None = called_quiet {T = T} (call.ReceivedReset id) reply.Pending old new to (called None) (λ h. h) is carries (λ b. refl)
      at (Some e) = called_quiet {T = T} (call.ReceivedReset id) (reply.ConnectionLost e) old new to (called (Some e)) (λ h. h) is carries (λ b. refl)

  -- streams that are the same leave the connection so
  pub same_by_streams : (old new : Connection S) → IsOnStreams old new → new.core.space.streams ≡ old.core.space.streams → new ≡ old
  same_by_streams old new on same = on ∙ ap (λ (s : PlainStreams). record old { core = with_streams old.core s }) same

  -- a read of no bytes gives none, and one that is refused or finds the end of a half that isn't read any more does nothing
  pub read_none : {T : Type 0} (id : StreamId) (max_length : ℕ) (is_ordered : Bool) (r other : Reply T) (none : Bool) (old new : StateInner S) → r ≡ (if none then reply.Bytes 0 [] else other) → new.connection ≡ old.connection
      → ((b : Book) → Shows old b → call_acts {T = T} b (call.Read id max_length is_ordered) other ≡ []) → ReadsOne id.0 max_length is_ordered r old new → IsCallOf (call.Read id max_length is_ordered) r old new
  read_none {T} id max_length is_ordered r other none old new is same nothing called =
      undone (call.Read id max_length is_ordered) r old new same (λ b shown. ap (λ (x : Reply T). call_acts b (call.Read id max_length is_ordered) x) is ∙ at none b shown) called
    where
      at : (x : Bool) (b : Book) → Shows old b → call_acts {T = T} b (call.Read id max_length is_ordered) (if x then reply.Bytes 0 [] else other) ≡ []
      at true b shown = refl
      at false b shown = nothing b shown

-- ---- the page of a half

module _ {S : Type 0} (s : StateInner S) (id : ℕ) (reader : Reader) (there : reader_in s.readers id ≡ Some reader) where
  -- of one that is read
  pub held_page : reader.is_open ≡ true → (b : Book) → Shows s b → (p : RecvPage) × (open_recv (b.recvs id) ≡ Some p)
  held_page opened b shown = let h = holder shown.notes s b id reader shown.shows there in (h.p, open_page (b.recvs id) h.p h.page_is (h.opened ∙ opened))

  -- and the code of its reset
  pub held_code : is_wanting s.connection ≡ false → reader.is_open ≡ true → (half : PlainRecv) → recv_at s.connection.core.space.streams.recv id ≡ Some half → (b : Book) → Shows s b
      → (p : RecvPage) × (open_recv (b.recvs id) ≡ Some p) × (p.reset_code ≡ reset_code half.state)
  held_code calm opened half is b shown =
      let h = holder shown.notes s b id reader shown.shows there in
      let r = read_at shown.notes s.connection.core.space.streams b id h.p (shown.shows.connection.live calm).streams h.page_is (h.opened ∙ opened) in
      (h.p, open_page (b.recvs id) h.p h.page_is (h.opened ∙ opened), r.reading.reset_code ∙ ap (λ (x : PlainRecv). reset_code x.state) (same_Some r.half half (sym r.there ∙ is)))

  -- one that isn't read has none
  pub no_page : reader.is_open ≡ false → (b : Book) → Shows s b → open_recv (b.recvs id) ≡ None
  no_page off b shown = let h = holder shown.notes s b id reader shown.shows there in shut_page (b.recvs id) h.p h.page_is (h.opened ∙ off)

  -- the end is told to the reader of one that is read alone
  pub ended_read : reader.is_open ≡ true → (b : Book) → Shows s b → end_acts id (open_recv (b.recvs id)) ≡ ReadEnd id ∷ []
  ended_read opened b shown = let page = held_page opened b shown in ap (λ (o : Option RecvPage). end_acts id o) page.1

  pub ended_shut : reader.is_open ≡ false → (b : Book) → Shows s b → end_acts id (open_recv (b.recvs id)) ≡ []
  ended_shut off b shown = ap (λ (o : Option RecvPage). end_acts id o) (no_page off b shown)
