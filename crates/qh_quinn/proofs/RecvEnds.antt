-- What the handle of a stream's receiving half does when it ends.
use Rattle.std.proofs.Common.{◌≡◌, ◌⊎◌, ℕ, ◌==◌, ◌&&◌, Bool, true, false, not, Option, None, Some, is_some, if◌then◌else◌, refl, sym, ap, subst, ◌∙◌, inl, inr}
use Rattle.std.proofs.lemmas.Bool.{false≢true}
use Rattle.std.specs.Prelude.{MatchBool}
use Rattle.qh_base.specs.declared.connection_error.ConnectionError.{ConnectionError}
use Rattle.qh_base.specs.declared.stream_id.StreamId.{StreamId}
use Rattle.qh_book.specs.Book.{Book, without_handle}
use Rattle.qh_book.specs.Pages.{RecvPage, is_open, open_recv}
use Rattle.qh_book.specs.Receiving.{EndsRecv, Stops, recv_ended, with_recv_ended, without_reader}
use Rattle.qh_book.specs.Shown.{Note}
use Rattle.qh_book.specs.Step.{Allows}
use Rattle.qh_book.specs.declared.call.Call.TheVariants as call
use Rattle.qh_book.specs.declared.reply.Reply.{Reply}
use Rattle.qh_book.specs.declared.reply.Reply.TheVariants as reply
use Rattle.qh_quinn.proofs.Holding.{IsHeld, unheld_by}
use Rattle.qh_quinn.proofs.Moving.{calm_if_none}
use Rattle.qh_quinn.proofs.Recvs.{holder, open_page, read_at}
use Rattle.qh_quinn.proofs.StatesKept.{connection_beside}
use Rattle.qh_quinn.specs.Acting.{IsAnswered, IsChanged, recv_handle_ended}
use Rattle.qh_quinn.specs.Readers.{HoldsReader, reader_in, PlainReaders}
use Rattle.qh_quinn.specs.States.{IsState, Shows, ShowsWith}
use Rattle.qh_quinn.specs.declared.inner.StateInner.{StateInner}
use Rattle.qh_quinn.specs.declared.readers.Reader.{Reader}
use Rattle.qh_shown.specs.Connections.{is_wanting}

-- ---- laws of a book

abbrev pub StopLaw : (T : Type 0) → Type 0
StopLaw T = (b c : Book) (id : StreamId) → b.error ≡ None → Stops {T = T} b id reply.Done c → (p : RecvPage) → open_recv (b.recvs id.0) ≡ Some p → p.gave_error ≡ false → c ≡ with_recv_ended b id.0

abbrev pub StaysLaw : Type 0
StaysLaw = (b : Book) (id : ℕ) → b.error ≡ None → (open_recv (b.recvs id) ≡ None) ⊎ ((p : RecvPage) × (open_recv (b.recvs id) ≡ Some p) × (p.gave_error ≡ true)) → b ≡ with_recv_ended b id

-- ---- whether the half is stopped

abbrev pub is_stopped_by_end : Option ConnectionError → (opened gave_error : Bool) → Bool
is_stopped_by_end error opened gave_error = (not (is_some error) && opened) && not gave_error

pub unlost_by : (error : Option ConnectionError) (opened gave_error : Bool) → is_stopped_by_end error opened gave_error ≡ true → error ≡ None
unlost_by None opened gave_error is = refl
unlost_by (Some e) opened gave_error is = absurd (false≢true is)

pub opened_by : (error : Option ConnectionError) (opened gave_error : Bool) → is_stopped_by_end error opened gave_error ≡ true → opened ≡ true
opened_by None true gave_error is = refl
opened_by None false gave_error is = absurd (false≢true is)
opened_by (Some e) opened gave_error is = absurd (false≢true is)

pub no_error_by : (error : Option ConnectionError) (opened gave_error : Bool) → is_stopped_by_end error opened gave_error ≡ true → gave_error ≡ false
no_error_by None true false is = refl
no_error_by None true true is = absurd (false≢true is)
no_error_by None false gave_error is = absurd (false≢true is)
no_error_by (Some e) opened gave_error is = absurd (false≢true is)

shut_page : (o : Option RecvPage) (p : RecvPage) → o ≡ Some p → is_open p.state ≡ false → open_recv o ≡ None
shut_page o p is shut = rw is (rw shut refl)

in_held : {A : Type 0} (held : Bool) (x y : A) → held ≡ true → (if held then x else y) ≡ x
in_held true x y is = refl
in_held false x y is = absurd (false≢true is)

ended_lost : (b : Book) (id : ℕ) (e : Option ConnectionError) → b.error ≡ e → is_some e ≡ true → b ≡ with_recv_ended b id
ended_lost b id None is lost = absurd (false≢true lost)
ended_lost b id (Some e) is lost = sym (in_held (is_some b.error) b (recv_ended (open_recv (b.recvs id)) b id) (ap (λ (z : Option ConnectionError). is_some z) is))

not_held : {A : Type 0} (held : Bool) (x y : A) → held ≡ false → (if held then x else y) ≡ y
not_held true x y is = absurd (false≢true (sym is))
not_held false x y is = refl

held_stops : {T : Type 0} (b after : Book) (id : StreamId) (r : Reply T) → b.readers id.0 ≡ true → MatchBool (b.readers id.0) (Stops b id r after) ((r ≡ reply.ClosedStream) × (after ≡ b)) → Stops b id r after
held_stops b after id r held h = subst (λ (x : Bool). MatchBool x (Stops b id r after) ((r ≡ reply.ClosedStream) × (after ≡ b))) held h

not_both : (x y : Bool) → y ≡ false → (x && y) ≡ false
not_both true y is = is
not_both false y is = refl

module _ {S : Type 0} where
  -- a half that is read gave an error exactly if it is noted so
  gave_error_as : (s : StateInner S) (id : ℕ) (reader : Reader) (notes : ℕ → Note) (b : Book) → IsState s → s.error ≡ None → reader.is_open ≡ true → ShowsWith notes s b → (h : IsHeld (is_wanting s.connection) reader (notes id) (b.readers id) (b.recvs id)) → h.p.gave_error ≡ reader.gave_error
  gave_error_as s id reader notes b state unlost opened shown h =
      let streams = (shown.connection.live (calm_if_none s state unlost)).streams in
      (read_at notes s.connection.core.space.streams b id h.p streams h.page_is (h.opened ∙ opened)).noted.gave_error ∙ ap (λ (n : Note). n.gave_error) h.note_is

  -- nothing is stopped
  recv_kept : StaysLaw → (s : StateInner S) (id : ℕ) (reader : Reader) (notes : ℕ → Note) (b : Book) → IsState s → ShowsWith notes s b → IsHeld (is_wanting s.connection) reader (notes id) (b.readers id) (b.recvs id)
      → is_stopped_by_end s.error reader.is_open reader.gave_error ≡ false → b ≡ with_recv_ended b id
  recv_kept law s id reader notes b state shown h off = at s.error reader.is_open reader.gave_error refl refl refl off
    where
      at : (error : Option ConnectionError) (opened gave_error : Bool) → s.error ≡ error → reader.is_open ≡ opened → reader.gave_error ≡ gave_error → is_stopped_by_end error opened gave_error ≡ false → b ≡ with_recv_ended b id
      at (Some e) opened gave_error has is gave off = ended_lost b id (Some e) (shown.error ∙ has) refl
      at None false gave_error none shut gave off = law b id (shown.error ∙ none) (inl (shut_page (b.recvs id) h.p h.page_is (h.opened ∙ shut)))
      at None true true none is gave off =
          law b id (shown.error ∙ none) (inr (h.p, open_page (b.recvs id) h.p h.page_is (h.opened ∙ is), gave_error_as s id reader notes b state none is shown h ∙ gave))
      at None true false none is gave off = absurd (false≢true (sym off))

  pub recv_stays : StaysLaw → (s : StateInner S) (id : ℕ) (reader : Reader) → IsState s → reader_in s.readers id ≡ Some reader → is_stopped_by_end s.error reader.is_open reader.gave_error ≡ false → IsChanged (λ b. with_recv_ended b id) s s
  recv_stays law s id reader state there off = record {
    each = λ b shown. subst (λ (z : Book). Shows s z) (recv_kept law s id reader shown.notes b state shown.shows (holder shown.notes s b id reader shown.shows there) off) shown;
    state = state;
  }

module _ {S T : Type 0} where
  -- the half is stopped
  pub recv_stops : StopLaw T → (old new : StateInner S) (id : StreamId) (code : ℕ) (reader : Reader) → IsState old → reader_in old.readers id.0 ≡ Some reader → is_stopped_by_end old.error reader.is_open reader.gave_error ≡ true
      → IsAnswered {T = T} (call.Stop id code) reply.Done old new → IsChanged (λ b. with_recv_ended b id.0) old new
  recv_stops law old new id code reader state there stopped answer =
      let unlost = unlost_by old.error reader.is_open reader.gave_error stopped in
      let opened = opened_by old.error reader.is_open reader.gave_error stopped in
      let silent = no_error_by old.error reader.is_open reader.gave_error stopped in
      record {
        each = λ b shown. let a = answer.each b shown in
            let h = holder shown.notes old b id.0 reader shown.shows there in
            subst (λ (z : Book). Shows new z)
            (law b a.after id (shown.shows.error ∙ unlost) (held_stops {T = T} b a.after id reply.Done h.held a.allows) h.p (open_page (b.recvs id.0) h.p h.page_is (h.opened ∙ opened))
            (gave_error_as old id.0 reader shown.notes b state unlost opened shown.shows h ∙ silent)) a.shows;
        state = answer.state;
      }

-- ---- no handle holds it any more

module _ {S : Type 0} where
  release_shows : (id : ℕ) (old : StateInner S) (readers : PlainReaders) (notes : ℕ → Note) (b : Book) → ((k : ℕ) → reader_in readers k ≡ (if k == id then None else reader_in old.readers k)) → ShowsWith notes old b
      → ShowsWith notes (record old { readers = readers }) (without_reader id b)
  release_shows id old readers notes b released h = record {
    connection = connection_beside old.is_connected old.connection notes b h.connection;
    readers = λ k. at k (k == id) (released k);
    untouched = record { unheld = λ k is. not_both (not (k == id)) (b.readers k) (h.untouched.unheld k is); page = h.untouched.page };
    stable_id = h.stable_id;
    error = h.error;
    handles = h.handles;
    interests = h.interests;
  }
    where
      at : (k : ℕ) (here : Bool) → reader_in readers k ≡ (if here then None else reader_in old.readers k) → HoldsReader (is_wanting old.connection) (reader_in readers k) (not here && b.readers k) (notes k) (b.recvs k)
      at k true is = subst (λ (o : Option Reader). HoldsReader (is_wanting old.connection) o false (notes k) (b.recvs k)) (sym is) tt
      at k false is = subst (λ (o : Option Reader). HoldsReader (is_wanting old.connection) o (b.readers k) (notes k) (b.recvs k)) (sym is) (h.readers k)

  pub releases : (id : ℕ) (old : StateInner S) (readers : PlainReaders) → IsState old → ((k : ℕ) → reader_in readers k ≡ (if k == id then None else reader_in old.readers k)) → IsChanged (without_reader id) old (record old { readers = readers })
  releases id old readers state released =
      let shows : (b : Book) → Shows old b → Shows (record old { readers = readers }) (without_reader id b) = λ b shown. record { notes = shown.notes; shows = release_shows id old readers shown.notes b released shown.shows } in
      record {
        each = shows;
        state = record { whole = state.whole; lost = state.lost; told = state.told; logging = state.logging; book = without_reader id state.book; shown = shows state.book state.shown };
      }

  -- ---- the whole end

  pub recv_ends : (old mid last new : StateInner S) (id : ℕ) (reader : Reader) → reader_in old.readers id ≡ Some reader → IsChanged (λ b. with_recv_ended b id) old mid → IsChanged (without_reader id) mid last → IsChanged without_handle last new
      → IsChanged (recv_handle_ended id) old new
  recv_ends old mid last new id reader there h i k = record {
    each = λ b shown.
        let c = without_handle (without_reader id (with_recv_ended b id)) in
        subst (λ (z : Book). Shows new z) (sym (in_held (b.readers id) c b (holder shown.notes old b id reader shown.shows there).held))
        (k.each (without_reader id (with_recv_ended b id)) (i.each (with_recv_ended b id) (h.each b shown)));
    state = k.state;
  }

  pub unheld_ends : (s : StateInner S) (id : ℕ) → IsState s → reader_in s.readers id ≡ None → IsChanged (recv_handle_ended id) s s
  unheld_ends s id state none = record {
    each = λ b shown.
        let off = unheld_by (is_wanting s.connection) (reader_in s.readers id) (b.readers id) (shown.notes id) (b.recvs id) none (shown.shows.readers id) in
        subst (λ (z : Book). Shows s z) (sym (not_held (b.readers id) (without_handle (without_reader id (with_recv_ended b id))) b off)) shown;
    state = state;
  }

-- the reply to the end of a handle that holds the half, or of none
abbrev done : (T : Type 0) → Reply T
done T = reply.Done

pub handle_ended : (T : Type 0) (b : Book) (id : StreamId) → Allows {T = T} b (call.EndRecv id) reply.Done (recv_handle_ended id.0 b)
handle_ended T b id = at (b.readers id.0)
  where
    at : (held : Bool) → MatchBool held (EndsRecv {T = T} b id reply.Done (if held then without_handle (without_reader id.0 (with_recv_ended b id.0)) else b)) ((done T ≡ reply.Done) × ((if held then without_handle (without_reader id.0 (with_recv_ended b id.0)) else b) ≡ b))
    at true = refl
    at false = (refl, refl)
