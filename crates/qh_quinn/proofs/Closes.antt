-- Closes, the handles that are counted, and why a connection is lost.
use Rattle.std.proofs.Common.{◌≡◌, ℕ, ◌-◌, ◌==◌, ◌&&◌, Bool, true, false, not, List, [], Option, Some, is_some, if◌then◌else◌, refl, sym, ap, subst, ◌∙◌}
use Rattle.qh_base.specs.declared.connection_error.ConnectionError.{ConnectionError}
use Rattle.qh_base.specs.declared.connection_error.ConnectionError.TheVariants.{LocallyClosed}
use Rattle.qh_base.specs.declared.time.Moment.{Moment}
use Rattle.qh_book.specs.Book.{Book, closed_if_last, with_close, without_handle}
use Rattle.qh_book.specs.Shown.{Note}
use Rattle.qh_conn.specs.Incoming.{IsCloseCalled}
use Rattle.qh_conn.specs.Whole.{IsWhole}
use Rattle.qh_conn.specs.declared.connection.Connection.{Connection}
use Rattle.qh_core.specs.Inner.{is_open}
use Rattle.qh_core.specs.Receiving.{IsClosedWith}
use Rattle.qh_core.specs.declared.inner.Inner.{Inner}
use Rattle.qh_core.specs.declared.state.Close.TheVariants.{Application}
use Rattle.qh_quinn.proofs.StatesKept.{calm_if_open, connection_beside}
use Rattle.qh_quinn.specs.Acting.{IsChanged}
use Rattle.qh_quinn.specs.Readers.{HoldsReader, reader_in}
use Rattle.qh_quinn.specs.States.{IsState, Shows, ShowsWith}
use Rattle.qh_quinn.specs.Waiting.{is_among}
use Rattle.qh_quinn.specs.declared.inner.StateInner.{StateInner}
use Rattle.qh_shown.specs.Brings.{Brings, IsLogging}
use Rattle.qh_shown.specs.Connections.{ShowsConnection, is_wanting}

-- ---- closes

close_called : {S : Type 0} (now : Moment) (code : ℕ) (reason : List ℕ) (old new : Connection S) (up : Bool) → is_open old.core.state ≡ up
    → (is_open old.core.state ≡ true → IsClosedWith now (Application (record { error_code = code; reason = reason })) LocallyClosed old.core new.core) → (is_open old.core.state ≡ false → new ≡ old) → new ≡ record old { core = new.core }
    → IsCloseCalled now code reason old new
close_called now code reason old new true is closed kept rest = IsCloseCalled.closed is (closed is) rest
close_called now code reason old new false is closed kept rest = IsCloseCalled.kept is (kept is)

by_last : (b : Book) (n : ℕ) (e : Option ConnectionError) → b.handles ≡ n → b.error ≡ e → closed_if_last b ≡ (if n == 0 && not (is_some e) then with_close b else b)
by_last b n e handles error = ap (λ (z : ℕ). if z == 0 && not (is_some b.error) then with_close b else b) handles ∙ ap (λ (z : Option ConnectionError). if n == 0 && not (is_some z) then with_close b else b) error

last_by : (last : Bool) (b : Book) → last ≡ true → (if last then with_close b else b) ≡ with_close b
last_by true b is = refl
last_by false b is = let z : false ≡ true = is in cc

more_by : (last : Bool) (b : Book) → last ≡ false → (if last then with_close b else b) ≡ b
more_by true b is = let z : true ≡ false = is in cc
more_by false b is = refl

module _ {S : Type 0} where
  called_wanting : (now : Moment) (code : ℕ) (reason : List ℕ) (old new : Connection S) → IsCloseCalled now code reason old new → (is_open old.core.state ≡ true → is_wanting old ≡ false) → is_wanting new ≡ is_wanting old
  called_wanting now code reason old new (IsCloseCalled.closed up closed is) calm = ap (λ (z : Inner S). is_wanting (record old { core = z })) closed.rest_is ∙ sym (calm up)
  called_wanting now code reason old new (IsCloseCalled.kept shut is) calm = ap (λ (z : Connection S). is_wanting z) is

  called_shut : (now : Moment) (code : ℕ) (reason : List ℕ) (old new : Connection S) → IsCloseCalled now code reason old new → is_open new.core.state ≡ false
  called_shut now code reason old new (IsCloseCalled.closed up closed is) = ap (λ (z : Inner S). is_open z.state) closed.rest_is
  called_shut now code reason old new (IsCloseCalled.kept shut is) = ap (λ (z : Connection S). is_open z.core.state) is ∙ shut

  called_due : (now : Moment) (code : ℕ) (reason : List ℕ) (old new : Connection S) → IsCloseCalled now code reason old new → new.is_connected_due ≡ old.is_connected_due
  called_due now code reason old new (IsCloseCalled.closed up closed is) = ap (λ (z : Connection S). z.is_connected_due) is
  called_due now code reason old new (IsCloseCalled.kept shut is) = ap (λ (z : Connection S). z.is_connected_due) is

  -- the connection was closed, and no call waits any more
  pub record Closes (old new : StateInner S) : Type 0 where
    pub is_connected : new.is_connected ≡ old.is_connected
    pub readers : new.readers ≡ old.readers
    pub stable_id : new.stable_id ≡ old.stable_id
    pub error : new.error ≡ Some LocallyClosed
    pub handles : new.handles ≡ old.handles
    pub waiting : new.waiting.items ≡ []

  close_shows : (old new : StateInner S) (notes : ℕ → Note) (b : Book) → Closes old new → is_wanting new.connection ≡ is_wanting old.connection → Brings [] old.connection new.connection → ShowsWith notes old b → ShowsWith notes new (with_close b)
  close_shows old new notes b is same brings h = record {
    connection = subst (λ (z : Bool). ShowsConnection z new.connection notes (with_close b)) (sym is.is_connected) (connection_beside old.is_connected new.connection notes b (brings.shows old.is_connected notes b h.connection));
    readers = λ k. subst (λ (z : Bool). HoldsReader z (reader_in new.readers k) (b.readers k) (notes k) (b.recvs k)) (sym same)
        (subst (λ (z : _). HoldsReader (is_wanting old.connection) (reader_in z k) (b.readers k) (notes k) (b.recvs k)) (sym is.readers) (h.readers k));
    untouched = record { unheld = h.untouched.unheld; page = h.untouched.page };
    stable_id = h.stable_id ∙ sym is.stable_id;
    error = sym is.error;
    handles = h.handles ∙ sym is.handles;
    interests = λ i. sym (ap (λ (z : List _). is_among i z) is.waiting);
  }

  pub closes : (now : Moment) (code : ℕ) (reason : List ℕ) (old new : StateInner S) → ((d e : Connection S) → IsCloseCalled now code reason d e → Brings [] d e) → IsState old → Closes old new → IsWhole new.connection
      → (is_open old.connection.core.state ≡ true → IsClosedWith now (Application (record { error_code = code; reason = reason })) LocallyClosed old.connection.core new.connection.core)
      → (is_open old.connection.core.state ≡ false → new.connection ≡ old.connection) → new.connection ≡ record old.connection { core = new.connection.core } → IsChanged with_close old new
  closes now code reason old new law h is whole closed kept rest =
      let called = close_called now code reason old.connection new.connection (is_open old.connection.core.state) refl closed kept rest in
      let shows : (b : Book) → Shows old b → Shows new (with_close b) = λ b shown. record {
        notes = shown.notes;
        shows = close_shows old new shown.notes b is
            (called_wanting now code reason old.connection new.connection called (λ up. calm_if_open old.is_connected old.connection shown.notes b shown.shows.connection up)) (law old.connection new.connection called) shown.shows;
      } in
      record {
        each = shows;
        state = record {
          whole = whole;
          lost = ap (λ (z : Option ConnectionError). is_some z) is.error ∙ ap (λ (z : Bool). not z) (sym (called_shut now code reason old.connection new.connection called));
          told = called_due now code reason old.connection new.connection called ∙ h.told;
          logging = (law old.connection new.connection called).logging h.logging;
          book = with_close h.book;
          shown = shows h.book h.shown;
        };
      }

  -- ---- handles

  pub record CountsHandles (count : ℕ) (old new : StateInner S) : Type 0 where
    pub connection : new.connection ≡ old.connection
    pub is_connected : new.is_connected ≡ old.is_connected
    pub readers : new.readers ≡ old.readers
    pub stable_id : new.stable_id ≡ old.stable_id
    pub error : new.error ≡ old.error
    pub handles : new.handles ≡ count
    pub waiting : new.waiting ≡ old.waiting

  counted_shows : (n : ℕ) (old new : StateInner S) (b : Book) → CountsHandles n old new → Shows old b → Shows new (record b { handles = n })
  counted_shows n old new b is h = record {
    notes = h.notes;
    shows = record {
      connection = subst (λ (z : Connection S). ShowsConnection new.is_connected z h.notes (record b { handles = n })) (sym is.connection)
          (subst (λ (z : Bool). ShowsConnection z old.connection h.notes (record b { handles = n })) (sym is.is_connected) (connection_beside old.is_connected old.connection h.notes b h.shows.connection));
      readers = λ k. subst (λ (z : Connection S). HoldsReader (is_wanting z) (reader_in new.readers k) (b.readers k) (h.notes k) (b.recvs k)) (sym is.connection)
          (subst (λ (z : _). HoldsReader (is_wanting old.connection) (reader_in z k) (b.readers k) (h.notes k) (b.recvs k)) (sym is.readers) (h.shows.readers k));
      untouched = record { unheld = h.shows.untouched.unheld; page = h.shows.untouched.page };
      stable_id = h.shows.stable_id ∙ sym is.stable_id;
      error = h.shows.error ∙ sym is.error;
      handles = sym is.handles;
      interests = λ i. h.shows.interests i ∙ sym (ap (λ (z : _). is_among i z.items) is.waiting);
    };
  }

  -- so many handles there are now
  pub counts : (f : ℕ → ℕ) (old new : StateInner S) → IsState old → CountsHandles (f old.handles) old new → IsChanged (λ b. record b { handles = f b.handles }) old new
  counts f old new h is =
      let shows : (b : Book) → Shows old b → Shows new (record b { handles = f b.handles }) = λ b shown. subst (λ (z : ℕ). Shows new (record b { handles = f z })) (sym shown.shows.handles) (counted_shows (f old.handles) old new b is shown) in
      record {
        each = shows;
        state = record {
          whole = subst (λ (z : Connection S). IsWhole z) (sym is.connection) h.whole;
          lost = ap (λ (z : Option ConnectionError). is_some z) is.error ∙ h.lost ∙ ap (λ (z : Connection S). not (is_open z.core.state)) (sym is.connection);
          told = ap (λ (z : Connection S). z.is_connected_due) is.connection ∙ h.told;
          logging = subst (λ (z : Connection S). IsLogging z) (sym is.connection) h.logging;
          book = record h.book { handles = f h.book.handles };
          shown = shows h.book h.shown;
        };
      }

  -- the last one is gone, and the connection is closed
  pub closes_last : (old mid new : StateInner S) → IsChanged (λ b. record b { handles = b.handles - 1 }) old mid → IsChanged with_close mid new → (mid.handles == 0 && not (is_some mid.error)) ≡ true → IsChanged without_handle old new
  closes_last old mid new h k last = record {
    each = λ b shown. let m = h.each b shown in
        let c : Book = record b { handles = b.handles - 1 } in
        subst (λ (z : Book). Shows new z) (sym (by_last c mid.handles mid.error m.shows.handles m.shows.error ∙ last_by (mid.handles == 0 && not (is_some mid.error)) c last)) (k.each c m);
    state = k.state;
  }

  -- it isn't closed
  pub closes_none : (old mid : StateInner S) → IsChanged (λ b. record b { handles = b.handles - 1 }) old mid → (mid.handles == 0 && not (is_some mid.error)) ≡ false → IsChanged without_handle old mid
  closes_none old mid h more = record {
    each = λ b shown. let m = h.each b shown in
        let c : Book = record b { handles = b.handles - 1 } in
        subst (λ (z : Book). Shows mid z) (sym (by_last c mid.handles mid.error m.shows.handles m.shows.error ∙ more_by (mid.handles == 0 && not (is_some mid.error)) c more)) m;
    state = h.state;
  }
