-- What a book shows of a state that changes in what isn't of its streams.
use Rattle.std.proofs.Common.{◌≡◌, ℕ, ◌≤◌, Bool, true, false, not, List, Option, None, Some, is_some, refl, sym, ap, subst, ◌∙◌}
use Rattle.futures.specs.declared.task.waker.Waker.{Waker}
use Rattle.qh_base.specs.declared.connection_error.ConnectionError.{ConnectionError}
use Rattle.qh_book.specs.Book.{Book, tally}
use Rattle.qh_book.specs.Pages.{Tally}
use Rattle.qh_book.specs.Shown.{DatagramBounds, Note, ShowsDatagrams, ShowsStreams}
use Rattle.qh_book.specs.Step.{Allows}
use Rattle.qh_book.specs.declared.call.Call.{Call}
use Rattle.qh_book.specs.declared.interest.Interest.{Interest}
use Rattle.qh_book.specs.declared.reply.Reply.{Reply}
use Rattle.qh_book.specs.declared.reply.Reply.TheVariants as reply
use Rattle.qh_conn.specs.Whole.{IsWhole}
use Rattle.qh_conn.specs.declared.connection.Connection.{Connection}
use Rattle.qh_core.specs.Event.{is_drained}
use Rattle.qh_core.specs.Inner.{is_open}
use Rattle.qh_core.specs.declared.state.State.{State as CoreState}
use Rattle.qh_core.specs.declared.state.State.TheVariants.{Established, Drained}
use Rattle.qh_datagrams.specs.Datagrams.{PlainDatagrams}
use Rattle.qh_quinn.specs.Acting.{IsAnswered, IsChanged, Stays}
use Rattle.qh_quinn.specs.Readers.{HoldsReader, reader_in}
use Rattle.qh_quinn.specs.States.{IsState, Shows, ShowsWith}
use Rattle.qh_quinn.specs.Waiting.{is_among}
use Rattle.qh_quinn.specs.declared.readers.Reader.{Reader}
use Rattle.qh_quinn.specs.declared.inner.StateInner.{StateInner}
use Rattle.qh_shown.specs.Brings.{IsLogging}
use Rattle.qh_shown.specs.Connections.{ShowsConnection, bounds_of, is_wanting}
use Rattle.qh_spec.specs.declared.sides.Dir.{Dir}
use Rattle.qh_spec.specs.declared.sides.Dir.TheVariants.{Bi, Uni}
use Rattle.qh_streams.specs.Streams.{PlainStreams}

-- ---- what of a book shows no streams may change

pub streams_beside : (s : PlainStreams) (notes : ℕ → Note) (b : Book) {error : Option ConnectionError} {readers : ℕ → Bool} {datagrams : List (List ℕ)} {queued : List ℕ} {handles : ℕ} {interests : Interest → Bool}
    → ShowsStreams s notes b → ShowsStreams s notes (record b { error = error; readers = readers; datagrams = datagrams; queued = queued; handles = handles; interests = interests })
streams_beside s notes b h = record {
  side = h.side;
  sends = h.sends;
  recvs = h.recvs;
  pages = h.pages;
  unsent_sides = h.unsent_sides;
  unread_sides = h.unread_sides;
  bi = h.bi;
  uni = h.uni;
  first_bi = h.first_bi;
  first_uni = h.first_uni;
  credit_to = h.credit_to;
  taken = h.taken;
  send_window = h.send_window;
  unconfirmed = h.unconfirmed;
}

pub datagrams_beside : (d : PlainDatagrams) (l : DatagramBounds) (b : Book) {error : Option ConnectionError} {readers : ℕ → Bool} {send_window : ℕ} {handles : ℕ} {interests : Interest → Bool}
    → ShowsDatagrams d l b → ShowsDatagrams d l (record b { error = error; readers = readers; send_window = send_window; handles = handles; interests = interests })
datagrams_beside d l b h = record { datagrams = h.datagrams; queued = h.queued; receive = h.receive; send = h.send; most = h.most }

pub accepted_beside : (b c : Book) → c.bi ≡ b.bi → c.uni ≡ b.uni → ((dir : Dir) → (tally b dir).arrived ≤ (tally b dir).accepted) → (dir : Dir) → (tally c dir).arrived ≤ (tally c dir).accepted
accepted_beside b c bi uni h Bi = subst (λ (t : Tally). t.arrived ≤ t.accepted) (sym bi) (h Bi)
accepted_beside b c bi uni h Uni = subst (λ (t : Tally). t.arrived ≤ t.accepted) (sym uni) (h Uni)

open_lives : (s : CoreState) → is_open s ≡ true → is_drained s ≡ false
open_lives Established up = refl
open_lives Drained up = let z : false ≡ true = up in cc
open_lives other up = refl

pub calm_by : (wanting : Bool) (drained : Bool) → (wanting ≡ true → drained ≡ true) → drained ≡ false → wanting ≡ false
calm_by true drained is lives = sym (is refl) ∙ lives
calm_by false drained is lives = refl

open_by : (error : Option ConnectionError) (up : Bool) → is_some error ≡ not up → error ≡ None → up ≡ true
open_by None true is none = refl
open_by None false is none = let z : false ≡ true = is in cc
open_by (Some e) up is none = cc

module _ {S : Type 0} where
  -- an open end is none that want of memory ended
  pub calm_if_open : (was_told : Bool) (c : Connection S) (notes : ℕ → Note) (b : Book) → ShowsConnection was_told c notes b → is_open c.core.state ≡ true → is_wanting c ≡ false
  calm_if_open was_told c notes b h up = calm_by (is_wanting c) (is_drained c.core.state) h.drained (open_lives c.core.state up)

  pub connection_beside : (was_told : Bool) (c : Connection S) (notes : ℕ → Note) (b : Book) {error : Option ConnectionError} {readers : ℕ → Bool} {handles : ℕ} {interests : Interest → Bool}
      → ShowsConnection was_told c notes b → ShowsConnection was_told c notes (record b { error = error; readers = readers; handles = handles; interests = interests })
  connection_beside was_told c notes b {error = error} {readers = readers} {handles = handles} {interests = interests} h = record {
    side = h.side;
    addresses = h.addresses;
    connected = h.connected;
    drained = h.drained;
    live = λ calm. let l = h.live calm in record {
      streams = streams_beside c.core.space.streams notes b l.streams;
      datagrams = datagrams_beside c.control.datagrams (bounds_of c.control) b l.datagrams;
      kept = l.kept;
      ungreeted = l.ungreeted;
    };
    emptied = λ wanting. let e = h.emptied wanting in record {
      emptied = e.emptied;
      sends = e.sends;
      recvs = e.recvs;
      accepted = accepted_beside b (record b { error = error; readers = readers; handles = handles; interests = interests }) refl refl e.accepted;
      datagrams = e.datagrams;
      queued = e.queued;
      receive = e.receive;
      send = e.send;
      most = e.most;
    };
  }

  -- ---- states

  -- beside its connection a book shows the same of both
  pub record HasSameRest (old new : StateInner S) : Type 0 where
    pub is_connected : new.is_connected ≡ old.is_connected
    pub readers : (k : ℕ) → reader_in new.readers k ≡ reader_in old.readers k
    pub stable_id : new.stable_id ≡ old.stable_id
    pub error : new.error ≡ old.error
    pub handles : new.handles ≡ old.handles
    pub interests : (i : Interest) → is_among i new.waiting.items ≡ is_among i old.waiting.items

  pub rest_by : (old new to : StateInner S) → new ≡ to → HasSameRest old to → HasSameRest old new
  rest_by old new to is h = subst (λ (z : StateInner S). HasSameRest old z) (sym is) h

  pub rest_self : (s : StateInner S) {connection : Connection S} {driver : Option Waker} → HasSameRest s (record s { connection = connection; driver = driver })
  rest_self s = record { is_connected = refl; readers = λ k. refl; stable_id = refl; error = refl; handles = refl; interests = λ i. refl }

  -- the connection goes on, and so does the book, by what shows its datagrams and by the send window
  pub moved : (old new : StateInner S) (notes : ℕ → Note) (b : Book) (datagrams : List (List ℕ)) (queued : List ℕ) (send_window : ℕ) → HasSameRest old new → ShowsWith notes old b → is_wanting new.connection ≡ is_wanting old.connection
      → ShowsConnection old.is_connected new.connection notes (record b { datagrams = datagrams; queued = queued; send_window = send_window })
      → ShowsWith notes new (record b { datagrams = datagrams; queued = queued; send_window = send_window })
  moved old new notes b datagrams queued send_window rest h same shown = record {
    connection = subst (λ (z : Bool). ShowsConnection z new.connection notes (record b { datagrams = datagrams; queued = queued; send_window = send_window })) (sym rest.is_connected) shown;
    readers = λ k. subst (λ (z : Bool). HoldsReader z (reader_in new.readers k) (b.readers k) (notes k) (b.recvs k)) (sym same)
        (subst (λ (z : Option Reader). HoldsReader (is_wanting old.connection) z (b.readers k) (notes k) (b.recvs k)) (sym (rest.readers k)) (h.readers k));
    untouched = record { unheld = h.untouched.unheld; page = h.untouched.page };
    stable_id = h.stable_id ∙ sym rest.stable_id;
    error = h.error ∙ sym rest.error;
    handles = h.handles ∙ sym rest.handles;
    interests = λ i. h.interests i ∙ sym (rest.interests i);
  }

  -- the connection is the same
  pub kept_with : (old new : StateInner S) (notes : ℕ → Note) (b : Book) → HasSameRest old new → new.connection ≡ old.connection → ShowsWith notes old b → ShowsWith notes new b
  kept_with old new notes b rest is h = moved old new notes b b.datagrams b.queued b.send_window rest h (ap (λ (z : Connection S). is_wanting z) is) (subst (λ (z : Connection S). ShowsConnection old.is_connected z notes b) (sym is) h.connection)

  pub kept : (old new : StateInner S) → HasSameRest old new → new.connection ≡ old.connection → (b : Book) → Shows old b → Shows new b
  kept old new rest is b h = record { notes = h.notes; shows = kept_with old new h.notes b rest is h.shows }

  -- what holds of a state holds of another with such a connection that a book shows
  pub state_by : (old new : StateInner S) → IsState old → IsWhole new.connection → is_open new.connection.core.state ≡ is_open old.connection.core.state → new.connection.is_connected_due ≡ old.connection.is_connected_due
      → IsLogging new.connection → new.error ≡ old.error → (b : Book) → Shows new b → IsState new
  state_by old new h whole up due logging kept b shown = record {
    whole = whole;
    lost = ap (λ (z : Option ConnectionError). is_some z) kept ∙ h.lost ∙ ap (λ (z : Bool). not z) (sym up);
    told = due ∙ h.told;
    logging = logging;
    book = b;
    shown = shown;
  }

  pub kept_state : (old new : StateInner S) → HasSameRest old new → new.connection ≡ old.connection → IsState old → IsState new
  kept_state old new rest is h =
      state_by old new h (subst (λ (z : Connection S). IsWhole z) (sym is) h.whole) (ap (λ (z : Connection S). is_open z.core.state) is) (ap (λ (z : Connection S). z.is_connected_due) is) (subst (λ (z : Connection S). IsLogging z) (sym is) h.logging) rest.error h.book (kept old new rest is h.book h.shown)

  -- nothing that a book shows changed
  pub stays : (old new : StateInner S) → HasSameRest old new → new.connection ≡ old.connection → IsState old → Stays old new
  stays old new rest is h = record { each = kept old new rest is; state = kept_state old new rest is h }

  -- such an end has no error
  pub calm_unlost : (s : StateInner S) → IsState s → s.error ≡ None → is_wanting s.connection ≡ false
  calm_unlost s h none = calm_if_open s.is_connected s.connection h.shown.notes h.book h.shown.shows.connection (open_by s.error (is_open s.connection.core.state) h.lost none)

  -- ---- replies by which nothing changes

  pub replies : {T : Type 0} (s : StateInner S) (call : Call) (r : Reply T) → IsState s → ((b : Book) → Shows s b → Allows b call r b) → IsAnswered call r s s
  replies s call r h f = record { each = λ b shown. record { after = b; allows = f b shown; shows = shown }; state = h }

  -- a change is what a call does that is done
  pub changes : {T : Type 0} (f : Book → Book) (old new : StateInner S) (call : Call) → ((b : Book) → Allows {T = T} b call reply.Done (f b)) → IsChanged f old new → IsAnswered {T = T} call reply.Done old new
  changes f old new call g h = record { each = λ b shown. record { after = f b; allows = g b; shows = h.each b shown }; state = h.state }
