-- A call that changes the connection's streams, the readers or the handles of a state, and wakes the driver.
use Rattle.std.proofs.Common.{◌≡◌, ℕ, ◌==◌, nat_lt, Bool, true, false, ◌&&◌, not, Option, Some, None, is_some, if◌then◌else◌, refl, sym, ap, ◌∙◌, subst, arith}
use Rattle.std.proofs.lemmas.Bool.{false≢true, le-ltb}
use Rattle.qh_book.specs.Book.{Book, index_of, is_own, is_read, is_two_way, was_opened, with_recv}
use Rattle.qh_book.specs.Pages.{RecvPage, is_open as is_page_open, no_streams}
use Rattle.qh_book.specs.Shown.{Note, ShowsStreams}
use Rattle.qh_book.specs.declared.call.Call.{Call}
use Rattle.qh_book.specs.declared.reply.Reply.{Reply}
use Rattle.qh_conn.specs.Whole.{IsWhole}
use Rattle.qh_conn.specs.declared.connection.Connection.{Connection}
use Rattle.qh_core.specs.Event.{is_drained}
use Rattle.qh_core.specs.Inner.{is_open, with_streams}
use Rattle.qh_core.specs.declared.state.State.{State as CoreState}
use Rattle.qh_core.specs.declared.state.State.TheVariants as core_state
use Rattle.qh_core.specs.declared.inner.Inner.{Inner}
use Rattle.qh_quinn.proofs.Holding.{SameRecvs, held_by, readers_put, untouched_put, untouched_same}
use Rattle.qh_quinn.specs.Acting.{IsAllowed, IsAnswered, Stays}
use Rattle.qh_quinn.specs.Readers.{EndsBare, HoldsReader, note_of, reader_in, with_reader}
use Rattle.qh_quinn.specs.States.{AreUntouched, IsState, Shows, ShowsWith}
use Rattle.qh_quinn.specs.declared.readers.Reader.{Reader}
use Rattle.qh_quinn.specs.declared.inner.StateInner.{StateInner}
use Rattle.qh_shown.specs.Brings.{IsLogging}
use Rattle.qh_shown.specs.Connections.{ShowsLive, is_wanting}

-- what a step of streams leaves of a book
abbrev pub IsStepRest : (b after : Book) → Type 0
IsStepRest b after = after ≡ record b {
  sends = after.sends;
  recvs = after.recvs;
  readers = after.readers;
  bi = after.bi;
  uni = after.uni;
  taken = after.taken;
  unconfirmed = after.unconfirmed;
  handles = after.handles;
}

drained_shut : (s : CoreState) → is_drained s ≡ true → is_open s ≡ false
drained_shut core_state.Drained is = refl
drained_shut core_state.Established is = absurd (false≢true is)
drained_shut (core_state.Closed reason due until) is = absurd (false≢true is)
drained_shut (core_state.Draining until) is = absurd (false≢true is)

not_true : (x y : Bool) → x ≡ not y → y ≡ false → x ≡ true
not_true x y is off = is ∙ ap not off

none_opened : (b : Book) (k : ℕ) → b.bi ≡ no_streams → b.uni ≡ no_streams → was_opened b k ≡ false
none_opened b k bi uni = rw (bi, uni) (at (is_own b.side k) (is_two_way k))
  where
    at : (own two : Bool) → nat_lt (index_of k) (if own then (if two then 0 else 0) else (if two then 0 else 0)) ≡ false
    at true true = le-ltb (index_of k) 0 (omega arith)
    at true false = le-ltb (index_of k) 0 (omega arith)
    at false true = le-ltb (index_of k) 0 (omega arith)
    at false false = le-ltb (index_of k) 0 (omega arith)

pub none_at : {X : Type 0} (o : Option X) → is_some o ≡ false → o ≡ None
none_at None e = refl
none_at (Some x) e = absurd (false≢true (sym e))

and_false : (x y : Bool) → y ≡ false → (x && y) ≡ false
and_false true y is = is
and_false false y is = refl

module _ {S : Type 0} where
  -- The connection's streams, the readers and the handles are others, and the driver may be woken. Nothing else of the state changed.
  abbrev pub IsMoved : (old new : StateInner S) → Type 0
  IsMoved old new = new ≡ record old {
    connection = record old.connection { core = with_streams old.connection.core new.connection.core.space.streams };
    handles = new.handles;
    readers = new.readers;
    driver = new.driver;
  }

  -- the connection is the same but for its streams
  abbrev pub IsOnward : (old new : Connection S) → Type 0
  IsOnward old new = new ≡ record old { core = with_streams old.core new.core.space.streams }

  pub onward : (old new : Connection S) → new.core ≡ with_streams old.core new.core.space.streams → new ≡ record old { core = new.core } → IsOnward old new
  onward old new core rest = rest ∙ ap (λ (k : Inner S). record old { core = k }) core

  pub moved : (old new : StateInner S) → IsOnward old.connection new.connection → new ≡ record old { connection = new.connection; handles = new.handles; readers = new.readers; driver = new.driver } → IsMoved old new
  moved old new connection rest = rest ∙ ap (λ (c : Connection S). record old { connection = c; handles = new.handles; readers = new.readers; driver = new.driver }) connection

  -- ---- what holds of every state

  pub lost_if_wanting : (s : StateInner S) (notes : ℕ → Note) (b : Book) → IsState s → ShowsWith notes s b → is_wanting s.connection ≡ true → is_some s.error ≡ true
  lost_if_wanting s notes b state shown wanting = not_true (is_some s.error) (is_open s.connection.core.state) state.lost (drained_shut s.connection.core.state (shown.connection.drained wanting))

  pub calm_if_none : (s : StateInner S) → IsState s → s.error ≡ None → is_wanting s.connection ≡ false
  calm_if_none s state none = at (is_wanting s.connection) refl
    where
      at : (w : Bool) → is_wanting s.connection ≡ w → w ≡ false
      at false is = refl
      at true is = absurd (false≢true (sym (ap is_some none) ∙ lost_if_wanting s state.shown.notes state.book state state.shown.shows is))

  pub open_if_none : (s : StateInner S) → IsState s → s.error ≡ None → is_open s.connection.core.state ≡ true
  open_if_none s state none = at (is_open s.connection.core.state) (sym (ap is_some none) ∙ state.lost)
    where
      at : (o : Bool) → false ≡ not o → o ≡ true
      at true is = refl
      at false is = absurd (false≢true is)

  -- a connection of which a receiving half has a page was greeted
  pub greeted_by : (c : Connection S) (notes : ℕ → Note) (b : Book) (k : ℕ) (p : RecvPage) → ShowsLive c notes b → b.recvs k ≡ Some p → is_some c.handshake.peer ≡ true
  greeted_by c notes b k p live is = at (is_some c.handshake.peer) refl
    where
      at : (greeted : Bool) → is_some c.handshake.peer ≡ greeted → greeted ≡ true
      at true e = refl
      at false e =
          let first = (live.ungreeted (none_at c.handshake.peer e)).streams in
          absurd (false≢true (sym (and_false (is_read b k) (was_opened b k) (none_opened b k (live.streams.bi ∙ sym first.bi) (live.streams.uni ∙ sym first.uni))) ∙ sym (live.streams.pages k) ∙ ap is_some is))

  -- ---- a state that goes on

  pub stepped : (notes next : ℕ → Note) (old new : StateInner S) (b after : Book) → IsMoved old new → ShowsWith notes old b → is_wanting old.connection ≡ false → is_some old.connection.handshake.peer ≡ true
      → ShowsStreams new.connection.core.space.streams next after → IsStepRest b after → ((k : ℕ) → HoldsReader false (reader_in new.readers k) (after.readers k) (next k) (after.recvs k)) → AreUntouched after → after.handles ≡ new.handles
      → ShowsWith next new after
  stepped notes next old new b after is shown calm greeted streams rest readers untouched handles =
      let live = shown.connection.live calm in
      subst (λ (s : StateInner S). ShowsWith next s after) (sym is)
      (record {
        connection = record {
          side = ap (λ (x : Book). x.side) rest ∙ shown.connection.side;
          addresses = ap (λ (x : Book). x.addresses) rest ∙ shown.connection.addresses;
          connected = ap (λ (x : Book). x.is_connected) rest ∙ shown.connection.connected;
          drained = shown.connection.drained;
          live = λ _. record {
            streams = streams;
            datagrams = record {
              datagrams = ap (λ (x : Book). x.datagrams) rest ∙ live.datagrams.datagrams;
              queued = ap (λ (x : Book). x.queued) rest ∙ live.datagrams.queued;
              receive = ap (λ (x : Book). x.datagram_receive) rest ∙ live.datagrams.receive;
              send = ap (λ (x : Book). x.datagram_send) rest ∙ live.datagrams.send;
              most = ap (λ (x : Book). x.max_datagram_size) rest ∙ live.datagrams.most;
            };
            kept = ap (λ (x : Book). x.is_emptied) rest ∙ live.kept;
            ungreeted = λ none. absurd (false≢true (sym (ap is_some none) ∙ greeted));
          };
          emptied = λ wanting. absurd (false≢true (sym calm ∙ wanting));
        };
        readers = λ k. subst (λ (w : Bool). HoldsReader w (reader_in new.readers k) (after.readers k) (next k) (after.recvs k)) (sym calm) (readers k);
        untouched = untouched;
        stable_id = ap (λ (x : Book). x.stable_id) rest ∙ shown.stable_id;
        error = ap (λ (x : Book). x.error) rest ∙ shown.error;
        handles = handles;
        interests = λ i. ap (λ (x : Book). x.interests i) rest ∙ shown.interests i;
      })

  -- a call on the sending half of a stream
  pub sent : (notes : ℕ → Note) (old new : StateInner S) (b after : Book) → IsMoved old new → new.readers ≡ old.readers → new.handles ≡ old.handles → ShowsWith notes old b → is_wanting old.connection ≡ false → is_some old.connection.handshake.peer ≡ true
      → ShowsStreams new.connection.core.space.streams notes after → IsStepRest b after → SameRecvs b after → after.handles ≡ b.handles → ShowsWith notes new after
  sent notes old new b after is readers handles shown calm greeted streams rest same held =
      stepped notes notes old new b after is shown calm greeted streams rest
      (λ k.
      let before = subst (λ (w : Bool). HoldsReader w (reader_in old.readers k) (b.readers k) (notes k) (b.recvs k)) calm (shown.readers k) in
      rw (readers, same.readers, same.recvs) before)
      (untouched_same b after same shown.untouched) (held ∙ shown.handles ∙ sym handles)

  -- a call on the receiving half of one
  pub received : (notes next : ℕ → Note) (old new : StateInner S) (b after : Book) (id : ℕ) (q : RecvPage) (r left : Reader) → IsMoved old new → new.handles ≡ old.handles → ShowsWith notes old b → is_wanting old.connection ≡ false
      → ShowsStreams new.connection.core.space.streams next after → after ≡ with_recv b id q → reader_in old.readers id ≡ Some r
      → ((k : ℕ) → reader_in new.readers k ≡ (if k == id then with_reader left (reader_in old.readers k) else reader_in old.readers k)) → ((k : ℕ) → (k == id) ≡ false → next k ≡ notes k)
      → next id ≡ note_of false left → is_page_open q.state ≡ left.is_open → q.is_unordered ≡ left.is_unordered → EndsBare left q → ShowsWith next new after
  received notes next old new b after id q r left_page is handles shown calm streams after_is there put others noted opened unordered ended =
      let before : (k : ℕ) → HoldsReader false (reader_in old.readers k) (b.readers k) (notes k) (b.recvs k) =
      λ k. subst (λ (w : Bool). HoldsReader w (reader_in old.readers k) (b.readers k) (notes k) (b.recvs k)) calm (shown.readers k) in
      let h = held_by false (reader_in old.readers id) r (b.readers id) (notes id) (b.recvs id) there (before id) in
      subst (λ (x : Book). ShowsWith next new x) (sym after_is)
      (stepped notes next old new b (with_recv b id q) is shown calm (greeted_by old.connection notes b id h.p (shown.connection.live calm) h.page_is)
      (subst (λ (x : Book). ShowsStreams new.connection.core.space.streams next x) after_is streams) refl
      (readers_put false notes next old.readers new.readers b id r left_page q before there put others noted opened unordered ended)
      (untouched_put b id q h.held shown.untouched) (shown.handles ∙ sym handles))

  -- ---- what a call answers

  pub stays_state : (old new : StateInner S) → IsState old → IsMoved old new → IsWhole new.connection → (b : Book) → Shows new b → IsState new
  stays_state old new state is whole b shown = record {
    whole = whole;
    lost = ap (λ (s : StateInner S). is_some s.error) is ∙ state.lost ∙ ap (λ (s : StateInner S). not (is_open s.connection.core.state)) (sym is);
    told = ap (λ (s : StateInner S). s.connection.is_connected_due) is ∙ state.told;
    logging = subst (λ (s : StateInner S). IsLogging s.connection) (sym is) state.logging;
    book = b;
    shown = shown;
  }

  pub answered : {T : Type 0} (call : Call) (reply : Reply T) (old new : StateInner S) → IsState old → IsMoved old new → IsWhole new.connection → ((b : Book) → Shows old b → IsAllowed call reply b new) → IsAnswered call reply old new
  answered call reply old new state is whole each =
      let one = each state.book state.shown in
      record { each = each; state = stays_state old new state is whole one.after one.shows }

  pub stays : (old new : StateInner S) → IsState old → IsMoved old new → IsWhole new.connection → ((b : Book) → Shows old b → Shows new b) → Stays old new
  stays old new state is whole each = record { each = each; state = stays_state old new state is whole state.book (each state.book state.shown) }

  -- nothing changed
  pub answered_same : {T : Type 0} (call : Call) (reply : Reply T) (s : StateInner S) → IsState s → ((b : Book) → Shows s b → IsAllowed call reply b s) → IsAnswered call reply s s
  answered_same call reply s state each = record { each = each; state = state }

  pub stays_same : (s : StateInner S) → IsState s → Stays s s
  stays_same s state = record { each = λ b shown. shown; state = state }

  pub never_none : (s : StateInner S) (notes : ℕ → Note) (b : Book) → IsState s → ShowsWith notes s b → is_wanting s.connection ≡ true → s.error ≡ None → ⊥
  never_none s notes b state shown wanting none = false≢true (sym (ap is_some none) ∙ lost_if_wanting s notes b state shown wanting)
