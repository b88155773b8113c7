-- The first state of a connection, and what the endpoint is told of one.
use Rattle.std.proofs.Common.{◌≡◌, ℕ, Bool, true, false, not, ◌&&◌, List, [], ◌++◌, map, Option, Some, None, is_some, refl, sym, ap, subst, ◌∙◌}
use Rattle.std.specs.List.{list_any}
use Rattle.qh_base.specs.declared.connection_error.ConnectionError.{ConnectionError}
use Rattle.qh_book.specs.Book.{Book}
use Rattle.qh_book.specs.Interests.{is_same, settled, waits}
use Rattle.qh_book.specs.Items.{bring_all, is_memory, with_loss}
use Rattle.qh_book.specs.Shown.{Note, no_note}
use Rattle.qh_book.specs.Step.{driven}
use Rattle.qh_book.specs.declared.interest.Interest.{Interest}
use Rattle.qh_conn.specs.Telling.{IsEndpointTold}
use Rattle.qh_conn.specs.Whole.{IsWhole}
use Rattle.qh_conn.specs.declared.connection.Connection.{Connection}
use Rattle.qh_control.specs.declared.event.EndpointEvent.{EndpointEvent}
use Rattle.qh_core.specs.Event.{IsDrainedTold}
use Rattle.qh_core.specs.Inner.{is_open}
use Rattle.qh_core.specs.declared.event.EndpointEvent.{EndpointEvent as CoreEndpointEvent}
use Rattle.qh_core.specs.declared.inner.Inner.{Inner}
use Rattle.qh_core.specs.declared.state.State.{State as CoreState}
use Rattle.qh_quinn.proofs.StatesKept.{connection_beside, state_by}
use Rattle.qh_quinn.proofs.TakingUp.{bring_behind, lives_on}
use Rattle.qh_quinn.proofs.Tellings.{Tells, told_logging, told_logs, told_named, told_shows, told_state}
use Rattle.qh_quinn.specs.Acting.{IsChanged}
use Rattle.qh_quinn.specs.Losses.{lost_items}
use Rattle.qh_quinn.specs.Readers.{HoldsReader, reader_in}
use Rattle.qh_quinn.specs.Recording.{IsUnused}
use Rattle.qh_quinn.specs.States.{IsState, Shows, ShowsWith}
use Rattle.qh_quinn.specs.Telling.{AreTold}
use Rattle.qh_quinn.specs.Waiting.{interests_in, is_among}
use Rattle.qh_quinn.specs.declared.inner.StateInner.{StateInner}
use Rattle.qh_quinn.specs.declared.readers.Reader.{Reader}
use Rattle.qh_shown.specs.Brings.{Brings, IsLogging}
use Rattle.qh_shown.specs.Connections.{IsBegun, IsBegunLogged, ShowsConnection, is_wanting, is_wanting_in, opening_book}
use Rattle.qh_shown.specs.Items.{brought, item_of}

lost_by_core : (error : Option ConnectionError) (up : Bool) → (up ≡ true → error ≡ None) → (up ≡ false → is_some error ≡ true) → is_some error ≡ not up
lost_by_core error true lives lost = ap is_some (lives refl)
lost_by_core error false lives lost = lost refl

unheld : (w : Bool) (reader : Option Reader) (held : Bool) (note : Note) (page : _) → reader ≡ None → held ≡ false → HoldsReader w reader held note page
unheld w reader held note page none off = rw (none, off) tt

lost_as : (e : ConnectionError) (b : Book) → is_memory e ≡ false → with_loss e b ≡ record b { error = Some e }
lost_as e b calm = rw calm refl

module _ {S : Type 0} where
  -- a state around a connection, of which nothing was done yet
  pub record IsAround (c : Connection S) (stable_id : ℕ) (s : StateInner S) : Type 0 where
    pub stable_id_is : s.stable_id ≡ stable_id
    pub error : s.error ≡ c.core.error
    pub handles : s.handles ≡ 1
    pub readers : (k : ℕ) → reader_in s.readers k ≡ None
    pub waiting : interests_in s.waiting.items ≡ []
    pub told : AreTold false c s.is_connected s.connection

  first_shows : Tells S → (c : Connection S) (stable_id : ℕ) (s : StateInner S) (h : IsBegun c) → IsAround c stable_id s → ShowsWith (λ k. no_note) s (record (brought h.items (opening_book c stable_id)) { error = c.core.error })
  first_shows law c stable_id s h around =
      let b = brought h.items (opening_book c stable_id) in
      let u = h.uncalled stable_id in
      record {
        connection = connection_beside s.is_connected s.connection (λ k. no_note) b (told_shows law false c s.is_connected s.connection around.told (λ k. no_note) b (h.shows stable_id));
        readers = λ k. unheld (is_wanting s.connection) (reader_in s.readers k) (b.readers k) no_note (b.recvs k) (around.readers k) (u.readers k);
        untouched = record { unheld = u.untouched.unheld; page = u.untouched.page };
        stable_id = u.stable_id ∙ sym around.stable_id_is;
        error = sym around.error;
        handles = u.handles ∙ sym around.handles;
        interests = λ i. u.interests i ∙ sym (ap (λ (z : List _). list_any (λ (j : _). is_same j i) z) around.waiting);
      }

  pub first_state : Tells S → (c : Connection S) (stable_id : ℕ) (s : StateInner S) → IsBegun c → IsLogging c → IsAround c stable_id s → IsWhole s.connection → s.connection.is_connected_due ≡ false
      → (is_open c.core.state ≡ true → c.core.error ≡ None) → (is_open c.core.state ≡ false → is_some c.core.error ≡ true) → IsState s
  first_state law c stable_id s h logging around whole due lives lost =
      let state = told_state false c s.is_connected s.connection around.told in
      record {
        whole = whole;
        lost = ap is_some around.error ∙ lost_by_core c.core.error (is_open c.core.state) lives lost ∙ ap (λ (z : CoreState). not (is_open z)) (sym state.0);
        told = due;
        logging = told_logging law false c s.is_connected s.connection around.told logging;
        book = record (brought h.items (opening_book c stable_id)) { error = c.core.error };
        shown = record { notes = λ k. no_note; shows = first_shows law c stable_id s h around };
      }

  pub first_is : Tells S → (c : Connection S) (stable_id : ℕ) (s : StateInner S) (h : IsBegun c) → IsAround c stable_id s → Shows s (record (brought h.items (opening_book c stable_id)) { error = c.core.error })
  first_is law c stable_id s h around = record { notes = λ k. no_note; shows = first_shows law c stable_id s h around }

  -- ---- one whose log was on from the first may keep its history

  -- no call waits, so none is woken
  settled_shows : (notes : ℕ → Note) (s : StateInner S) (b : Book) → ((i : Interest) → b.interests i ≡ false) → ShowsWith notes s b → ShowsWith notes s (settled b)
  settled_shows notes s b none h = record {
    connection = connection_beside s.is_connected s.connection notes b h.connection;
    readers = h.readers;
    untouched = record { unheld = h.untouched.unheld; page = h.untouched.page };
    stable_id = h.stable_id;
    error = h.error;
    handles = h.handles;
    interests = λ i. ap (λ (z : Bool). z && waits b i) (none i) ∙ sym (none i) ∙ h.interests i;
  }

  lost_shows : (notes : ℕ → Note) (s : StateInner S) (error : Option ConnectionError) (b : Book) → is_wanting_in error ≡ false → b.error ≡ None → ((i : Interest) → b.interests i ≡ false) → ShowsWith notes s (record b { error = error })
      → ShowsWith notes s (settled (bring_all (lost_items error) b))
  lost_shows notes s None b calm kept none h = settled_shows notes s b none (subst (λ (z : Option ConnectionError). ShowsWith notes s (record b { error = z })) (sym kept) h)
  lost_shows notes s (Some e) b calm kept none h = subst (λ (z : Book). ShowsWith notes s (settled z)) (sym (lost_as e b calm)) (settled_shows notes s (record b { error = Some e }) none h)

  opened_same : (c to : Connection S) (stable_id id : ℕ) → (to.config ≡ c.config) × (to.core.side ≡ c.core.side) × (to.core.addresses ≡ c.core.addresses) → id ≡ stable_id → opening_book c stable_id ≡ opening_book to id
  opened_same c to stable_id id named same = rw (named.0, named.1, named.2, same) refl

  pub first_unused : Tells S → (c : Connection S) (stable_id : ℕ) (s : StateInner S) → IsBegunLogged c → is_wanting c ≡ false → IsAround c stable_id s → IsUnused s
  first_unused law c stable_id s h calm around =
      let items = h.begun.items in
      let opened = opening_book c stable_id in
      let u = h.begun.uncalled stable_id in
      let led = lost_shows (λ k. no_note) s c.core.error (brought items opened) calm u.error u.interests (first_shows law c stable_id s h.begun around) in
      let all = subst (λ (z : Book). ShowsWith (λ k. no_note) s (settled z)) (sym (bring_behind (map item_of items) (lost_items c.core.error) opened)) led in
      record {
        items = items;
        logged = told_logs law false c s.is_connected s.connection around.told ∙ h.logged;
        shows = record {
          notes = λ k. no_note;
          shows = subst (λ (z : Option ConnectionError). ShowsWith (λ k. no_note) s (driven (map item_of items ++ lost_items z) (opening_book s.connection s.stable_id))) (sym around.error)
              (subst (λ (z : Book). ShowsWith (λ k. no_note) s (driven (map item_of items ++ lost_items c.core.error) z)) (opened_same c s.connection stable_id s.stable_id (told_named false c s.is_connected s.connection around.told) around.stable_id_is) all);
        };
      }

  -- an event was kept for the driver
  pub pushed : (old new : StateInner S) → new ≡ record old { events = new.events; driver = new.driver } → IsState old → IsState new
  pushed old new is h =
      let shows = h.shown.shows in
      subst (λ (z : StateInner S). IsState z) (sym is)
      (record {
        whole = h.whole;
        lost = h.lost;
        told = h.told;
        logging = h.logging;
        book = h.book;
        shown = record {
          notes = h.shown.notes;
          shows = record {
            connection = shows.connection;
            readers = shows.readers;
            untouched = shows.untouched;
            stable_id = shows.stable_id;
            error = shows.error;
            handles = shows.handles;
            interests = shows.interests;
          };
        };
      })

  -- ---- what the endpoint is told

  drained_told : (old new : Inner S) (told : Option CoreEndpointEvent) → IsDrainedTold old new told → new.state ≡ old.state
  drained_told old new told (IsDrainedTold.drained is untold rest) = ap (λ (z : Inner S). z.state) rest
  drained_told old new told (IsDrainedTold.none why rest) = ap (λ (z : Inner S). z.state) rest

  endpoint_state : (old new : Connection S) (told : Option EndpointEvent) → IsEndpointTold old new told → (new.core.state ≡ old.core.state) × (new.is_connected_due ≡ old.is_connected_due)
  endpoint_state old new told (IsEndpointTold.control event is rest) = (ap (λ (z : Connection S). z.core.state) rest, ap (λ (z : Connection S). z.is_connected_due) rest)
  endpoint_state old new told (IsEndpointTold.of_core event none is rest) = (drained_told old.core new.core event is, ap (λ (z : Connection S). z.is_connected_due) rest)

  pub endpoint_kept : (old new : StateInner S) (told : Option EndpointEvent) → Brings [] old.connection new.connection → IsState old → IsWhole new.connection → new ≡ record old { connection = new.connection } → IsEndpointTold old.connection new.connection told
      → IsChanged (λ b. b) old new
  endpoint_kept old new told brings state whole is told_is =
      let same = endpoint_state old.connection new.connection told told_is in
      let shows : (b : Book) → Shows old b → Shows new b = λ b h. record {
        notes = h.notes;
        shows = lives_on [] old new new.connection h.notes b
            (record {
              readers = ap (λ (z : StateInner S). z.readers) is;
              stable_id = ap (λ (z : StateInner S). z.stable_id) is;
              handles = ap (λ (z : StateInner S). z.handles) is;
              interests = λ i. ap (λ (z : StateInner S). is_among i z.waiting.items) is;
            })
            brings h.shows (λ c shown. subst (λ (z : Bool). ShowsConnection z new.connection h.notes c) (sym (ap (λ (z : StateInner S). z.is_connected) is)) shown) refl (ap (λ (z : StateInner S). z.error) is);
      } in
      record {
        each = shows;
        state = state_by old new state whole (ap is_open same.0) same.1 (brings.logging state.logging) (ap (λ (z : StateInner S). z.error) is) state.book (shows state.book state.shown);
      }
