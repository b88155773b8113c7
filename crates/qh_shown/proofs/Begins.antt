-- A connection that is new, and what it went on by before it was taken up.
use Rattle.std.proofs.Common.{◌≡◌, ℕ, true, false, List, [], ◌++◌, Option, Some, None, refl, sym, ap, subst, ◌∙◌}
use Rattle.qh_base.specs.declared.path.FourTuple.{FourTuple}
use Rattle.qh_base.specs.declared.time.Moment.{Moment}
use Rattle.qh_book.specs.Book.{Book, first_book}
use Rattle.qh_book.specs.Shown.{AreFirst, DatagramBounds, ShowsDatagrams, ShowsStreams, no_note}
use Rattle.qh_conn.specs.Greeting.{no_early, or_set}
use Rattle.qh_conn.specs.Items.{first_limits, log_started}
use Rattle.qh_conn.specs.Parameters.{IsFirstCore, core_config, first_control}
use Rattle.qh_conn.specs.declared.config.ConnConfig.{ConnConfig}
use Rattle.qh_conn.specs.declared.connection.Connection.{Connection}
use Rattle.qh_conn.specs.declared.connection.EarlyLimits.{EarlyLimits}
use Rattle.qh_control.specs.Items.{logged}
use Rattle.qh_control.specs.declared.control.ControlState.{ControlState}
use Rattle.qh_control.specs.declared.items.ConnectionItem.{ConnectionItem}
use Rattle.qh_core.specs.declared.config.ConnConfig.{ConnConfig as CoreConfig}
use Rattle.qh_core.specs.declared.inner.Inner.{Inner}
use Rattle.qh_datagrams.specs.Datagrams.{PlainDatagrams}
use Rattle.qh_handshake.specs.declared.handshake.Handshake.{Handshake}
use Rattle.qh_shown.proofs.Books.{brought_both}
use Rattle.qh_shown.proofs.CoreSteps.{quiet_self, step_self}
use Rattle.qh_shown.proofs.Keeping.{uncalled_on}
use Rattle.qh_shown.proofs.Logs.{started_came, started_same, started_shows}
use Rattle.qh_shown.proofs.Steps.{by_parts, quiet_brings}
use Rattle.qh_shown.specs.Brings.{Brings, BringsSome}
use Rattle.qh_shown.specs.Connections.{IsBegun, IsBegunLogged, ShowsConnection, bounds_of, is_wanting_in, opening_book}
use Rattle.qh_shown.specs.Items.{brought}
use Rattle.qh_shown.specs.Kept.{IsUncalled}
use Rattle.qh_shown.specs.Laws.{BookLaws}
use Rattle.qh_space.specs.Space.{first_streams}
use Rattle.qh_spec.specs.declared.sides.Side.{Side}
use Rattle.qh_streams.specs.Streams.{PlainStreams}
use Rattle.qh_streams.specs.declared.frames.StreamLimits.{StreamLimits}

first_unused : (side : Side) (limits : StreamLimits) → AreFirst (first_streams side limits (record { max_data = 0; bidi_local = 0; bidi_remote = 0; uni = 0; max_bidi = 0; max_uni = 0 }))
first_unused side limits = record { sends = λ k. refl; recvs = λ k. refl; bi = refl; uni = refl; first_bi = refl; first_uni = refl; credit_to = refl; taken = refl; unconfirmed = refl }

module _ {S : Type 0} (laws : BookLaws) where
  pub new_begun : (config : ConnConfig) (side : Side) (session : S) (local_id remote_id : List ℕ) (addresses : FourTuple) (now : Moment) (c : Connection S) → IsFirstCore config side session local_id remote_id addresses now c.core
      → c.config ≡ config → c.is_connected_due ≡ false → c.early ≡ no_early → c.control ≡ first_control config local_id remote_id addresses.remote c.control.queue.room → IsBegun c
  new_begun config side session local_id remote_id addresses now c first config_is due early control =
      let core = first.is in
      let limits = config.limits in
      let core_is : c.core.config ≡ core_config config = ap (λ (z : Inner S). z.config) core in
      let side_is : c.core.side ≡ side = ap (λ (z : Inner S). z.side) core in
      let streams : c.core.space.streams ≡ first_streams side limits (record { max_data = 0; bidi_local = 0; bidi_remote = 0; uni = 0; max_bidi = 0; max_uni = 0 }) =
      first.space.streams_are ∙ ap (λ (z : CoreConfig). first_streams side z.limits z.peer) core_is in
      let unused : AreFirst c.core.space.streams = subst (λ (z : PlainStreams). AreFirst z) (sym streams) (first_unused side limits) in
      let stream_side : c.core.space.streams.side ≡ c.core.side = ap (λ (z : PlainStreams). z.side) streams ∙ sym side_is in
      let window : c.core.space.streams.send.send_window ≡ c.config.limits.send_window = ap (λ (z : PlainStreams). z.send.send_window) streams ∙ ap (λ (z : ConnConfig). z.limits.send_window) (sym config_is) in
      let bounds : bounds_of c.control ≡ record { receive = c.config.datagram_receive; send = c.config.datagram_send; most = None } =
      ap (λ (z : ControlState). bounds_of z) control ∙ ap (λ (z : ConnConfig). record { receive = z.datagram_receive; send = z.datagram_send; most = None }) (sym config_is) in
      record {
        items = [];
        shows = λ stable_id. record {
          side = refl;
          addresses = refl;
          connected = sym due;
          drained = λ wanting. let z : false ≡ true = ap (λ (z : Inner S). is_wanting_in z.error) (sym core) ∙ wanting in cc;
          live = λ calm. record {
            streams = subst (λ (z : ℕ). ShowsStreams c.core.space.streams (λ k. no_note) (first_book c.core.side c.core.addresses stable_id z c.config.datagram_receive c.config.datagram_send)) window
                (subst (λ (z : Side). ShowsStreams c.core.space.streams (λ k. no_note) (first_book z c.core.addresses stable_id c.core.space.streams.send.send_window c.config.datagram_receive c.config.datagram_send)) stream_side
                (laws.first c.core.space.streams c.core.addresses stable_id c.config.datagram_receive c.config.datagram_send unused));
            datagrams = subst (λ (z : DatagramBounds). ShowsDatagrams c.control.datagrams z (opening_book c stable_id)) (sym bounds)
                (subst (λ (z : PlainDatagrams). ShowsDatagrams z (record { receive = c.config.datagram_receive; send = c.config.datagram_send; most = None }) (opening_book c stable_id)) (sym (ap (λ (z : ControlState). z.datagrams) control))
                (laws.unsent c.core.side c.core.addresses stable_id c.config.limits.send_window (record { receive = c.config.datagram_receive; send = c.config.datagram_send; most = None }) false refl));
            kept = refl;
            ungreeted = λ unread. record {
              streams = unused;
              side = stream_side;
              window = window ∙ ap (λ (z : ConnConfig). z.limits.send_window) config_is ∙ ap (λ (z : CoreConfig). or_set no_early.send_window z.limits.send_window) (sym core_is)
                  ∙ ap (λ (z : EarlyLimits). or_set z.send_window c.core.config.limits.send_window) (sym early);
              log = first.space.log;
              most = ap (λ (z : ControlState). z.peer_datagram) control;
            };
          };
          emptied = λ wanting. let z : false ≡ true = ap (λ (z : Inner S). is_wanting_in z.error) (sym core) ∙ wanting in cc;
        };
        uncalled = λ stable_id. record { readers = λ k. refl; handles = refl; interests = λ i. refl; stable_id = refl; error = refl; untouched = record { unheld = λ k waits. refl; page = λ k waits. tt } };
      }

  opening_same : (old new : Connection S) (stable_id : ℕ) → new.config ≡ old.config → new.core.side ≡ old.core.side → new.core.addresses ≡ old.core.addresses → opening_book old stable_id ≡ opening_book new stable_id
  opening_same old new stable_id config side addresses =
      ap (λ (z : Side). first_book z old.core.addresses stable_id old.config.limits.send_window old.config.datagram_receive old.config.datagram_send) (sym side)
      ∙ ap (λ (z : FourTuple). first_book new.core.side z stable_id old.config.limits.send_window old.config.datagram_receive old.config.datagram_send) (sym addresses)
      ∙ ap (λ (z : ConnConfig). first_book new.core.side new.core.addresses stable_id z.limits.send_window z.datagram_receive z.datagram_send) (sym config)

  pub begun_on : (old new : Connection S) → IsBegun old → BringsSome old new → new.config ≡ old.config → new.core.side ≡ old.core.side → new.core.addresses ≡ old.core.addresses → IsBegun new
  begun_on old new begun some config side addresses = record {
    items = begun.items ++ some.items;
    shows = λ stable_id.
        subst (λ (z : Book). ShowsConnection false new (λ k. no_note) (brought (begun.items ++ some.items) z)) (opening stable_id)
        (subst (λ (z : Book). ShowsConnection false new (λ k. no_note) z) (sym (brought_both begun.items some.items (opening_book old stable_id)))
        (some.brings.shows false (λ k. no_note) (brought begun.items (opening_book old stable_id)) (begun.shows stable_id)));
    uncalled = λ stable_id.
        let before = brought begun.items (opening_book old stable_id) in
        subst (λ (z : Book). IsUncalled stable_id (brought (begun.items ++ some.items) z)) (opening stable_id)
        (subst (λ (z : Book). IsUncalled stable_id z) (sym (brought_both begun.items some.items (opening_book old stable_id)))
        (uncalled_on stable_id before (brought some.items before) (begun.uncalled stable_id) (some.brings.keeps false (λ k. no_note) before (begun.shows stable_id))));
  }
    where
      opening : (stable_id : ℕ) → opening_book old stable_id ≡ opening_book new stable_id
      opening stable_id = opening_same old new stable_id config side addresses

  -- ---- with its log

  pub new_logged : (config : ConnConfig) (side : Side) (session : S) (local_id remote_id : List ℕ) (addresses : FourTuple) (now : Moment) (c : Connection S) → IsFirstCore config side session local_id remote_id addresses now c.core
      → c.config ≡ config → c.is_connected_due ≡ false → c.early ≡ no_early → c.handshake.peer ≡ None → c.control ≡ first_control config local_id remote_id addresses.remote c.control.queue.room → IsBegunLogged (log_started c)
  unfolding new_begun
  new_logged config side session local_id remote_id addresses now c first config_is due early unread control =
      let h = new_begun config side session local_id remote_id addresses now c first config_is due early control in
      let same = started_same c in
      record {
        begun = record {
          items = [];
          shows = λ stable_id. subst (λ (z : Book). ShowsConnection false (log_started c) (λ k. no_note) z) (opening_same c (log_started c) stable_id refl same.0 same.1) (started_shows false c (λ k. no_note) (opening_book c stable_id) (h.shows stable_id));
          uncalled = λ stable_id. subst (λ (z : Book). IsUncalled stable_id z) (opening_same c (log_started c) stable_id refl same.0 same.1) (h.uncalled stable_id);
        };
        logged = started_came c.handshake.peer c.core (first_limits c.core.space.streams.peer) unread first.space.log;
      }

  pub logged_on : (old new : Connection S) → IsBegunLogged old → BringsSome old new → new.config ≡ old.config → new.core.side ≡ old.core.side → new.core.addresses ≡ old.core.addresses → IsBegunLogged new
  unfolding begun_on
  logged_on old new h some config side addresses = record {
    begun = begun_on old new h.begun some config side addresses;
    logged = some.brings.logs ∙ ap (λ (z : Option (List ConnectionItem)). logged z some.items) h.logged;
  }

  pub handshake_brings : (c : Connection S) (handshake : Handshake) → handshake.peer ≡ c.handshake.peer → Brings [] c (record c { handshake = handshake })
  handshake_brings c handshake peer = let to : Connection S = record c { handshake = handshake } in quiet_brings laws c to (by_parts c to (step_self c.core) refl refl peer refl refl) (quiet_self c.core) refl
