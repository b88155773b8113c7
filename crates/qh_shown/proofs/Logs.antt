-- That a log is taken or started changes nothing that a book shows.
use Rattle.std.proofs.Common.{◌≡◌, ℕ, Bool, true, false, if◌then◌else◌, List, [], ◌++◌, Option, None, Some, is_some, refl, sym, ap, subst, ◌∙◌}
use Rattle.std.proofs.lemmas.Option.{none-some}
use Rattle.std.specs.Option.{option_map}
use Rattle.qh_book.specs.Book.{Book}
use Rattle.qh_book.specs.Shown.{AreFirst, Note, ShowsStreams}
use Rattle.qh_conn.proofs.LogKept.{Log, logged_on}
use Rattle.qh_conn.specs.Greeting.{or_set}
use Rattle.qh_conn.specs.Items.{items_taken, log_started, loss, loss_noted, streams_taken}
use Rattle.qh_conn.specs.declared.connection.Connection.{Connection}
use Rattle.qh_control.specs.Items.{logged, streamed}
use Rattle.qh_control.specs.declared.items.ConnectionItem.{ConnectionItem}
use Rattle.qh_core.specs.Event.{is_drained}
use Rattle.qh_core.specs.Inner.{is_open, with_space}
use Rattle.qh_core.specs.declared.config.ConnConfig.{ConnConfig as CoreConfig}
use Rattle.qh_core.specs.declared.inner.Inner.{Inner}
use Rattle.qh_hello.specs.declared.transport_parameters.TransportParameters.{TransportParameters}
use Rattle.qh_shown.proofs.Books.{some_map}
use Rattle.qh_shown.proofs.Steps.{IsTaken, taken, taken_on}
use Rattle.qh_shown.specs.Brings.{IsLogging}
use Rattle.qh_shown.specs.Connections.{ShowsConnection, is_wanting_in}
use Rattle.qh_streams.specs.Streams.{PlainStreams}
use Rattle.qh_streams.specs.declared.items.Item.{Item}

module _ {S : Type 0} where
  -- the logs alone changed, and that of the streams is off still before the peer's hello was read
  log_shows : (was_told : Bool) (c : Connection S) (core : Inner S) (log : Log) (lost : Bool) (notes : ℕ → Note) (b : Book) → IsTaken c.core core → (c.handshake.peer ≡ None → c.core.space.log ≡ None → core.space.log ≡ None)
      → ShowsConnection was_told c notes b → ShowsConnection was_told (record c { core = core; control = record c.control { log = log }; is_lost_logged = lost }) notes b
  log_shows was_told c core log lost notes b t off shown =
      let same : is_wanting_in core.error ≡ is_wanting_in c.core.error = ap is_wanting_in t.error in
      record {
        side = shown.side ∙ sym t.side;
        addresses = shown.addresses ∙ sym t.addresses;
        connected = shown.connected;
        drained = λ wanting. ap is_drained t.state ∙ shown.drained (sym same ∙ wanting);
        live = λ calm. let l = shown.live (sym same ∙ calm) in record {
          streams = subst (λ (z : PlainStreams). ShowsStreams z notes b) (sym t.streams) l.streams;
          datagrams = record { datagrams = l.datagrams.datagrams; queued = l.datagrams.queued; receive = l.datagrams.receive; send = l.datagrams.send; most = l.datagrams.most };
          kept = l.kept;
          ungreeted = λ unread. let u = l.ungreeted unread in record {
            streams = subst (λ (z : PlainStreams). AreFirst z) (sym t.streams) u.streams;
            side = ap (λ (z : PlainStreams). z.side) t.streams ∙ u.side ∙ sym t.side;
            window = ap (λ (z : PlainStreams). z.send.send_window) t.streams ∙ u.window ∙ ap (λ (z : CoreConfig). or_set c.early.send_window z.limits.send_window) (sym t.config);
            log = off unread u.log;
            most = u.most;
          };
        };
        emptied = λ wanting. let e = shown.emptied (sym same ∙ wanting) in record { emptied = e.emptied; sends = e.sends; recvs = e.recvs; accepted = e.accepted; datagrams = e.datagrams; queued = e.queued; receive = e.receive; send = e.send; most = e.most };
      }

  off_still : (log : Log) (core : Inner S) → core.space.log ≡ None → (streams_taken log core).space.log ≡ None
  off_still None core off = off
  off_still (Some items) core off = ap (λ (z : Option (List Item)). option_map (λ (y : List Item). []) z) off

  pub taken_shows : (was_told : Bool) (c : Connection S) (notes : ℕ → Note) (b : Book) → ShowsConnection was_told c notes b → ShowsConnection was_told (items_taken c) notes b
  taken_shows was_told c notes b shown = log_shows was_told c _ _ _ notes b (taken c.control.log c.core) (λ unread off. off_still c.control.log c.core off) shown

  pub noted_shows : (was_told : Bool) (c : Connection S) (notes : ℕ → Note) (b : Book) → ShowsConnection was_told c notes b → ShowsConnection was_told (loss_noted c) notes b
  noted_shows was_told c notes b shown = log_shows was_told c _ _ _ notes b (taken c.control.log c.core) (λ unread off. off_still c.control.log c.core off) shown

  -- the log of the streams is on, if the end was greeted
  -- the log of the streams is on, if the end was greeted
  started_core : (greeted : Bool) (core : Inner S) → IsTaken core (if greeted then with_space core (record core.space { log = Some [] }) else core)
  started_core true core = record { side = refl; addresses = refl; state = refl; error = refl; config = refl; streams = refl }
  started_core false core = record { side = refl; addresses = refl; state = refl; error = refl; config = refl; streams = refl }

  started_off : (peer : Option TransportParameters) (core : Inner S) → peer ≡ None → core.space.log ≡ None → (if is_some peer then with_space core (record core.space { log = Some [] }) else core).space.log ≡ None
  started_off None core unread off = off
  started_off (Some p) core unread off = absurd (none-some p (sym unread))

  pub started_shows : (was_told : Bool) (c : Connection S) (notes : ℕ → Note) (b : Book) → ShowsConnection was_told c notes b → ShowsConnection was_told (log_started c) notes b
  started_shows was_told c notes b shown = log_shows was_told c _ _ c.is_lost_logged notes b (started_core (is_some c.handshake.peer) c.core) (λ unread off. started_off c.handshake.peer c.core unread off) shown

  -- an end that wasn't greeted has an empty log then
  pub started_came : (peer : Option TransportParameters) (core : Inner S) (limits : List ConnectionItem) → peer ≡ None → core.space.log ≡ None
      → logged (Some (if is_some peer then limits else [])) (streamed (if is_some peer then with_space core (record core.space { log = Some [] }) else core).space.log) ≡ Some []
  started_came None core limits unread off = ap (λ (z : Option (List Item)). logged (Some []) (streamed z)) off
  started_came (Some p) core limits unread off = absurd (none-some p (sym unread))

  pub started_same : (c : Connection S) → (log_started c).core.side ≡ c.core.side × (log_started c).core.addresses ≡ c.core.addresses
  started_same c = let t = started_core (is_some c.handshake.peer) c.core in (t.side, t.addresses)

  -- ---- the log of the streams stays on

  taken_state : (log : Log) (core : Inner S) → (streams_taken log core).state ≡ core.state
  taken_state log core = (taken log core).state

  pub taken_logging : (c : Connection S) → IsLogging c → IsLogging (items_taken c)
  taken_logging c logging up greeted on = taken_on c.control.log c.core ∙ logging (ap is_open (sym (taken_state c.control.log c.core)) ∙ up) greeted (sym (some_map (λ (z : List ConnectionItem). []) c.control.log) ∙ on)

  pub noted_logging : (c : Connection S) → IsLogging c → IsLogging (loss_noted c)
  noted_logging c logging up greeted on =
      taken_on c.control.log c.core ∙ logging (ap is_open (sym (taken_state c.control.log c.core)) ∙ up) greeted (sym (logged_on c.control.log (streamed c.core.space.log ++ loss c.is_lost_logged c.core.error)) ∙ on)

  started_on : (peer : Option TransportParameters) (core : Inner S) → is_some peer ≡ true → is_some (if is_some peer then with_space core (record core.space { log = Some [] }) else core).space.log ≡ true
  started_on None core greeted = let z : false ≡ true = greeted in cc
  started_on (Some p) core greeted = refl

  pub started_logging : (c : Connection S) → IsLogging (log_started c)
  started_logging c up greeted on = started_on c.handshake.peer c.core greeted
