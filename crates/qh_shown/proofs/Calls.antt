-- What the other calls bring: of time, of what is told and sent, of closes, and of the log itself.
use Rattle.std.proofs.Common.{◌≡◌, ℕ, Bool, true, false, ◌||◌, List, [], ◌∷◌, ◌++◌, drop, Option, None, Some, is_some, refl, sym, ap, subst, ◌∙◌}
use Rattle.std.specs.Option.{option_map}
use Rattle.qh_base.specs.declared.connection_error.ConnectionError.TheVariants as error
use Rattle.qh_base.specs.declared.path.Transmit.{Transmit}
use Rattle.qh_base.specs.declared.time.Moment.{Moment}
use Rattle.qh_base.specs.declared.transport_error.TransportError.{TransportError}
use Rattle.qh_book.specs.Items.{bring}
use Rattle.qh_book.specs.Shown.{DatagramBounds, ShowsDatagrams, ShowsStreams}
use Rattle.qh_book.specs.declared.item.Item.TheVariants as item
use Rattle.qh_conn.proofs.LogKept.{Log, logged_on}
use Rattle.qh_conn.specs.Incoming.{IsCloseCalled, IsEventHandled, AreIdsIssued}
use Rattle.qh_conn.specs.Items.{streams_taken}
use Rattle.qh_conn.specs.Outgoing.{IsDataTransmitted, IsStill, IsTransmitted}
use Rattle.qh_conn.specs.Telling.{IsEndpointTold, IsHandshakeTimed, IsTimedOut, IsTold, event_of}
use Rattle.qh_conn.specs.Whole.{IsWhole}
use Rattle.qh_conn.specs.declared.connection.Connection.{Connection}
use Rattle.qh_conn.specs.declared.event.ConnectionEvent.{ConnectionEvent}
use Rattle.qh_conn.specs.declared.event.ConnectionEvent.TheVariants as incoming
use Rattle.qh_conn.specs.declared.event.Event.{Event}
use Rattle.qh_control.specs.Items.{logged, streamed}
use Rattle.qh_control.specs.declared.control.ControlState.{ControlState}
use Rattle.qh_control.specs.declared.event.EndpointEvent.{EndpointEvent}
use Rattle.qh_control.specs.declared.items.ConnectionItem.TheVariants as entry
use Rattle.qh_core.specs.Event.{is_drained}
use Rattle.qh_core.specs.Inner.{is_open}
use Rattle.qh_core.specs.Receiving.{IsFaulted}
use Rattle.qh_core.specs.Sending.{without_close_due}
use Rattle.qh_core.specs.declared.event.Event.{Event as CoreEvent}
use Rattle.qh_core.specs.declared.event.Event.TheVariants as core_event
use Rattle.qh_core.specs.declared.inner.Inner.{Inner}
use Rattle.qh_datagrams.specs.Datagrams.{PlainDatagrams}
use Rattle.qh_handshake.specs.Incoming.{SessionView}
use Rattle.qh_handshake.specs.Moments.{IsTimedOut as IsHandshakeTimedOut}
use Rattle.qh_handshake.specs.declared.handshake.Handshake.{Handshake}
use Rattle.qh_packet.specs.Session.{SealsTag}
use Rattle.qh_shown.proofs.ControlSteps.{all_issued_quiet, IsQuietControl}
use Rattle.qh_shown.proofs.CoreSteps.{CoreQuiet, close_quiet, core_step, drained_quiet, ended, frames_quiet, kept, open_lives, polled_quiet, quiet_by as core_by, quiet_self, step_self, timed_quiet_core}
use Rattle.qh_shown.proofs.Datagrams.{datagram_brings}
use Rattle.qh_shown.proofs.Keeping.{sent_keeps}
use Rattle.qh_shown.proofs.Steps.{Quiet, Step, brings_by, by_core, by_parts, came_still, came_taken, no_longer, open_brings, quiet_brings, quiet_shows, step_by, taken, taken_on}
use Rattle.qh_shown.specs.Brings.{Brings, BringsSome, IsLogging, TellsOf, is_told}
use Rattle.qh_shown.specs.Connections.{bounds_of, is_wanting_in}
use Rattle.qh_shown.specs.Laws.{BookLaws}
use Rattle.qh_streams.specs.Streams.{PlainStreams}
use Rattle.qh_streams.specs.declared.items.Item.{Item}

timed_handshake : (now : ℕ) (old new : Handshake) → IsHandshakeTimedOut now old new → new.peer ≡ old.peer
timed_handshake now old new (IsHandshakeTimedOut.gone none is) = ap (λ (z : Handshake). z.peer) is
timed_handshake now old new (IsHandshakeTimedOut.recovery s mid next there lost probed is) = ap (λ (z : Handshake). z.peer) is

timed_peer : (now : ℕ) (up : Bool) (old new : Handshake) → IsHandshakeTimed now up old new → new.peer ≡ old.peer
timed_peer now up old new (IsHandshakeTimed.lives opened is) = timed_handshake now old new is
timed_peer now up old new (IsHandshakeTimed.shut closed is) = ap (λ (z : Handshake). z.peer) is

true_or : (was : Bool) (due : Bool) → due ≡ true → (was || due) ≡ (true || false)
true_or true due is = refl
true_or false due is = is

told_other : (was : Bool) (told : Option CoreEvent) → is_told was (option_map event_of told) ≡ was
told_other was None = refl
told_other was (Some (core_event.ConnectionLost reason)) = refl
told_other was (Some (core_event.Stream e)) = refl

module _ {S : Type 0} (laws : BookLaws) where
  pub nothing : (c : Connection S) → Brings [] c c
  nothing c = quiet_brings laws c c (by_core c c.core (step_self c.core)) (quiet_self c.core) refl

  same_brings : (old new : Connection S) → new ≡ old → Brings [] old new
  same_brings old new is = brings_by [] old new old is (nothing old)

  -- the end of the 1-RTT packets alone goes on
  core_brings : (c : Connection S) (core : Inner S) → CoreQuiet c.core core → Brings [] c (record c { core = core })
  core_brings c core k = quiet_brings laws c (record c { core = core }) (by_core c core (core_step c.core core k)) k refl

  -- the frames of its own alone do
  control_brings : (c : Connection S) (control : ControlState) → IsQuietControl c.control control → Brings [] c (record c { control = control })
  control_brings c control q =
      let to : Connection S = record c { control = control } in
      quiet_brings laws c to (by_parts c to (step_self c.core) q.datagrams q.bounds refl q.log refl) (quiet_self c.core) refl

  -- ---- closes

  pub closed_brings : (now : Moment) (code : ℕ) (reason : List ℕ) (old new : Connection S) → IsCloseCalled now code reason old new → Brings [] old new
  closed_brings now code reason old new (IsCloseCalled.closed up closed is) =
      brings_by [] old new _ is (core_brings old new.core (core_by old.core new.core _ closed.rest_is (ended old.core _ error.LocallyClosed (open_lives old.core.state up) refl refl)))
  closed_brings now code reason old new (IsCloseCalled.kept shut is) = same_brings old new is

  pub faulted_brings : (now : Moment) (e : TransportError) (old new : Connection S) → IsFaulted now e old.core new.core → new ≡ record old { core = new.core } → is_drained old.core.state ≡ false → Brings [] old new
  faulted_brings now e old new f is lives =
      brings_by [] old new _ is (core_brings old new.core (core_by old.core new.core _ f.closed.rest_is (ended old.core _ (error.TransportError e) lives refl refl)))

  -- ---- events

  ids_brings : (ids : _) (old new : Connection S) → AreIdsIssued ids old new → Brings [] old new
  ids_brings ids old new (AreIdsIssued.announced up is) = brings_by [] old new _ is (control_brings old _ (all_issued_quiet old.control ids))
  ids_brings ids old new (AreIdsIssued.late shut is) = same_brings old new is

  pub event_brings : (v : SessionView S) (e : ConnectionEvent) (old new : Connection S) → IsWhole old → IsLogging old → IsEventHandled v e old new → BringsSome old new
  event_brings v (incoming.Datagram now remote payload) old new w logging is = datagram_brings laws v now payload old new w logging is
  event_brings v (incoming.NewIdentifiers ids now) old new w logging is = record { items = []; brings = ids_brings ids.items old new is }
  event_brings v (incoming.Close now code reason) old new w logging is = record { items = []; brings = closed_brings now code reason old new is }
  event_brings v incoming.Rebind old new w logging is = record { items = []; brings = same_brings old new is }

  -- ---- what is due

  pub timed_brings : (now : ℕ) (old new : Connection S) → IsTimedOut now old new → Brings [] old new
  timed_brings now old new t =
      let k = timed_quiet_core laws now old.core new.core t.core in
      let to : Connection S = record old { handshake = new.handshake; core = new.core; control = record old.control { queue = new.control.queue } } in
      brings_by [] old new to t.rest_is (quiet_brings laws old to (by_parts old to (core_step old.core new.core k) refl refl (timed_peer now (is_open old.core.state) old.handshake new.handshake t.handshake) refl refl) k refl)

  -- ---- what is told

  -- `due` of it is told
  told_of : (told : Option Event) (old new : Connection S) → Quiet old new → CoreQuiet old.core new.core → ((was_told : Bool) → (was_told || old.is_connected_due) ≡ (is_told was_told told || new.is_connected_due)) → TellsOf told old new
  told_of told old new q k due = record {
    shows = λ was_told notes b shown. quiet_shows laws was_told (is_told was_told told) old new notes b q k (due was_told) shown;
    logs = came_still old new q;
    logging = q.logging;
  }

  told_by : (told : Option Event) (old new to : Connection S) → new ≡ to → TellsOf told old to → TellsOf told old new
  told_by told old new to is t = subst (λ (z : Connection S). TellsOf told old z) (sym is) t

  pub told_tells : (told : Option Event) (old new : Connection S) → IsTold old new told → TellsOf told old new
  told_tells _ old new (IsTold.handshake_data due is) =
      let to : Connection S = record old { is_data_due = false } in
      told_by _ old new to is (told_of _ old to (by_parts old to (step_self old.core) refl refl refl refl refl) (quiet_self old.core) (λ was. refl))
  told_tells _ old new (IsTold.connected data_due due is) =
      let to : Connection S = record old { is_connected_due = false } in
      told_by _ old new to is (told_of _ old to (by_parts old to (step_self old.core) refl refl refl refl refl) (quiet_self old.core) (λ was. true_or was old.is_connected_due due))
  told_tells _ old new (IsTold.received data_due connected_due due is) =
      let to : Connection S = record old { control = record old.control { is_datagram_due = false } } in
      told_by _ old new to is (told_of _ old to (by_parts old to (step_self old.core) refl refl refl refl refl) (quiet_self old.core) (λ was. refl))
  told_tells _ old new (IsTold.unblocked data_due connected_due datagram_due due is) =
      let to : Connection S = record old { control = record old.control { is_unblocked_due = false } } in
      told_by _ old new to is (told_of _ old to (by_parts old to (step_self old.core) refl refl refl refl refl) (quiet_self old.core) (λ was. refl))
  told_tells _ old new (IsTold.of_core told data_due connected_due datagram_due unblocked_due polled is) =
      let k = polled_quiet laws told old.core new.core polled in
      let to : Connection S = record old { core = new.core } in
      told_by _ old new to is (told_of _ old to (by_core old new.core (core_step old.core new.core k)) k (λ was. ap (λ (z : Bool). z || old.is_connected_due) (sym (told_other was told))))

  pub endpoint_brings : (told : Option EndpointEvent) (old new : Connection S) → IsEndpointTold old new told → Brings [] old new
  endpoint_brings _ old new (IsEndpointTold.control told are is) = brings_by [] old new _ is (control_brings old _ (record { datagrams = refl; bounds = refl; log = refl }))
  endpoint_brings _ old new (IsEndpointTold.of_core told empty over is) = brings_by [] old new _ is (core_brings old new.core (drained_quiet _ old.core new.core over))

  -- ---- what is sent

  pub still_brings : (old new : Connection S) → IsStill old new → Brings [] old new
  still_brings old new s = brings_by [] old new _ s.rest_is (control_brings old _ (record { datagrams = refl; bounds = refl; log = refl }))

  -- datagrams of the application's went out
  sent_step : (c : Connection S) (core : Inner S) (control : ControlState) (count : ℕ) (next : Bool) (u : _) → CoreQuiet c.core core → is_some c.handshake.peer ≡ true
      → control.datagrams ≡ record { incoming = c.control.datagrams.incoming; outgoing = drop count c.control.datagrams.outgoing; is_send_blocked = false }
      → bounds_of control ≡ bounds_of c.control → control.log ≡ logged c.control.log (streamed core.space.log ++ entry.DatagramsSent count ∷ [])
      → Step (entry.DatagramsSent count ∷ []) c (record c { core = streams_taken c.control.log core; control = control; is_control_next = next; udp_tx = u })
  sent_step c core control count next u k greeted datagrams bounds log =
      let t = taken c.control.log core in
      record {
        front = λ was_told b shown. record { side = shown.side ∙ sym (t.side ∙ k.side); addresses = shown.addresses ∙ sym (t.addresses ∙ k.addresses); connected = shown.connected };
        wanting = λ calm. ap is_wanting_in t.error ∙ ((core_step c.core core k).wanting calm);
        live = λ notes b shown. record {
          streams = subst (λ (s : PlainStreams). ShowsStreams s notes (bring (item.DatagramsSent count) b)) (sym t.streams) (laws.streams core.space.streams notes b (bring (item.DatagramsSent count) b) (laws.goes count b) (k.leads.to notes b shown.streams));
          datagrams = subst (λ (d : PlainDatagrams). ShowsDatagrams d (bounds_of control) (bring (item.DatagramsSent count) b)) (sym datagrams)
              (subst (λ (l : DatagramBounds). ShowsDatagrams (record c.control.datagrams { outgoing = drop count c.control.datagrams.outgoing; is_send_blocked = false }) l (bring (item.DatagramsSent count) b)) (sym bounds)
              (laws.taken c.control.datagrams (bounds_of c.control) b count false shown.datagrams));
          kept = shown.kept;
          ungreeted = λ none. no_longer c.handshake.peer _ greeted none;
        };
        keeps = λ notes b shown. sent_keeps count b;
        logs = ap (λ (z : Log). logged z (streamed (streams_taken c.control.log core).space.log)) log ∙ came_taken c.control.log core (entry.DatagramsSent count ∷ [])
            ∙ ap (λ (z : Option (List Item)). logged (logged c.control.log (streamed z)) (entry.DatagramsSent count ∷ [])) k.log;
        logging = λ logging up met on. taken_on c.control.log core ∙ ap (λ (z : Option (List Item)). is_some z) k.log ∙ logging (k.opened (ap is_open (sym t.state) ∙ up)) met
            (sym (logged_on c.control.log (streamed core.space.log ++ entry.DatagramsSent count ∷ [])) ∙ (ap (λ (z : Log). is_some z) (sym log) ∙ on));
      }

  data_brings : (sealed : SealsTag) (now : Moment) (old new : Connection S) (before after : List ℕ) (t : Transmit) → is_some old.handshake.peer ≡ true → IsDataTransmitted sealed now old new before after t → BringsSome old new
  data_brings sealed now old new before after t greeted (IsDataTransmitted.of_core made bears queue is) =
      let k = frames_quiet laws now old.core new.core _ _ made.bytes.made in
      record { items = []; brings = brings_by [] old new _ is (quiet_brings laws old _ (by_parts old _ (core_step old.core new.core k) refl refl refl refl refl) k refl) }
  data_brings sealed now old new before after t greeted (IsDataTransmitted.control sent made t_is waiting out is) =
      let k = frames_quiet laws now old.core new.core _ _ made.made.bytes.made in
      record { items = []; brings = brings_by [] old new _ is (quiet_brings laws old _ (by_parts old _ (core_step old.core new.core k) refl refl refl refl refl) k refl) }
  data_brings sealed now old new before after t greeted (IsDataTransmitted.datagrams sent frames core none are made t_is queue is) =
      let k = frames_quiet laws now old.core core _ _ made.made.bytes.made in
      record { items = _; brings = open_brings _ old new made.opened (step_by _ old new _ is (sent_step old core _ sent.count false _ k greeted refl refl refl)) }

  pub sent_brings : (sealed : SealsTag) (now : Moment) (old new : Connection S) (before after : List ℕ) (t : Transmit) → IsWhole old → IsTransmitted sealed now old new before after t → BringsSome old new
  sent_brings sealed now old new before after t w (IsTransmitted.initial up made is goes) =
      record { items = []; brings = brings_by [] old new _ is (quiet_brings laws old _ (by_parts old _ (core_step old.core _ (kept old.core)) refl refl (ap (λ (z : Handshake). z.peer) made.new_is) refl refl) (kept old.core) refl) }
  sent_brings sealed now old new before after t w (IsTransmitted.close reason until said early was says made is goes) =
      let k = close_quiet old.core (record old.core { state = without_close_due old.core.state }) refl in
      record { items = []; brings = brings_by [] old new _ is (quiet_brings laws old _ (by_parts old _ (core_step old.core _ k) refl refl (ap (λ (z : Handshake). z.peer) made.new_is) refl refl) k refl) }
  sent_brings sealed now old new before after t w (IsTransmitted.data_packet connected turns carried) = data_brings sealed now old new before after t (w.sound.connected connected).0 carried
