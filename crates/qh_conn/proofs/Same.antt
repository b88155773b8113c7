-- What of a connection stays as it is behind each call of its parts (RFC 9000, sections 5.1, 7.2, 7.3 and 10.2).
use Rattle.std.proofs.Common.{◌≡◌, ℕ, Bool, true, false, List, length, Option, None, Some, is_some, refl, sym, ap, subst, ◌∙◌}
use Rattle.std.proofs.lemmas.Bool.{both_ways}
use Rattle.std.proofs.lemmas.Option.{none-some}
use Rattle.qh_base.specs.declared.connection_error.ConnectionError.{ConnectionError}
use Rattle.qh_base.specs.declared.connection_error.ConnectionError.TheVariants.{TransportError as Fault}
use Rattle.qh_base.specs.declared.time.Moment.{Moment}
use Rattle.qh_conn.specs.Items.{noted_in, streams_taken}
use Rattle.qh_conn.specs.Same.{IsSameConnection, IsSameControl, dropped}
use Rattle.qh_conn.specs.declared.connection.Connection.{Connection}
use Rattle.qh_cids.specs.CidQueue.{PlainCids}
use Rattle.qh_cids.specs.CidState.{PlainState}
use Rattle.qh_control.specs.Queue.{PlainQueue}
use Rattle.qh_control.specs.declared.control.ControlState.{ControlState}
use Rattle.qh_control.specs.declared.event.EndpointEvent.{EndpointEvent as ControlEvent}
use Rattle.qh_control.specs.declared.items.ConnectionItem.{ConnectionItem}
use Rattle.qh_datagrams.specs.Datagrams.{PlainDatagrams}
use Rattle.qh_core.specs.Event.{IsDrainedTold, IsPolledEvent}
use Rattle.qh_core.specs.Inner.{IsFailedBy, is_open}
use Rattle.qh_core.specs.Made.{AreMadeLocally, AreSteps, IsLocalCall, IsMadeLocally, IsStreamCall, IsTurned}
use Rattle.qh_core.specs.Receiving.{GoesOnWith, IsClosedHeard, IsClosedWith, IsDatagramTaken, IsDrainingFrom, IsFaulted, IsPacketHandled}
use Rattle.qh_core.specs.Sending.{AreFramesMade, without_close_due}
use Rattle.qh_core.specs.Streams.{IsWriteRefused}
use Rattle.qh_core.specs.Timers.{IsTimedOut}
use Rattle.qh_core.specs.declared.config.ConnConfig.{ConnConfig as CoreConfig}
use Rattle.qh_core.specs.declared.event.EndpointEvent.{EndpointEvent}
use Rattle.qh_core.specs.declared.event.Event.{Event}
use Rattle.qh_core.specs.declared.idle.IdleTimer.{IdleTimer}
use Rattle.qh_core.specs.declared.inner.Inner.{Inner}
use Rattle.qh_core.specs.declared.state.Close.{Close as CloseReason}
use Rattle.qh_core.specs.declared.state.State.{State}
use Rattle.qh_core.specs.declared.state.State.TheVariants.{Established, Closed, Draining, Drained}
use Rattle.qh_core.specs.declared.stats.UdpStats.{UdpStats}
use Rattle.qh_half.specs.declared.fault.WriteFault.{WriteFault}
use Rattle.qh_handshake.proofs.GoingOn.{both_go, dropped_goes, same_goes}
use Rattle.qh_handshake.specs.GoesOn.{GoesOn}
use Rattle.qh_handshake.specs.Handshake.{dropping}
use Rattle.qh_handshake.specs.declared.handshake.Handshake.{Handshake}
use Rattle.qh_packet.specs.Session.{AcceptsTag}
use Rattle.qh_space.specs.declared.data_space.DataSpace.{DataSpace}
use Rattle.qh_spec.specs.Transcript.{Act}

told_shut : (s : State) → is_open s ≡ false → is_open (without_close_due s) ≡ false
told_shut Established shut = shut
told_shut (Closed reason is_due until) shut = shut
told_shut (Draining until) shut = shut
told_shut Drained shut = shut

-- what was there once is there still
pub there_still : {A : Type 0} (old new : Option A) → ((x : A) → old ≡ Some x → new ≡ Some x) → is_some old ≡ true → is_some new ≡ true
there_still None new keeps some = absurd (both_ways false refl some)
there_still (Some x) new keeps some = ap (λ (z : Option _). is_some z) (keeps x refl)

-- what comes in and is as before was so between
between : {A : Type 0} (old mid new : Option A) → ((x : A) → old ≡ Some x → mid ≡ Some x) → ((x : A) → mid ≡ Some x → new ≡ Some x) → new ≡ old → mid ≡ old
between None None new first next is = refl
between None (Some x) new first next is = absurd (none-some x (sym is ∙ next x refl))
between (Some x) mid new first next is = first x refl

-- ---- the frames of its own

-- what this end said of itself stays of them
pub record KeepsOwn (old new : ControlState) : Type 0 where
  pub id_len : new.own_ids.id_len ≡ old.own_ids.id_len
  pub remote : new.remote ≡ old.remote
  pub receives : new.datagram_receive ≡ old.datagram_receive
  pub room : new.datagram_send ≡ old.datagram_send

-- and what its peer said, whether it was greeted or wasn't
pub record ControlStays (old new : ControlState) : Type 0 where
  pub own : KeepsOwn old new
  pub peers : (new.peer_datagram ≡ old.peer_datagram) × (new.id_limit ≡ old.id_limit)

pub control_by : (old new to : ControlState) → new ≡ to → ControlStays old to → ControlStays old new
control_by old new to is stays = subst (λ (z : ControlState). ControlStays old z) (sym is) stays

-- its ids, its queue, its token, its datagrams, its log and what is told of it alone changed
pub control_kept : (s : ControlState) {ids : PlainCids} {own_ids : PlainState} {queue : PlainQueue} {token : Option (List ℕ)} {datagrams : PlainDatagrams} {due unblocked : Bool} {events : List ControlEvent}
    {log : Option (List ConnectionItem)} → own_ids.id_len ≡ s.own_ids.id_len
    → ControlStays s (record s { ids = ids; own_ids = own_ids; queue = queue; token = token; datagrams = datagrams; is_datagram_due = due; is_unblocked_due = unblocked; endpoint_events = events; log = log })
control_kept s long = record { own = record { id_len = long; remote = refl; receives = refl; room = refl }; peers = (refl, refl) }

-- the same, of which its own ids stay
pub control_rest : (s : ControlState) {ids : PlainCids} {queue : PlainQueue} {token : Option (List ℕ)} {datagrams : PlainDatagrams} {due unblocked : Bool} {events : List ControlEvent} {log : Option (List ConnectionItem)}
    → ControlStays s (record s { ids = ids; queue = queue; token = token; datagrams = datagrams; is_datagram_due = due; is_unblocked_due = unblocked; endpoint_events = events; log = log })
control_rest s = control_kept s refl

-- the end is greeted
pub greeted_own : (s : ControlState) {ids : PlainCids} {limit : ℕ} {most : Option ℕ} {events : List ControlEvent} {log : Option (List ConnectionItem)}
    → KeepsOwn s (record s { ids = ids; id_limit = limit; peer_datagram = most; endpoint_events = events; log = log })
greeted_own s = record { id_len = refl; remote = refl; receives = refl; room = refl }

pub own_by : (old new to : ControlState) → new ≡ to → KeepsOwn old to → KeepsOwn old new
own_by old new to is own = subst (λ (z : ControlState). KeepsOwn old z) (sym is) own

pub control_same : (b : Bool) (old new : ControlState) → ControlStays old new → IsSameControl b old new
control_same b old new stays = record { id_len = stays.own.id_len; remote = stays.own.remote; receives = stays.own.receives; room = stays.own.room; settled = λ _. stays.peers }

pub both_control : (first next : Bool) (old mid new : ControlState) → IsSameControl first old mid → IsSameControl next mid new → (first ≡ true → next ≡ true) → IsSameControl first old new
both_control first next old mid new p q goes = record {
  id_len = q.id_len ∙ p.id_len;
  remote = q.remote ∙ p.remote;
  receives = q.receives ∙ p.receives;
  room = q.room ∙ p.room;
  settled = λ was. let later = q.settled (goes was) in let sooner = p.settled was in (later.0 ∙ sooner.0, later.1 ∙ sooner.1);
}

module _ {S : Type 0} where
  -- ---- the end of the 1-RTT packets

  -- What of it stays as it is behind each call, but for `greet`.
  pub record Stays (old new : Inner S) : Type 0 where
    pub side : new.side ≡ old.side
    pub local_id : new.local_id ≡ old.local_id
    pub remote_length : length new.remote_id ≡ length old.remote_id
    pub config : new.config ≡ old.config
    pub session : new.session ≡ old.session
    pub addresses : new.addresses ≡ old.addresses
    pub ended : is_open old.state ≡ false → is_open new.state ≡ false

  renamed : (c : Inner S) {id : List ℕ} {space : DataSpace} {idle : IdleTimer} {state : State} {error : Option ConnectionError} {told drained : Bool} {out came : UdpStats} → length id ≡ length c.remote_id
      → (is_open c.state ≡ false → is_open state ≡ false)
      → Stays c (record c { remote_id = id; space = space; idle = idle; state = state; error = error; is_lost_told = told; is_drained_told = drained; udp_tx = out; udp_rx = came })
  renamed c long shut = record { side = refl; local_id = refl; remote_length = long; config = refl; session = refl; addresses = refl; ended = shut }

  -- its space, its moments, its state and its counts alone changed
  kept : (c : Inner S) {space : DataSpace} {idle : IdleTimer} {state : State} {error : Option ConnectionError} {told drained : Bool} {out came : UdpStats} → (is_open c.state ≡ false → is_open state ≡ false)
      → Stays c (record c { space = space; idle = idle; state = state; error = error; is_lost_told = told; is_drained_told = drained; udp_tx = out; udp_rx = came })
  kept c shut = renamed c refl shut

  pub unchanged : (c : Inner S) → Stays c c
  unchanged c = kept c (λ shut. shut)

  pub by : (old new c : Inner S) → new ≡ c → Stays old c → Stays old new
  by old new c is stays = subst (λ (z : Inner S). Stays old z) (sym is) stays

  -- it is as open as before
  as_open : (old new : Inner S) {space : DataSpace} {idle : IdleTimer} {error : Option ConnectionError} {told drained : Bool} {out came : UdpStats}
      → new ≡ record old { space = space; idle = idle; error = error; is_lost_told = told; is_drained_told = drained; udp_tx = out; udp_rx = came } → Stays old new
  as_open old new is = by old new _ is (kept old (λ shut. shut))

  -- it ended
  shut : (old new : Inner S) {space : DataSpace} {idle : IdleTimer} {state : State} {error : Option ConnectionError} {told drained : Bool} {out came : UdpStats} → is_open state ≡ false
      → new ≡ record old { space = space; idle = idle; state = state; error = error; is_lost_told = told; is_drained_told = drained; udp_tx = out; udp_rx = came } → Stays old new
  shut old new down is = by old new _ is (kept old (λ _. down))

  pub both_stay : (old mid new : Inner S) → Stays old mid → Stays mid new → Stays old new
  both_stay old mid new p q = record {
    side = q.side ∙ p.side;
    local_id = q.local_id ∙ p.local_id;
    remote_length = q.remote_length ∙ p.remote_length;
    config = q.config ∙ p.config;
    session = q.session ∙ p.session;
    addresses = q.addresses ∙ p.addresses;
    ended = λ down. q.ended (p.ended down);
  }

  -- ---- calls without a datagram

  refused_stays : (id : ℕ) (e : WriteFault) (old new : Inner S) → IsWriteRefused id e old new → Stays old new
  refused_stays id e old new (IsWriteRefused.closed _ _ is) = as_open old new is
  refused_stays id e old new (IsWriteRefused.wanting _ _ _ is) = as_open old new is
  refused_stays id e old new (IsWriteRefused.refused _ _ is) = as_open old new is

  stream_stays : (old new : Inner S) (acts : List Act) → IsStreamCall old new acts → Stays old new
  stream_stays old new _ (IsStreamCall.unchanged is) = as_open old new is
  stream_stays old new _ (IsStreamCall.opened _ _ _ _ _ _ is) = as_open old new is
  stream_stays old new _ (IsStreamCall.accepted _ _ is) = as_open old new is
  stream_stays old new _ (IsStreamCall.wrote _ _ _ _ _ _ is) = as_open old new is
  stream_stays old new _ (IsStreamCall.unwritten id e denied) = refused_stays id e old new denied
  stream_stays old new _ (IsStreamCall.finished _ _ is) = as_open old new is
  stream_stays old new _ (IsStreamCall.reset _ _ _ is) = as_open old new is
  stream_stays old new _ (IsStreamCall.prioritized _ _ _ is) = as_open old new is
  stream_stays old new _ (IsStreamCall.read _ _ _ _ _ _ is) = as_open old new is
  stream_stays old new _ (IsStreamCall.stopped _ _ _ is) = as_open old new is
  stream_stays old new _ (IsStreamCall.took_reset _ _ _ is) = as_open old new is
  stream_stays old new _ (IsStreamCall.concurrent _ _ is) = as_open old new is
  stream_stays old new _ (IsStreamCall.send_window _ is) = as_open old new is
  stream_stays old new _ (IsStreamCall.receive_window _ is) = as_open old new is

  pub timed_stays : (now : ℕ) (old new : Inner S) → IsTimedOut now old new → Stays old new
  timed_stays now old new (IsTimedOut.idle _ _ is) = shut old new refl is
  timed_stays now old new (IsTimedOut.recovery _ _ _ _ _ is) = as_open old new is
  timed_stays now old new (IsTimedOut.closed _ _ _ _ _ is) = shut old new refl is
  timed_stays now old new (IsTimedOut.draining _ _ _ is) = shut old new refl is
  timed_stays now old new (IsTimedOut.waits _ _ _ is) = as_open old new is
  timed_stays now old new (IsTimedOut.drained _ is) = as_open old new is

  pub polled_stays : (told : Option Event) (old new : Inner S) → IsPolledEvent old new told → Stays old new
  polled_stays _ old new (IsPolledEvent.stream _ _ is) = as_open old new is
  polled_stays _ old new (IsPolledEvent.lost _ _ _ _ _ is) = as_open old new is
  polled_stays _ old new (IsPolledEvent.none _ _ is) = as_open old new is

  pub endpoint_stays : (told : Option EndpointEvent) (old new : Inner S) → IsDrainedTold old new told → Stays old new
  endpoint_stays _ old new (IsDrainedTold.drained _ _ is) = as_open old new is
  endpoint_stays _ old new (IsDrainedTold.none _ is) = as_open old new is

  closed_stays : (now : Moment) (reason : CloseReason) (error : ConnectionError) (old new : Inner S) → IsClosedWith now reason error old new → Stays old new
  closed_stays now reason error old new c = shut old new refl c.rest_is

  maybe_closed : (up : Bool) (now : Moment) (reason : CloseReason) (error : ConnectionError) (old new : Inner S) → (up ≡ true → IsClosedWith now reason error old new) → (up ≡ false → new ≡ old) → Stays old new
  maybe_closed true now reason error old new closes keeps = closed_stays now reason error old new (closes refl)
  maybe_closed false now reason error old new closes keeps = as_open old new (keeps refl)

  pub close_stays : (now : Moment) (reason : CloseReason) (error : ConnectionError) (old new : Inner S) → (is_open old.state ≡ true → IsClosedWith now reason error old new)
      → (is_open old.state ≡ false → new ≡ old) → Stays old new
  close_stays now reason error old new closes keeps = maybe_closed (is_open old.state) now reason error old new closes keeps

  pub faulted_stays : (now : Moment) (e : _) (old new : Inner S) → IsFaulted now e old new → Stays old new
  faulted_stays now e old new f = shut old new refl f.closed.rest_is

  pub drains_stays : (now : Moment) (e : ConnectionError) (old new : Inner S) → IsDrainingFrom now e old new → Stays old new
  drains_stays now e old new d = shut old new refl d.rest_is

  pub failed_stays : (old new : Inner S) → IsFailedBy old new → Stays old new
  failed_stays old new f = shut old new refl f.rest_is

  pub heard_stays : (brings_close : Bool) (old new : Inner S) → IsClosedHeard brings_close old new → Stays old new
  heard_stays b old new (IsClosedHeard.told_again _ _ _ _ _ is) = shut old new refl is
  heard_stays b old new (IsClosedHeard.closed_too _ _ _ _ _ is) = shut old new refl is
  heard_stays b old new (IsClosedHeard.draining _ _ is) = as_open old new is
  heard_stays b old new (IsClosedHeard.drained _ is) = as_open old new is

  pub told_stays : (old new : Inner S) → new ≡ record old { state = without_close_due old.state } → Stays old new
  told_stays old new is = by old new _ is (kept old (told_shut old.state))

  pub renamed_stays : (old new : Inner S) (id : List ℕ) → length id ≡ length old.remote_id → new ≡ record old { remote_id = id } → Stays old new
  renamed_stays old new id long is = by old new _ is (renamed old long (λ down. down))

  pub moment_stays : (old new : Inner S) (idle : IdleTimer) → new ≡ record old { idle = idle } → Stays old new
  moment_stays old new idle is = as_open old new is

  turned_stays : (old new : Inner S) → IsTurned old new → Stays old new
  turned_stays old new (IsTurned.faulted now e _ f) = faulted_stays now e old new f
  turned_stays old new (IsTurned.draining now e _ _ d) = drains_stays now e old new d
  turned_stays old new (IsTurned.failed f _ _) = failed_stays old new f
  turned_stays old new (IsTurned.close_told is) = told_stays old new is
  turned_stays old new (IsTurned.closed_heard b _ heard) = heard_stays b old new heard
  turned_stays old new (IsTurned.packet_accepted _ is) = as_open old new is
  turned_stays old new (IsTurned.packet_sent _ is) = as_open old new is
  turned_stays old new (IsTurned.renamed id long is) = renamed_stays old new id long is
  turned_stays old new (IsTurned.log_started _ _ _ is) = as_open old new is
  turned_stays old new (IsTurned.items_taken is) = as_open old new is

  pub local_stays : (old new : Inner S) (acts : List Act) → IsLocalCall old new acts → Stays old new
  local_stays old new _ (IsLocalCall.timeout now is _) = timed_stays now old new is
  local_stays old new _ (IsLocalCall.closed now _ _ closes keeps) = close_stays now _ _ old new closes keeps
  local_stays old new _ (IsLocalCall.polled told is) = polled_stays told old new is
  local_stays old new _ (IsLocalCall.endpoint_polled told is) = endpoint_stays told old new is
  local_stays old new _ (IsLocalCall.on_streams acts call) = stream_stays old new acts call
  local_stays old new _ (IsLocalCall.turned call) = turned_stays old new call

  pub locally_stays : (old new : Inner S) (acts : List Act) → AreMadeLocally old new acts → Stays old new
  locally_stays old _ _ (AreSteps.none) = unchanged old
  locally_stays old new _ (AreSteps.more mid _ front last before step) = both_stay old mid new (locally_stays old mid front before) (local_stays mid new last step.0)

  -- ---- datagrams

  ends_stays : (now : Moment) (end : Option ConnectionError) (old mid new : Inner S) → Stays old mid → GoesOnWith now end mid new → Stays old new
  ends_stays now None old mid new stays is = by old new mid is stays
  ends_stays now (Some (Fault e)) old mid new stays f = both_stay old mid new stays (faulted_stays now e mid new f)
  ends_stays now (Some e) old mid new stays d = both_stay old mid new stays (shut mid new refl d.rest_is)

  handled_stays : (now : Moment) (number : ℕ) (frames : List ℕ) (old new : Inner S) → IsPacketHandled now number frames old new → Stays old new
  handled_stays now number frames old new (IsPacketHandled.repeated _ is) = as_open old new is
  handled_stays now number frames old new (IsPacketHandled.empty e _ _ _ f) = faulted_stays now e old new f
  handled_stays now number frames old new (IsPacketHandled.faulty e _ _ _ _ f) = faulted_stays now e old new f
  handled_stays now number frames old new (IsPacketHandled.unnoted e _ _ _ _ f) = faulted_stays now e old new f
  handled_stays now number frames old new (IsPacketHandled.taken _ p) = ends_stays now p.end old (record old { space = p.space; idle = _ }) new (kept old (λ down. down)) p.goes_on

  pub taken_stays : (accepts : AcceptsTag) (now : Moment) (d : List ℕ) (old new : Inner S) → IsDatagramTaken accepts now d old new → Stays old new
  taken_stays accepts now d old new (IsDatagramTaken.dropped _ _ is) = as_open old new is
  taken_stays accepts now d old new (IsDatagramTaken.handled number frames _ _ handled) = handled_stays now number frames old new handled
  taken_stays accepts now d old new (IsDatagramTaken.told_again _ _ _ _ _ is) = shut old new refl is
  taken_stays accepts now d old new (IsDatagramTaken.closed_too _ _ _ _ _ is) = shut old new refl is
  taken_stays accepts now d old new (IsDatagramTaken.draining _ _ is) = as_open old new is
  taken_stays accepts now d old new (IsDatagramTaken.drained _ is) = as_open old new is

  -- it is counted
  pub counted_stays : (c : Inner S) (came : UdpStats) → Stays c (record c { udp_rx = came })
  counted_stays c came = kept c (λ down. down)

  pub frames_stay : (now : Moment) (old new : Inner S) (before frames : List ℕ) → AreFramesMade now old new before frames → Stays old new
  frames_stay now old new before frames (AreFramesMade.packet _ _ is) = as_open old new is
  frames_stay now old new before frames (AreFramesMade.control _ _ is) = as_open old new is
  frames_stay now old new before frames (AreFramesMade.close _ _ _ _ is) = shut old new refl is

  pub silent_stays : (old new : Inner S) → new ≡ old → Stays old new
  silent_stays old new is = as_open old new is

  -- ---- the whole connection

  module _ (key : S → List ℕ) where
    -- so it is by what becomes of its parts
    pub same_by : (old new : Connection S) → new.config ≡ old.config → GoesOn old.handshake new.handshake → Stays old.core new.core → ControlStays old.control new.control
        → (old.is_connected ≡ true → new.is_connected ≡ true) → IsSameConnection key old new
    same_by old new config goes stays own connected = record {
      config = config;
      handshake = goes;
      side = stays.side;
      local_id = stays.local_id;
      addresses = stays.addresses;
      limits = ap (λ (z : CoreConfig). z.limits) stays.config;
      receives = ap (λ (z : CoreConfig). z.datagram_receive) stays.config;
      control = control_same (is_some old.handshake.peer) old.control new.control own;
      key_is = λ _. ap key stays.session;
      settled = λ _. (stays.remote_length, stays.config);
      connected = connected;
      ended = stays.ended;
    }

    pub same_self : (c : Connection S) → IsSameConnection key c c
    same_self c = same_by c c refl (same_goes c.handshake) (unchanged c.core) (control_kept c.control refl) (λ is. is)

    pub same_as : (old new : Connection S) → new ≡ old → IsSameConnection key old new
    same_as old new is = subst (λ (z : Connection S). IsSameConnection key old z) (sym is) (same_self old)

    pub both_same : (old mid new : Connection S) → IsSameConnection key old mid → IsSameConnection key mid new → IsSameConnection key old new
    both_same old mid new p q = record {
      config = q.config ∙ p.config;
      handshake = both_go old.handshake mid.handshake new.handshake p.handshake q.handshake;
      side = q.side ∙ p.side;
      local_id = q.local_id ∙ p.local_id;
      addresses = q.addresses ∙ p.addresses;
      limits = q.limits ∙ p.limits;
      receives = q.receives ∙ p.receives;
      control = both_control (is_some old.handshake.peer) (is_some mid.handshake.peer) old.control mid.control new.control p.control q.control (there_still old.handshake.peer mid.handshake.peer p.handshake.peer);
      key_is = λ is.
          let first = between old.handshake.retry_id mid.handshake.retry_id new.handshake.retry_id p.handshake.retry_id q.handshake.retry_id is in
          q.key_is (is ∙ sym first) ∙ p.key_is first;
      settled = λ greeted.
          let still = q.settled (there_still old.handshake.peer mid.handshake.peer p.handshake.peer greeted) in
          let first = p.settled greeted in (still.0 ∙ first.0, still.1 ∙ first.1);
      connected = λ is. q.connected (p.connected is);
      ended = λ down. q.ended (p.ended down);
    }

    pub same_then : (old mid new : Connection S) → new ≡ mid → IsSameConnection key old mid → IsSameConnection key old new
    same_then old mid new is p = subst (λ (z : Connection S). IsSameConnection key old z) (sym is) p

    -- as the end of its 1-RTT packets goes on
    pub same_core : (c : Connection S) (core : Inner S) → Stays c.core core → IsSameConnection key c (record c { core = core })
    same_core c core stays = same_by c (record c { core = core }) refl (same_goes c.handshake) stays (control_kept c.control refl) (λ is. is)

    pub same_made : (c : Connection S) (core : Inner S) (acts : List Act) → IsMadeLocally c.core core acts → IsSameConnection key c (record c { core = core })
    same_made c core acts made = same_core c core (local_stays c.core core acts made.0)

    pub same_rest : (old new : Connection S) → new ≡ record old { core = new.core } → Stays old.core new.core → IsSameConnection key old new
    same_rest old new is stays = same_then old (record old { core = new.core }) new is (same_core old new.core stays)

    -- as its own frames do
    pub same_control : (c : Connection S) (control : ControlState) → ControlStays c.control control → IsSameConnection key c (record c { control = control })
    same_control c control stays = same_by c (record c { control = control }) refl (same_goes c.handshake) (unchanged c.core) stays (λ is. is)

    -- the same, by what is said of them
    pub same_of_control : (c : Connection S) (control : ControlState) → IsSameControl (is_some c.handshake.peer) c.control control → IsSameConnection key c (record c { control = control })
    same_of_control c control is =
        let p = same_self c in
        record {
          config = p.config;
          handshake = p.handshake;
          side = p.side;
          local_id = p.local_id;
          addresses = p.addresses;
          limits = p.limits;
          receives = p.receives;
          control = is;
          key_is = p.key_is;
          settled = p.settled;
          connected = p.connected;
          ended = p.ended;
        }

    -- as its handshake does
    pub same_handshake : (c : Connection S) (h : Handshake) → GoesOn c.handshake h → IsSameConnection key c (record c { handshake = h })
    same_handshake c h goes = same_by c (record c { handshake = h }) refl goes (unchanged c.core) (control_kept c.control refl) (λ is. is)

    pub same_dropped : (c : Connection S) → IsSameConnection key c (dropped c)
    same_dropped c = same_handshake c (dropping c.handshake) (dropped_goes c.handshake)

    -- as datagrams are counted
    pub same_counted : (c : Connection S) (out came : UdpStats) → IsSameConnection key c (record c { udp_tx = out; udp_rx = came })
    same_counted c out came = same_by c (record c { udp_tx = out; udp_rx = came }) refl (same_goes c.handshake) (unchanged c.core) (control_kept c.control refl) (λ is. is)

    -- and as what is told of it, and the turns of its packets, change
    pub same_flags : (c : Connection S) (told connected next lost : Bool) → IsSameConnection key c (record c { is_data_due = told; is_connected_due = connected; is_control_next = next; is_lost_logged = lost })
    same_flags c told connected next lost =
        same_by c (record c { is_data_due = told; is_connected_due = connected; is_control_next = next; is_lost_logged = lost }) refl (same_goes c.handshake) (unchanged c.core) (control_kept c.control refl) (λ is. is)

  -- ---- the log

  pub log_stays : (log : Option (List ConnectionItem)) (core : Inner S) → Stays core (streams_taken log core)
  log_stays None core = unchanged core
  log_stays (Some items) core = kept core (λ down. down)

  pub noted_same : (key : S → List ℕ) (log : Option (List ConnectionItem)) (more : List ConnectionItem) (c : Connection S) → IsSameConnection key c (noted_in log more c)
  noted_same key log more c = same_by key c (noted_in log more c) refl (same_goes c.handshake) (log_stays log c.core) (control_kept c.control refl) (λ is. is)
