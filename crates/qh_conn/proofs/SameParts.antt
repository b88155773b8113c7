-- A connection is the same one behind each of its own calls (RFC 9000, sections 5.1, 7.2, 7.3 and 10.2).
use Rattle.std.proofs.Common.{◌≡◌, ◌⊎◌, ◌<◌, ℕ, Bool, true, false, List, [], ◌∷◌, length, take, Option, None, Some, is_some, Result, Ok, Err, OnOk, OnErr, IfOk, IfSome, if◌then◌else◌, refl, sym, ap, subst, ◌∙◌, inl, inr}
use Rattle.std.proofs.lemmas.Bool.{both_ways}
use Rattle.std.proofs.lemmas.Option.{none-some}
use Rattle.qh_base.specs.declared.connection_error.ConnectionError.{ConnectionError}
use Rattle.qh_base.specs.declared.memory.Memory.{Memory as OutOfMemory}
use Rattle.qh_base.specs.declared.path.Transmit.{Transmit}
use Rattle.qh_base.specs.declared.time.Moment.{Moment}
use Rattle.qh_conn.proofs.Same.{ControlStays, KeepsOwn, Stays, both_same, both_stay, control_by, control_kept, control_rest, control_same, counted_stays, drains_stays, endpoint_stays, failed_stays, faulted_stays, frames_stay, heard_stays, log_stays, moment_stays, noted_same, polled_stays, same_as, same_by, same_control, same_core, same_dropped, same_flags, same_of_control, same_rest, same_then, silent_stays, taken_stays, timed_stays, unchanged}
use Rattle.qh_conn.specs.Greeting.{connected, ids_asked}
use Rattle.qh_conn.specs.Incoming.{IsClosingHeard, IsFed, IsShutConnected, connected_if, heard_at}
use Rattle.qh_conn.specs.Items.{noted, streams_logged, streams_started}
use Rattle.qh_conn.specs.Same.{IsSameConnection, IsSameControl, dropped}
use Rattle.qh_conn.specs.Telling.{IsEndpointTold, IsHandshakeTimed, IsTold}
use Rattle.qh_conn.specs.declared.connection.Connection.{Connection}
use Rattle.qh_conn.specs.declared.event.Event.{Event}
use Rattle.qh_control.specs.Control.{IsControlTaken, may_announce, with_all_issued, with_issued}
use Rattle.qh_control.specs.declared.control.ControlState.{ControlState}
use Rattle.qh_control.specs.declared.event.EndpointEvent.{EndpointEvent}
use Rattle.qh_control.specs.declared.event.IssuedCid.{IssuedCid}
use Rattle.qh_control.specs.declared.items.ConnectionItem.{ConnectionItem}
use Rattle.qh_core.specs.Inner.{IsFailedBy, is_open, with_space}
use Rattle.qh_core.specs.Receiving.{IsDatagramTaken as IsCoreTaken, IsDrainingFrom, IsFaulted, counted_in}
use Rattle.qh_core.specs.Sending.{IsControlSent, IsDatagramMade as IsCoreMade, NothingIsSent}
use Rattle.qh_core.specs.Timers.{IsTimedOut as IsCoreTimedOut}
use Rattle.qh_core.specs.declared.control.ControlSent.{ControlSent}
use Rattle.qh_core.specs.declared.idle.IdleTimer.{IdleTimer}
use Rattle.qh_core.specs.declared.inner.Inner.{Inner}
use Rattle.qh_frame.specs.declared.frame.Frame.{Frame}
use Rattle.qh_handshake.proofs.GoingOn.{discarded_goes, lost_goes, same_goes, taken_goes, timed_out_goes}
use Rattle.qh_handshake.specs.GoesOn.{GoesOn}
use Rattle.qh_handshake.specs.Handshake.{dropping}
use Rattle.qh_handshake.specs.Incoming.{IsDatagramTaken, IsSessionAfter, Learns, SessionView}
use Rattle.qh_handshake.specs.Lost.{IsLost}
use Rattle.qh_handshake.specs.declared.handshake.Handshake.{Handshake}
use Rattle.qh_packet.specs.Session.{AcceptsTag, SealsTag}
use Rattle.qh_space.specs.declared.data_space.DataSpace.{DataSpace}
use Rattle.qh_streams.specs.declared.frames.PeerLimits.{PeerLimits}
use Rattle.qh_base.specs.declared.time.Span.{Span}

-- ---- the handshake takes a datagram

learns_key : {S : Type 0} (v : SessionView S) (old new : S) (learned : Option (List ℕ)) → Learns v old new learned → v.key new ≡ v.key old
learns_key v old new None is = ap v.key is
learns_key v old new (Some name) is = is.2

-- unless a Retry packet was taken the session has the same key
session_key : {S : Type 0} (v : SessionView S) (s next : S) (takes : AcceptsTag) (now : Moment) (d rest : List ℕ) (old new : Handshake) (retried learned : Option (List ℕ)) (end : Option ConnectionError)
    → IsDatagramTaken takes now d old new rest retried learned end → IsSessionAfter v s next retried learned → new.retry_id ≡ old.retry_id → v.key next ≡ v.key s
session_key v s next takes now d _ old new _ _ _ (IsDatagramTaken.retry space source token may for_it e) told same =
    absurd (none-some source (sym may.once ∙ (sym same ∙ ap (λ (z : Handshake). z.retry_id) e)))
session_key v s next takes now d _ old new _ _ _ (IsDatagramTaken.mismatch is e) told same = learns_key v s next None told
session_key v s next takes now d _ old new _ _ _ (IsDatagramTaken.packets rest learned end _ _ taken) told same = learns_key v s next learned told

came_goes : (h : Handshake) (n : ℕ) → GoesOn h (record h { bytes_received = n })
came_goes h n = record {
  side = refl;
  version = refl;
  local_id = refl;
  original_id = refl;
  parameters = refl;
  peer = λ p is. is;
  retry_id = λ id is. is;
  token = λ _. refl;
  known = λ is. (is, refl, refl);
  validated = λ is. is;
  gone = λ is. is;
}

-- what is due of a handshake
hand_timed : (now : ℕ) (up : Bool) (old new : Handshake) → IsHandshakeTimed now up old new → GoesOn old new
hand_timed now up old new (IsHandshakeTimed.lives _ is) = timed_out_goes now old new is
hand_timed now up old new (IsHandshakeTimed.shut _ is) = subst (λ (z : Handshake). GoesOn old z) (sym is) (same_goes old)

-- ---- ids that are issued

if_stays : (b : Bool) (x y : ControlState) → ControlStays y x → ControlStays y (if b then x else y)
if_stays true x y stays = stays
if_stays false x y stays = control_kept y refl

both_controls : (old mid new : ControlState) → ControlStays old mid → ControlStays mid new → ControlStays old new
both_controls old mid new p q = record {
  own = record { id_len = q.own.id_len ∙ p.own.id_len; remote = q.own.remote ∙ p.own.remote; receives = q.own.receives ∙ p.own.receives; room = q.own.room ∙ p.own.room };
  peers = (q.peers.0 ∙ p.peers.0, q.peers.1 ∙ p.peers.1);
}

all_issued_stay : (s : ControlState) (cids : List IssuedCid) → ControlStays s (with_all_issued s cids)
all_issued_stay s [] = control_kept s refl
all_issued_stay s (cid ∷ cids) = both_controls s (with_issued s cid) (with_all_issued (with_issued s cid) cids) (if_stays (may_announce s cid) _ s (control_kept s refl)) (all_issued_stay (with_issued s cid) cids)

pub issued_stay : {E : Type 0} (result : Result Unit E) (old new : ControlState) (cids : List IssuedCid) → OnOk result (new ≡ with_all_issued old cids)
    → OnErr result ((count : ℕ) × (count < length cids) × (new ≡ with_all_issued old (take count cids))) → ControlStays old new
issued_stay (Ok x) old new cids ok err = control_by old new _ ok (all_issued_stay old cids)
issued_stay (Err e) old new cids ok err = control_by old new _ err.2 (all_issued_stay old (take err.0 cids))

-- ---- a frame of its own comes

pub control_taken : (now : Moment) (old new : ControlState) (f : Frame) → IsControlTaken now old new f → ControlStays old new
control_taken now old new _ (IsControlTaken.new_id _ _ _ _ is) = control_by old new _ is (control_kept old refl)
control_taken now old new _ (IsControlTaken.retire _ is) = control_by old new _ is (control_kept old refl)
control_taken now old new _ (IsControlTaken.ack _ _ is) = control_by old new _ is (control_kept old refl)
control_taken now old new _ (IsControlTaken.given _ is) = control_by old new _ is (control_kept old refl)
control_taken now old new _ (IsControlTaken.datagram _ _ _ _ _ is) = control_by old new _ is (control_kept old refl)
control_taken now old new _ (IsControlTaken.undue _ _ _ is) = control_by old new _ is (control_kept old refl)
control_taken now old new _ (IsControlTaken.passive _ _ is) = control_by old new _ is (control_kept old refl)

-- it is taken, or isn't
pub control_took : {E : Type 0} (r : Result Unit E) (now : Moment) (old new : ControlState) (f : Frame) → new.own_ids.id_len ≡ old.own_ids.id_len → OnOk r (IsControlTaken now old new f)
    → OnErr r (new ≡ record old { ids = new.ids; own_ids = new.own_ids; queue = new.queue }) → IsSameControl true old new
control_took (Ok x) now old new f long taken left = control_same true old new (control_taken now old new f taken)
control_took (Err e) now old new f long taken left = control_same true old new (control_by old new _ left (control_kept old long))

-- what holds of an end that was greeted holds of any
any_control : (b : Bool) (old new : ControlState) → IsSameControl true old new → IsSameControl b old new
any_control b old new is = record { id_len = is.id_len; remote = is.remote; receives = is.receives; room = is.room; settled = λ _. is.settled refl }

-- the end is greeted
begun_control : (b : Bool) (before old new : ControlState) → b ≡ false → IsSameControl b before old → KeepsOwn old new → IsSameControl b before new
begun_control b before old new none p own = record {
  id_len = own.id_len ∙ p.id_len;
  remote = own.remote ∙ p.remote;
  receives = own.receives ∙ p.receives;
  room = own.room ∙ p.room;
  settled = λ greeted. absurd (both_ways false refl (sym none ∙ greeted));
}

-- further ids are asked for, or aren't
asked_stays : (now : Moment) (b : Bool) (s : ControlState) {log : Option (List ConnectionItem)} → ControlStays s (record (if b then ids_asked now s else s) { log = log })
asked_stays now true s = control_rest s
asked_stays now false s = control_rest s

module _ {S : Type 0} where
  -- ---- what the end of the 1-RTT packets answers

  pub datagram_stays : {X E : Type 0} (accepts : AcceptsTag) (now : Moment) (d : List ℕ) (n : ℕ) (old new : Inner S) (r : Result X E) → OnOk r (IsCoreTaken accepts now d (counted_in n old) new)
      → OnErr r (IsFailedBy (counted_in n old) new) → Stays old new
  datagram_stays accepts now d n old new (Ok x) taken failed = both_stay old (counted_in n old) new (counted_stays old _) (taken_stays accepts now d (counted_in n old) new taken)
  datagram_stays accepts now d n old new (Err e) taken failed = both_stay old (counted_in n old) new (counted_stays old _) (failed_stays (counted_in n old) new failed)

  pub transmit_stays : (sealed : SealsTag) (now : Moment) (before after : List ℕ) (P Q : Type 0) (r : Result (Option Transmit) OutOfMemory) (old new : Inner S)
      → IfOk r (λ o. IfSome o (λ t. IsCoreMade sealed now old new before after t)) → IfOk r (λ o. o ≡ None → P × NothingIsSent old new) → OnErr r (Q × IsFailedBy old new) → Stays old new
  transmit_stays sealed now before after P Q (Ok (Some t)) old new some none err = frames_stay now old new _ _ some.bytes.made
  transmit_stays sealed now before after P Q (Ok None) old new some none err = silent_stays old new (none refl).1.0
  transmit_stays sealed now before after P Q (Err e) old new some none err = failed_stays old new err.1

  pub control_stays : (sealed : SealsTag) (now : Moment) (before after : List ℕ) (frames : _) (P Q R : Type 0) (r : Result (Option ControlSent) OutOfMemory) (old new : Inner S)
      → IfOk r (λ o. IfSome o (λ sent. IsControlSent sealed now old new before after frames sent)) → IfOk r (λ o. o ≡ None → P × (new ≡ old) × R) → OnErr r (Q × IsFailedBy old new) → Stays old new
  control_stays sealed now before after frames P Q R (Ok (Some t)) old new some none err = frames_stay now old new _ _ some.made.bytes.made
  control_stays sealed now before after frames P Q R (Ok None) old new some none err = silent_stays old new (none refl).1
  control_stays sealed now before after frames P Q R (Err e) old new some none err = failed_stays old new err.1

  module _ (key : S → List ℕ) where
    -- ---- want of memory

    pub settled_same : {E : Type 0} (r : Result Unit E) (old mid new : Connection S) → OnOk r (IsSameConnection key old mid) → OnErr r (IsSameConnection key old (dropped mid)) → OnOk r (new ≡ mid)
        → OnErr r (IsSameConnection key (dropped mid) new) → IsSameConnection key old new
    settled_same (Ok x) old mid new same lost is fails = same_then key old mid new is same
    settled_same (Err e) old mid new same lost is fails = both_same key old (dropped mid) new lost fails

    -- the same, where it is the same one before that whatever was answered
    pub settled_after : {E : Type 0} (r : Result Unit E) (old mid new : Connection S) → IsSameConnection key old mid → OnOk r (new ≡ mid) → OnErr r (IsSameConnection key (dropped mid) new)
        → IsSameConnection key old new
    settled_after (Ok x) old mid new same is fails = same_then key old mid new is same
    settled_after (Err e) old mid new same is fails = both_same key old (dropped mid) new (both_same key old mid (dropped mid) same (same_dropped key mid)) fails

    pub over_same : (c : Connection S) (h : Handshake) (core : Inner S) (control : ControlState) → h ≡ dropping c.handshake → IsFailedBy c.core core → ControlStays c.control control
        → IsSameConnection key (dropped c) (record c { handshake = h; core = core; control = control })
    over_same c h core control gone failed ids =
        subst (λ (z : Handshake). IsSameConnection key (dropped c) (record c { handshake = z; core = core; control = control })) (sym gone)
        (same_by key (dropped c) (record (dropped c) { core = core; control = control }) refl (same_goes (dropping c.handshake)) (failed_stays c.core core failed) ids (λ is. is))

    -- ---- a datagram comes

    session_same : (c : Connection S) (h : Handshake) (s : S) → GoesOn c.handshake h → (h.retry_id ≡ c.handshake.retry_id → key s ≡ key c.core.session)
        → IsSameConnection key c (record c { handshake = h; core = record c.core { session = s } })
    session_same c h s goes key_is = record {
      config = refl;
      handshake = goes;
      side = refl;
      local_id = refl;
      addresses = refl;
      limits = refl;
      receives = refl;
      control = control_same (is_some c.handshake.peer) c.control c.control (control_kept c.control refl);
      key_is = key_is;
      settled = λ _. (refl, refl);
      connected = λ is. is;
      ended = λ down. down;
    }

    came_same : (c : Connection S) (n : ℕ) (core : Inner S) → Stays c.core core → IsSameConnection key c (record c { handshake = record c.handshake { bytes_received = n }; core = core })
    came_same c n core stays = same_by key c (record c { handshake = record c.handshake { bytes_received = n }; core = core }) refl (came_goes c.handshake n) stays (control_kept c.control refl) (λ is. is)

    pub connected_same : (now : Moment) (c : Connection S) → IsSameConnection key c (connected now c)
    connected_same now c =
        same_by key c (connected now c) refl (discarded_goes c.handshake) (log_stays c.control.log c.core) (asked_stays now (is_open c.core.state) c.control) (λ _. refl)

    pub connect_same : {X E : Type 0} (r : Result X E) (now : Moment) (old new : Connection S) → OnOk r (new ≡ connected now old) → OnErr r (new ≡ old) → IsSameConnection key old new
    connect_same (Ok x) now old new ok err = same_then key old (connected now old) new ok (connected_same now old)
    connect_same (Err e) now old new ok err = same_as key old new err

    accepted_if : (now : Moment) (c : Connection S) (b : Bool) → IsSameConnection key c (if b then noted [] c else connected now c)
    accepted_if now c true = noted_same key c.control.log [] c
    accepted_if now c false = connected_same now c

    pub accepted_same : (now : Moment) (c new : Connection S) → new ≡ connected_if now c → IsSameConnection key c new
    accepted_same now c new is = same_then key c (connected_if now c) new is (accepted_if now c c.is_connected)

    shut_same : (accepts : AcceptsTag) (rest : List ℕ) (old new : Connection S) → IsShutConnected accepts rest old new → IsSameConnection key old new
    shut_same accepts rest old new (IsShutConnected.brought _ is) =
        same_then key old (record old { handshake = record (dropping old.handshake) { is_validated = true }; is_connected = true }) new is
        (same_by key old (record old { handshake = record (dropping old.handshake) { is_validated = true }; is_connected = true }) refl (discarded_goes old.handshake) (unchanged old.core) (control_kept old.control refl) (λ _. refl))
    shut_same accepts rest old new (IsShutConnected.still _ is) = same_as key old new is

    -- a datagram that isn't a packet is a stateless reset, or isn't
    pub reset_same : {P Q R : Type 0} (now : Moment) (e : ConnectionError) (old new : Connection S)
        → (P × (new ≡ old)) ⊎ (Q × R × IsDrainingFrom now e old.core new.core × (new ≡ record old { core = new.core })) → IsSameConnection key old new
    reset_same now e old new (inl (never, is)) = same_as key old new is
    reset_same now e old new (inr (up, reset, drains, is)) = same_rest key old new is (drains_stays now e old.core new.core drains)

    -- ---- the end is greeted

    pub begun_same : (before c : Connection S) (control : ControlState) (core : Inner S) (id : List ℕ) (peer : PeerLimits) (most : Option ℕ) (timeout : Option Span) (space : DataSpace) (idle : IdleTimer)
        → before.handshake.peer ≡ None → IsSameConnection key before c → KeepsOwn c.control control
        → core ≡ record c.core { remote_id = id; config = record c.core.config { peer = peer; peer_datagram = most; idle = timeout }; space = space; idle = idle }
        → IsSameConnection key before (record c { control = control; core = core })
    begun_same before c control core id peer most timeout space idle none p own is = subst (λ (z : Inner S). IsSameConnection key before (record c { control = control; core = z })) (sym is) (record {
      config = p.config;
      handshake = p.handshake;
      side = p.side;
      local_id = p.local_id;
      addresses = p.addresses;
      limits = p.limits;
      receives = p.receives;
      control = begun_control (is_some before.handshake.peer) before.control c.control control (ap (λ (z : Option _). is_some z) none) p.control own;
      key_is = p.key_is;
      settled = λ greeted. absurd (both_ways false refl (sym (ap (λ (z : Option _). is_some z) none) ∙ greeted));
      connected = p.connected;
      ended = p.ended;
    })

    pub space_same : (c new : Connection S) (space : DataSpace) → new ≡ record c { core = with_space c.core space } → IsSameConnection key c new
    space_same c new space is = same_then key c (record c { core = with_space c.core space }) new is (same_core key c (with_space c.core space) (record {
      side = refl;
      local_id = refl;
      remote_length = refl;
      config = refl;
      session = refl;
      addresses = refl;
      ended = λ down. down;
    }))

    -- ---- the log

    -- that of the streams starts
    pub started_same : (c new : Connection S) → new ≡ streams_started c → IsSameConnection key c new
    started_same c new is =
        let core = with_space c.core (streams_logged c.control.log c.core.space) in
        let mid : Connection S = record c { core = core } in
        both_same key c mid new (space_same c mid _ refl) (same_then key mid (streams_started c) new is (same_control key mid (streams_started c).control (control_kept c.control refl)))

    -- ---- frames of its own come

    pub controls_same : (old new : Connection S) → new ≡ record old { control = new.control } → IsSameControl true old.control new.control → IsSameConnection key old new
    controls_same old new is stays =
        same_then key old (record old { control = new.control }) new is (same_of_control key old new.control (any_control (is_some old.handshake.peer) old.control new.control stays))

    pub faulted_same : (now : Moment) (e : _) (c : Connection S) (core : Inner S) → IsFaulted now e c.core core → IsSameConnection key c (record c { core = core })
    faulted_same now e c core f = same_core key c core (faulted_stays now e c.core core f)

    -- ---- datagrams go out

    pub out_same : (c : Connection S) (core : Inner S) (control : ControlState) (next : Bool) → Stays c.core core → ControlStays c.control control
        → IsSameConnection key c (record c { core = core; control = control; is_control_next = next })
    out_same c core control next stays ids = same_by key c (record c { core = core; control = control; is_control_next = next }) refl (same_goes c.handshake) stays ids (λ is. is)

    pub initial_same : (c : Connection S) (h : Handshake) (core : Inner S) → GoesOn c.handshake h → Stays c.core core → IsSameConnection key c (record c { handshake = h; core = core })
    initial_same c h core goes stays = same_by key c (record c { handshake = h; core = core }) refl goes stays (control_kept c.control refl) (λ is. is)

    -- ---- moments, and what is told

    pub timed_same : (now : ℕ) (old new : Connection S) → IsHandshakeTimed now (is_open old.core.state) old.handshake new.handshake → IsCoreTimedOut now old.core new.core
        → new ≡ record old { handshake = new.handshake; core = new.core } → IsSameConnection key old new
    timed_same now old new hand core is =
        same_then key old (record old { handshake = new.handshake; core = new.core }) new is
        (initial_same old new.handshake new.core (hand_timed now (is_open old.core.state) old.handshake new.handshake hand) (timed_stays now old.core new.core core))

    pub told_same : (old new : Connection S) (told : Option Event) → IsTold old new told → IsSameConnection key old new
    told_same old new _ (IsTold.handshake_data _ is) = same_then key old (record old { is_data_due = false }) new is (same_flags key old false old.is_connected_due old.is_control_next old.is_lost_logged)
    told_same old new _ (IsTold.connected _ _ is) = same_then key old (record old { is_connected_due = false }) new is (same_flags key old old.is_data_due false old.is_control_next old.is_lost_logged)
    told_same old new _ (IsTold.received _ _ _ is) =
        same_then key old (record old { control = record old.control { is_datagram_due = false } }) new is (same_control key old (record old.control { is_datagram_due = false }) (control_kept old.control refl))
    told_same old new _ (IsTold.unblocked _ _ _ _ is) =
        same_then key old (record old { control = record old.control { is_unblocked_due = false } }) new is (same_control key old (record old.control { is_unblocked_due = false }) (control_kept old.control refl))
    told_same old new _ (IsTold.of_core told _ _ _ _ polled is) = same_rest key old new is (polled_stays told old.core new.core polled)

    pub endpoint_told_same : (old new : Connection S) (told : Option EndpointEvent) → IsEndpointTold old new told → IsSameConnection key old new
    endpoint_told_same old new _ (IsEndpointTold.control _ _ is) =
        same_then key old (record old { control = record old.control { endpoint_events = new.control.endpoint_events } }) new is
        (same_control key old (record old.control { endpoint_events = new.control.endpoint_events }) (control_kept old.control refl))
    endpoint_told_same old new _ (IsEndpointTold.of_core told _ polled is) = same_rest key old new is (endpoint_stays told old.core new.core polled)

  -- ---- by what is known of the session

  pub fed_same : (v : SessionView S) (now : Moment) (d rest : List ℕ) (old new : Connection S) (end : Option ConnectionError) → IsFed v now d old new rest end → IsSameConnection v.key old new
  fed_same v now d rest old new end fed =
      same_then v.key old (record old { handshake = fed.handshake; core = record old.core { session = fed.session } }) new fed.new_is
      (session_same v.key old fed.handshake fed.session
      (taken_goes (v.accepts old.core.session) now d rest old.handshake fed.handshake fed.retried fed.learned end fed.taken)
      (session_key v old.core.session fed.session (v.accepts old.core.session) now d rest old.handshake fed.handshake fed.retried fed.learned end fed.taken fed.told))

  -- it was restarted, or wasn't, and greeted, or wasn't
  pub met_same : (v : SessionView S) (now : Moment) (d rest : List ℕ) (old fed restarted met : Connection S) (was_greeted : Bool) → IsFed v now d old fed rest None
      → restarted ≡ record fed { core = record fed.core { idle = restarted.core.idle } } → was_greeted ≡ is_some old.handshake.peer
      → ((before : Connection S) → was_greeted ≡ is_some before.handshake.peer → IsSameConnection v.key before restarted → IsSameConnection v.key before met) → IsSameConnection v.key old met
  met_same v now d rest old fed restarted met was is again was_is meets =
      let core = record fed.core { idle = restarted.core.idle } in
      meets old was_is
      (both_same v.key old fed restarted (fed_same v now d rest old fed None is)
      (same_then v.key fed (record fed { core = core }) restarted again (same_core v.key fed core (moment_stays fed.core core restarted.core.idle refl))))

  -- the handshake ended the connection, and memory wasn't wanting
  pub ended_same : (v : SessionView S) (now : Moment) (d : List ℕ) (old new : Connection S) (e wanting : ConnectionError) → (e ≡ wanting) ⊎ ((rest : List ℕ) × IsFed v now d old new rest (Some e))
      → (e ≡ wanting → ⊥) → IsSameConnection v.key old new
  ended_same v now d old new e wanting (inl is) named = absurd (named is)
  ended_same v now d old new e wanting (inr (rest, fed)) named = fed_same v now d rest old new (Some e) fed

  -- memory is wanting for the handshake
  pub lost_same : (v : SessionView S) (now : Moment) (d : List ℕ) (old new : Connection S) (learned : Option (List ℕ)) → IsLost (v.accepts old.core.session) now d old.handshake new.handshake learned
      → Learns v old.core.session new.core.session learned → new ≡ record old { handshake = new.handshake; core = record old.core { session = new.core.session } } → IsSameConnection v.key old (dropped new)
  lost_same v now d old new learned is told rest =
      subst (λ (z : Connection S). IsSameConnection v.key old (dropped z)) (sym rest)
      (session_same v.key old (dropping new.handshake) new.core.session (lost_goes (v.accepts old.core.session) now d old.handshake new.handshake learned is)
      (λ _. learns_key v old.core.session new.core.session learned told))

  -- a datagram came to an end that closed
  pub closing_same : (v : SessionView S) (now : Moment) (d : List ℕ) (old new : Connection S) → IsClosingHeard v now d old new → IsSameConnection v.key old new
  closing_same v now d old new (IsClosingHeard.initial _ heard is) =
      same_then v.key old (heard_at (length d) old new.core) new is (came_same v.key old _ new.core (heard_stays true old.core new.core heard))
  closing_same v now d old new (IsClosingHeard.ungreeted _ _ heard is) =
      same_then v.key old (heard_at (length d) old new.core) new is (came_same v.key old _ new.core (heard_stays false old.core new.core heard))
  closing_same v now d old new (IsClosingHeard.greeted rest mid _ _ _ _ shut taken is) =
      let came : IsSameConnection v.key old (heard_at (length d) old old.core) = came_same v.key old _ old.core (unchanged old.core) in
      let shuts = shut_same v.key (v.accepts old.core.session) rest (heard_at (length d) old old.core) mid shut in
      let goes : Stays mid.core new.core = both_stay mid.core (counted_in (length rest) mid.core) new.core (counted_stays mid.core _) (taken_stays (v.accepts old.core.session) now rest _ new.core taken) in
      both_same v.key old mid new (both_same v.key old (heard_at (length d) old old.core) mid came shuts) (same_rest v.key mid new is goes)
