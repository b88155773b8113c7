-- Routes to attempts lead to those that wait, whatever an endpoint does.
use Rattle.std.proofs.Common.{◌≡◌, Bool, ℕ, List, [], ◌∷◌, Option, Some, refl, sym, ap, ◌∙◌, subst, inl, inr}
use Rattle.std.proofs.lemmas.Bool.{cases_eq}
use Rattle.qh_attempts.specs.Attempts.{PlainAttempt, PlainBuffers, attempt_at}
use Rattle.qh_attempts.proofs.Slots.{same_attempt}
use Rattle.qh_attempts.specs.declared.incoming_buffers.AttemptKey.{AttemptKey}
use Rattle.qh_base.specs.declared.path.FourTuple.{FourTuple}
use Rattle.qh_base.specs.declared.shared.ResetToken.{ResetToken}
use Rattle.qh_base.specs.declared.time.Moment.{Moment}
use Rattle.qh_base.specs.declared.transport_error.TransportError.{TransportError}
use Rattle.qh_connections.specs.Connections.{IsConnectionAdded, IsConnectionRemoved, IsKept as KeepsConnections, IsTokenReplaced, IsTracked, PlainConnections, first, again, later}
use Rattle.qh_attempts.specs.declared.attempt.KeptDatagram.{KeptDatagram}
use Rattle.qh_conn.specs.declared.connection.Connection.{Connection}
use Rattle.qh_conn.specs.declared.event.ConnectionEvent.{ConnectionEvent}
use Rattle.qh_control.specs.declared.event.EndpointEvent.{EndpointEvent}
use Rattle.qh_control.specs.declared.event.IssuedCid.{IssuedCid}
use Rattle.qh_endpoint.proofs.After.{only_log}
use Rattle.qh_endpoint.proofs.Staying.{stays, stays_unhandled}
use Rattle.qh_endpoint.specs.Accepting.{IsAccepted, IsAdmitted, IsLost, IsNotAccepted, closed, exhausted, failed, formless, no_session, none_fresh, silent, stale, unanswered, unbegun, unclosed, untaken}
use Rattle.qh_endpoint.specs.Accepting as accepting
use Rattle.qh_endpoint.specs.Closed.{IsClosed, IsUnclosed}
use Rattle.qh_endpoint.specs.Connecting.{IsConnectRefused, IsConnected}
use Rattle.qh_endpoint.specs.Connecting as connecting
use Rattle.qh_endpoint.specs.Endpoint.{PlainEndpoint}
use Rattle.qh_endpoint.specs.Handled.{IsHandled, IsKept, IsLetGo, IsNegotiated, IsReset, IsUnhandled, IsWaiting, StillWaits, malformed, unsupported, kept, connection, ignored, unknown, refused, attempt, negotiating, keeping, looking, resetting, closing, waiting}
use Rattle.qh_endpoint.specs.Handled as handled
use Rattle.qh_endpoint.specs.Leaving.{HasLeft}
use Rattle.qh_endpoint.specs.Led.{AreLed}
use Rattle.qh_endpoint.specs.Retrying.{IsNotRetried, IsRetryWritten}
use Rattle.qh_endpoint.specs.Retrying as retrying
use Rattle.qh_endpoint.specs.Stranger.{unnoted}
use Rattle.qh_endpoint.specs.declared.accepting.AcceptError.{AcceptError}
use Rattle.qh_endpoint.specs.declared.event.DatagramEvent.{DatagramEvent}
use Rattle.qh_endpoint.specs.declared.incoming.FirstPacket.{FirstPacket}
use Rattle.qh_endpoint.specs.declared.incoming.Incoming.{Incoming}
use Rattle.qh_endpoint.specs.declared.incoming.Waiting.{Waiting}
use Rattle.qh_endpoint.specs.declared.retrying.RetryFault.{RetryFault}
use Rattle.qh_endpoint_events.specs.Events.{AreIssued, IsDone, IsExhausted, IsWanting, more, none}
use Rattle.qh_endpoint_events.specs.Events as asked
use Rattle.qh_handshake.specs.Incoming.{SessionView}
use Rattle.qh_kit.specs.declared.config.ClientConfig.{ClientConfig}
use Rattle.qh_kit.specs.declared.config.ServerConfig.{ServerConfig}
use Rattle.qh_kit.specs.declared.error.ConnectError.{ConnectError}
use Rattle.qh_packet.specs.Session.{SealsTag}
use Rattle.qh_routes.specs.ConnectionMeta.{PlainMeta}
use Rattle.qh_routes.specs.Routes.{AreRemovedOf, IsAdded, IsFirstAdded, IsRemovedOf, RouteKey, Routes, initial}
use Rattle.qh_routes.specs.declared.connection_handle.ConnectionHandle.{ConnectionHandle}
use Rattle.qh_routes.specs.declared.connection_index.RouteDatagramTo.{RouteDatagramTo}
use Rattle.qh_routes.specs.declared.connection_index.RouteDatagramTo.TheVariants as target
use Rattle.qh_spec.specs.Lists.{In}
use Rattle.qh_spec.specs.TokenFilter.{TokenLimits}
use Rattle.qh_spec.specs.TokenLog.{TokenLog}
use Rattle.qh_spec.specs.declared.sides.Side.{Side}
use Rattle.qh_spec.specs.declared.sides.Side.TheVariants.{Client, Server}
use Rattle.std.specs.declared.net.socket_addr.SocketAddr.{SocketAddr}

-- ---- no route more leads to an attempt

abbrev pub NoMore : (old new : Routes) → Type 0
NoMore old new = (key : RouteKey) (k : ℕ) → In (key, target.Incoming k) new → In (key, target.Incoming k) old

no_more : (old new : Routes) → new ≡ old → NoMore old new
no_more old new e key k there = subst (λ (z : Routes). In (key, target.Incoming k) z) e there

after : (old mid new : Routes) → NoMore old mid → NoMore mid new → NoMore old new
after old mid new a b key k there = a key k (b key k there)

by_added : (key : RouteKey) (handle : ConnectionHandle) (old new : Routes) → IsAdded key (target.Connection handle) old new → NoMore old new
by_added key handle old new added k i there = elim ((added k (target.Incoming i)).0 there) [
  | inl (e, is) ↦ absurd (let f : target.Incoming i ≡ target.Connection handle = is in cc)
  | inr (apart, was) ↦ was
]

by_removed : (key : RouteKey) (t : RouteDatagramTo) (old new : Routes) → IsRemovedOf key t old new → NoMore old new
by_removed key t old new removed k i there = ((removed k (target.Incoming i)).0 there).1

by_all_removed : (keys : List RouteKey) (t : RouteDatagramTo) (old new : Routes) → AreRemovedOf keys t old new → NoMore old new
by_all_removed keys t old new removed k i there = ((removed k (target.Incoming i)).0 there).1

by_first : (side : Side) (id : List ℕ) (handle : ConnectionHandle) (old new : Routes) → IsFirstAdded side id (target.Connection handle) old new → NoMore old new
by_first Client id handle old new is = no_more old new is
by_first Server [] handle old new is = no_more old new is
by_first Server (b ∷ id) handle old new is = by_added (initial (b ∷ id)) handle old new is

by_tracked : (id : List ℕ) (handle : ConnectionHandle) (old new : Routes) → IsTracked id handle old new → NoMore old new
by_tracked [] handle old new is = no_more old new is
by_tracked (b ∷ id) handle old new is = by_added _ handle old new is

by_token : (remote : SocketAddr) (token : ResetToken) (handle : ConnectionHandle) (old new : Routes) (earlier : Option (SocketAddr × ResetToken)) → IsTokenReplaced remote token handle old new earlier → NoMore old new
by_token remote token handle old new earlier (first is) = by_added _ handle old new is
by_token remote token handle old new earlier (again e same is) = by_added _ handle old new is
by_token remote token handle old new earlier (later e mid apart is gone) = after old mid new (by_added _ handle old mid is) (by_removed _ _ mid new gone)

pub by_new : {G : Type 0} (old new : PlainConnections G) (handle : ConnectionHandle) (side : Side) (init local_id : List ℕ) (addresses : FourTuple) → IsConnectionAdded old new handle side init local_id addresses → NoMore old.routes new.routes
by_new old new handle side init local_id addresses a = after old.routes a.between new.routes (by_first side init handle old.routes a.between a.first) (by_added _ handle a.between new.routes a.added)

pub by_gone : {G : Type 0} (old new : PlainConnections G) (handle : ConnectionHandle) (m : PlainMeta) → IsConnectionRemoved old new handle m → NoMore old.routes new.routes
by_gone old new handle m r = by_all_removed _ _ old.routes new.routes r.routes

pub by_kept : {G : Type 0} (old new : PlainConnections G) → KeepsConnections old new → NoMore old.routes new.routes
by_kept old new k key i there = k.routes.none_new key (target.Incoming i) there

module _ {G : Type 0} (given : G → List (List ℕ)) (cid_len : G → ℕ) (validates : G → List ℕ → Type 0) (handle : ConnectionHandle) where
  by_issued : (ids : List IssuedCid) (old new : PlainConnections G) → AreIssued given cid_len validates handle ids old new → NoMore old.routes new.routes
  by_issued [] old old' (none c) = λ key k there. there
  by_issued (cid ∷ cids) old new (more cid' cids' m old' mid new' was sequence token fresh size own source tracked meta rest) =
      after old.routes mid.routes new.routes (by_tracked cid.id handle old.routes mid.routes tracked) (by_issued cids mid new rest)

  pub by_event : (event : EndpointEvent) (answer : Option ConnectionEvent) (old new : PlainConnections G) → IsDone given cid_len validates handle old new event answer → NoMore old.routes new.routes
  by_event event answer old new (asked.needed now count m ids told was few size issued is_told) = by_issued ids old new issued
  by_event event answer old new (asked.too_many now count m was many e) = no_more old.routes new.routes (ap (λ (z : PlainConnections G). z.routes) e)
  by_event event answer old new (asked.token remote token m was replaced meta ids) = by_token remote token handle old.routes new.routes _ replaced
  by_event event answer old new (asked.not_there now sequence allow m was absent e) = no_more old.routes new.routes (ap (λ (z : PlainConnections G). z.routes) e)
  by_event event answer old new (asked.retired now sequence allow m id was last gone) = by_removed _ _ old.routes new.routes gone.routes
  by_event event answer old new (asked.replaced now sequence m id cid mid told was few issued gone there is_told) =
      after old.routes mid.routes new.routes (by_issued (cid ∷ []) old mid issued) (by_removed _ _ mid.routes new.routes gone.routes)
  by_event event answer old new (asked.drained m was removed ids) = by_gone old new handle m removed
  by_event event answer old new (asked.unknown was e) = no_more old.routes new.routes (ap (λ (z : PlainConnections G). z.routes) e)

  pub by_exhausted : (event : EndpointEvent) (old new : PlainConnections G) → IsExhausted given cid_len validates handle old new event → NoMore old.routes new.routes
  by_exhausted event old new (asked.needed now count m ids mid last was few size issued out kept_are ids_are) = by_kept old new kept_are
  by_exhausted event old new (asked.retired now sequence m id mid was few out same gone) =
      after old.routes mid.routes new.routes (no_more old.routes mid.routes (ap (λ (z : PlainConnections G). z.routes) same)) (by_removed _ _ mid.routes new.routes gone.routes)

  pub by_wanting : (event : EndpointEvent) (old new : PlainConnections G) → IsWanting given cid_len validates handle old new event → NoMore old.routes new.routes
  by_wanting event old new (asked.needed now count m ids mid last was few size issued drawn kept_are ids_are) = by_kept old new kept_are
  by_wanting event old new (asked.token remote token absent e) = no_more old.routes new.routes (ap (λ (z : PlainConnections G). z.routes) e)
  by_wanting event old new (asked.replaced now sequence m id was few there drawn kept_are) = by_kept old new kept_are

-- ---- what an endpoint does

module _ {K G R T : Type 0} where
  -- nothing happened to those that wait
  pub unled : (old new : PlainEndpoint K G R T) → NoMore old.connections.routes new.connections.routes → new.incoming ≡ old.incoming → AreLed old → AreLed new
  unled old new fewer same led key k there = let was = led key k (fewer key k there) in (was.0, ap (λ (b : PlainBuffers Waiting). attempt_at b k) same ∙ was.1, was.2)

  -- neither routes nor attempts changed
  as_before : (old new : PlainEndpoint K G R T) → new.connections.routes ≡ old.connections.routes → new.incoming ≡ old.incoming → AreLed old → AreLed new
  as_before old new e same led = unled old new (no_more old.connections.routes new.connections.routes e) same led

  pub unclosed_led : (given : G → List (List ℕ)) (old new : PlainEndpoint K G R T) (written : List ℕ) → IsUnclosed given old new written → AreLed old → AreLed new
  unclosed_led given old new written c led = as_before old new (ap (λ (z : PlainEndpoint K G R T). z.connections.routes) c.rest) (ap (λ (z : PlainEndpoint K G R T). z.incoming) c.rest) led

  pub left : (name : AttemptKey) (attempt : PlainAttempt Waiting) (old new : PlainEndpoint K G R T) → HasLeft name attempt old new → AreLed old → AreLed new
  left name waited old new gone led key k there =
      let still = (gone.routes key (target.Incoming k)).0 there in
      let was = led key k still.1 in
      elim (cases_eq k name.key) [
        | inl e ↦ absurd (
            let there_was : attempt_at old.incoming name.key ≡ Some was.0 = ap (attempt_at old.incoming) (sym e) ∙ was.1 in
            let one : was.0 ≡ waited = same_attempt was.0 waited (sym there_was ∙ gone.was) in
            still.0 (was.2 ∙ ap (λ (a : PlainAttempt Waiting). initial a.config.first.destination) one, ap target.Incoming e))
        | inr apart ↦ (was.0, gone.gone.others k apart ∙ was.1, was.2)
      ]

  module _ {S : Type 0} (cid_len : G → ℕ) (validates : G → List ℕ → Type 0) (given : G → List (List ℕ)) (drawn : R → List ℕ) (limits : T → TokenLimits) (stands : T → TokenLog → Type 0) (key : S → List ℕ)
      (sealed : S → SealsTag) (now : Moment) (addresses : FourTuple) (datagram written : List ℕ) (old new : PlainEndpoint K G R T) (led : AreLed old) where
    -- those that waited still do, and no route more leads to one
    waits_still : (key' : RouteKey) (a : PlainAttempt Waiting) (slot : Option (PlainAttempt Waiting)) → StillWaits now addresses.remote datagram a slot → key' ≡ initial a.config.first.destination
        → (b : PlainAttempt Waiting) × (slot ≡ Some b) × (key' ≡ initial b.config.first.destination)
    waits_still key' a slot (inl e) is = (a, e, is)
    waits_still key' a slot (inr e) is = (_, e, is)

    abbrev pub Goes : Option DatagramEvent → Type 0
    Goes event = IsHandled {S = S} cid_len validates given drawn limits stands key sealed now addresses datagram old new written event

    by_old : (event : Option DatagramEvent) → Goes event → (key' : RouteKey) (k : ℕ) → In (key', target.Incoming k) old.connections.routes → (a : PlainAttempt Waiting) × (attempt_at new.incoming k ≡ Some a) × (key' ≡ initial a.config.first.destination)
    by_old event goes key' k there = let was = led key' k there in waits_still key' was.0 _ (stays _ _ _ _ _ _ _ _ now addresses datagram written old new k was.0 was.1 event goes) was.2

    with_same : (event : Option DatagramEvent) → Goes event → new.connections.routes ≡ old.connections.routes → AreLed new
    with_same event goes e key' k there = by_old event goes key' k (no_more old.connections.routes new.connections.routes e key' k there)

    routes_of : new ≡ old → new.connections.routes ≡ old.connections.routes
    routes_of e = ap (λ (z : PlainEndpoint K G R T). z.connections.routes) e

    of_kept : (at : ℕ) → IsKept at now addresses.remote datagram old new → new.connections.routes ≡ old.connections.routes
    of_kept at (handled.kept w room there put numbered count total rest) = ap (λ (z : PlainEndpoint K G R T). z.connections.routes) rest
    of_kept at (handled.dropped none_left e) = routes_of e

    of_negotiated : (version : ℕ) (destination source : List ℕ) (event : Option DatagramEvent) → IsNegotiated {S = S} cid_len validates given drawn limits stands key sealed now addresses datagram version destination source old new written event
        → new.connections.routes ≡ old.connections.routes
    of_negotiated version destination source event (handled.silent why e empty) = routes_of e
    of_negotiated version destination source event (handled.told server word has large words bytes rest) = ap (λ (z : PlainEndpoint K G R T). z.connections.routes) rest

    of_reset : (mid : PlainEndpoint K G R T) (id : List ℕ) (event : Option DatagramEvent) → IsReset {S = S} cid_len validates given drawn limits stands key sealed now addresses datagram id mid new written event
        → mid.connections.routes ≡ old.connections.routes → new.connections.routes ≡ old.connections.routes
    of_reset mid id event (handled.none why e empty) same = ap (λ (z : PlainEndpoint K G R T). z.connections.routes) e ∙ same
    of_reset mid id event (handled.sent words late large is bytes short rest) same = ap (λ (z : PlainEndpoint K G R T). z.connections.routes) rest ∙ same

    of_waiting : (event : Option DatagramEvent) → Goes event → (mid : PlainEndpoint K G R T) (packet : FirstPacket) (server : ServerConfig) (incoming : Incoming) (destination : List ℕ) → packet.destination ≡ destination
        → IsWaiting {S = S} cid_len validates given drawn limits stands key sealed now addresses datagram packet server mid new incoming → mid.connections.routes ≡ old.connections.routes → AreLed new
    of_waiting event goes mid packet server incoming [] empty w same key' k there = with_same event goes (w.unled empty ∙ same) key' k there
    of_waiting event goes mid packet server incoming (b ∷ id) is w same key' k there = elim ((w.led (λ (e : packet.destination ≡ []). let f = sym e ∙ is in cc) key' (target.Incoming k)).0 there) [
      | inl (e, to) ↦ let here : k ≡ incoming.key.key = (let t : target.Incoming k ≡ target.Incoming incoming.key.key = to in cc) in (_, ap (attempt_at new.incoming) here ∙ w.waits.there, e)
      | inr (apart, was) ↦ by_old event goes key' k (subst (λ (z : Routes). In (key', target.Incoming k) z) same was)
    ]

    pub handled_led : (event : Option DatagramEvent) → Goes event → AreLed new
    handled_led event (malformed bad e empty) = with_same event (malformed bad e empty) (routes_of e)
    handled_led event (unsupported version d s event' bad negotiated) = with_same event (unsupported version d s event' bad negotiated) (of_negotiated version d s event' negotiated)
    handled_led event (kept h at is to is_kept empty) = with_same event (kept h at is to is_kept empty) (of_kept at is_kept)
    handled_led event (connection h handle is to e empty) = with_same event (connection h handle is to e empty) (routes_of e)
    handled_led event (ignored h is to judged empty) = with_same event (ignored h is to judged empty) (ap (λ (z : PlainEndpoint K G R T). z.connections.routes) (only_log judged))
    handled_led event (unknown h mid id event' is to judged reset) = with_same event (unknown h mid id event' is to judged reset) (of_reset mid id event' reset (ap (λ (z : PlainEndpoint K G R T). z.connections.routes) (only_log judged)))
    handled_led event (refused h mid d s code is to judged shut) = with_same event (refused h mid d s code is to judged shut)
        (ap (λ (z : PlainEndpoint K G R T). z.connections.routes) shut.from.rest ∙ ap (λ (z : PlainEndpoint K G R T). z.connections.routes) (only_log judged))
    handled_led event (attempt h mid packet server incoming is to judged w empty) =
        of_waiting event (attempt h mid packet server incoming is to judged w empty) mid packet server incoming packet.destination refl w (ap (λ (z : PlainEndpoint K G R T). z.connections.routes) (only_log judged))

    abbrev pub Fails : Type 0
    Fails = IsUnhandled {S = S} cid_len validates given drawn limits stands key sealed now addresses datagram old new written

    failing : Fails → new.connections.routes ≡ old.connections.routes → AreLed new
    failing fails e key' k there =
        let was = led key' k (no_more old.connections.routes new.connections.routes e key' k there) in
        waits_still key' was.0 _ (stays_unhandled _ _ _ _ _ _ _ _ now addresses datagram written old new k was.0 was.1 fails) was.2

    pub unhandled_led : Fails → AreLed new
    unhandled_led (negotiating version d s server word bad has large words rest empty) = failing (negotiating version d s server word bad has large words rest empty) (ap (λ (z : PlainEndpoint K G R T). z.connections.routes) rest)
    unhandled_led (keeping h at is to room e empty) = failing (keeping h at is to room e empty) (routes_of e)
    unhandled_led (looking h is to (unnoted version first_byte d s token server has can first_id bits taken rest) empty) =
        failing (looking h is to (unnoted version first_byte d s token server has can first_id bits taken rest) empty) (ap (λ (z : PlainEndpoint K G R T). z.connections.routes) rest)
    unhandled_led (resetting h mid id is to judged late large words rest empty) = failing (resetting h mid id is to judged late large words rest empty)
        (ap (λ (z : PlainEndpoint K G R T). z.connections.routes) rest ∙ ap (λ (z : PlainEndpoint K G R T). z.connections.routes) (only_log judged))
    unhandled_led (closing h mid d s code is to judged gone) = failing (closing h mid d s code is to judged gone)
        (ap (λ (z : PlainEndpoint K G R T). z.connections.routes) gone.rest ∙ ap (λ (z : PlainEndpoint K G R T). z.connections.routes) (only_log judged))
    unhandled_led (waiting h mid packet server is to judged gone empty) = failing (waiting h mid packet server is to judged gone empty)
        (ap (λ (z : PlainEndpoint K G R T). z.connections.routes) gone.rest ∙ ap (λ (z : PlainEndpoint K G R T). z.connections.routes) (only_log judged))

-- ---- an attempt is answered

module _ {K G R T S : Type 0} (cid_len : G → ℕ) (validates : G → List ℕ → Type 0) (given : G → List (List ℕ)) where
  pub closed_led : (key : S → List ℕ) (sealed : S → SealsTag) (destination source : List ℕ) (error : TransportError) (old new : PlainEndpoint K G R T) (written : List ℕ)
      → IsClosed cid_len validates given key sealed destination source error old new written → AreLed old → AreLed new
  closed_led key sealed destination source error old new written c led = as_before old new (ap (λ (z : PlainEndpoint K G R T). z.connections.routes) c.from.rest) (ap (λ (z : PlainEndpoint K G R T). z.incoming) c.from.rest) led

  module _ (v : SessionView S) (server : ServerConfig) (w : Waiting) (now : Moment) (old new : PlainEndpoint K G R T) (led : AreLed old) where
    admitted_led : (mid : PlainEndpoint K G R T) (id : List ℕ) (session : S) → IsAdmitted cid_len validates given v server w now old mid id session → AreLed mid
    admitted_led mid id session a = as_before old mid (ap (λ (z : PlainEndpoint K G R T). z.connections.routes) a.rest) (ap (λ (z : PlainEndpoint K G R T). z.incoming) a.rest) led

    pub accepted_led : (datagrams : List KeptDatagram) (handle : ConnectionHandle) (connection : Connection S) → IsAccepted cid_len validates given v server w now datagrams old new handle connection → AreLed new
    accepted_led datagrams handle conn a =
        unled a.mid new (by_new a.mid.connections new.connections handle _ _ _ _ a.added) (ap (λ (z : PlainEndpoint K G R T). z.incoming) a.rest) (admitted_led a.mid a.local_id a.session a.admitted)

    lost_led : (c : Connection S) (written : List ℕ) (e : AcceptError) (gone : PlainEndpoint K G R T) → IsLost cid_len validates given v w c gone new written e → AreLed gone → AreLed new
    lost_led c written e gone (closed error is is_closed) l = closed_led v.key v.sealed _ _ error gone new written is_closed l
    lost_led c written e gone (silent cause is none_told same empty) l = subst (λ (z : PlainEndpoint K G R T). AreLed z) (sym same) l
    lost_led c written e gone (accepting.unclosed error is is_unclosed) l = unclosed_led given gone new written is_unclosed l

    pub unaccepted_led : (written : List ℕ) (e : AcceptError) → IsNotAccepted cid_len validates given v server w now old new written e → AreLed new
    unaccepted_led written e (stale is same empty) = subst (λ (z : PlainEndpoint K G R T). AreLed z) (sym same) led
    unaccepted_led written e (exhausted fresh full is_closed) = closed_led v.key v.sealed _ _ _ old new written is_closed led
    unaccepted_led written e (formless timely no_form same empty) = subst (λ (z : PlainEndpoint K G R T). AreLed z) (sym same) led
    unaccepted_led written e (untaken session timely is_first bad rest empty) = as_before old new (ap (λ (z : PlainEndpoint K G R T). z.connections.routes) rest) (ap (λ (z : PlainEndpoint K G R T). z.incoming) rest) led
    unaccepted_led written e (none_fresh mid session welcome no_id same from) =
        let between : AreLed mid = as_before old mid (ap (λ (z : PlainEndpoint K G R T). z.connections.routes) same) (ap (λ (z : PlainEndpoint K G R T). z.incoming) same) led in
        as_before mid new (ap (λ (z : PlainEndpoint K G R T). z.connections.routes) from.rest) (ap (λ (z : PlainEndpoint K G R T). z.incoming) from.rest) between
    unaccepted_led written e (failed local_id session mid gone conn e' admitted begun fleeting ids same lost) =
        let between : NoMore mid.connections.routes gone.connections.routes =
        after mid.connections.routes fleeting.between.routes gone.connections.routes (by_new mid.connections fleeting.between fleeting.handle _ _ _ _ fleeting.added) (by_gone fleeting.between gone.connections fleeting.handle fleeting.meta fleeting.removed) in
        lost_led conn written e gone lost (unled mid gone between (ap (λ (z : PlainEndpoint K G R T). z.incoming) same) (admitted_led mid local_id session admitted))
    unaccepted_led written e (unclosed fresh full is_unclosed) = unclosed_led given old new written is_unclosed led
    unaccepted_led written e (no_session timely form rest empty) = as_before old new (ap (λ (z : PlainEndpoint K G R T). z.connections.routes) rest) (ap (λ (z : PlainEndpoint K G R T). z.incoming) rest) led
    unaccepted_led written e (unanswered mid session welcome no_id same rest empty) =
        let between : AreLed mid = as_before old mid (ap (λ (z : PlainEndpoint K G R T). z.connections.routes) same) (ap (λ (z : PlainEndpoint K G R T). z.incoming) same) led in
        as_before mid new (ap (λ (z : PlainEndpoint K G R T). z.connections.routes) rest) (ap (λ (z : PlainEndpoint K G R T). z.incoming) rest) between
    unaccepted_led written e (unbegun local_id session mid admitted is_kept ids same empty) =
        unled mid new (by_kept mid.connections new.connections is_kept) (ap (λ (z : PlainEndpoint K G R T). z.incoming) same) (admitted_led mid local_id session admitted)

-- ---- a connection begins at this end

module _ {K G R T S : Type 0} (id_length : ℕ) (given : G → List (List ℕ)) (validates : G → List ℕ → Type 0) (key name : S → List ℕ) (knows : S → Bool) (now : Moment) (config : ClientConfig) (remote : SocketAddr) (server_name : List ℕ)
    (old new : PlainEndpoint K G R T) (led : AreLed old) where
  pub connected_led : (handle : ConnectionHandle) (connection : Connection S) → IsConnected id_length given validates key name knows now config remote server_name old new handle connection → AreLed new
  connected_led handle conn c =
      unled old new (by_new (record old.connections { ids = new.connections.ids }) new.connections handle _ _ _ _ c.added) (ap (λ (z : PlainEndpoint K G R T). z.incoming) c.rest) led

  pub unconnected_led : (e : ConnectError) → IsConnectRefused {S = S} id_length given validates key name knows now config remote server_name old new e → AreLed new
  unconnected_led e (connecting.exhausted full same) = subst (λ (z : PlainEndpoint K G R T). AreLed z) (sym same) led
  unconnected_led e (connecting.nowhere some is same) = subst (λ (z : PlainEndpoint K G R T). AreLed z) (sym same) led
  unconnected_led e (connecting.unspoken some somewhere is same) = subst (λ (z : PlainEndpoint K G R T). AreLed z) (sym same) led
  unconnected_led e (connecting.none_fresh may no_id same) = unled old new (no_more old.connections.routes new.connections.routes (ap (λ (z : PlainEndpoint K G R T). z.connections.routes) same)) (ap (λ (z : PlainEndpoint K G R T). z.incoming) same) led
  unconnected_led e (connecting.no_name id may is unnamed same) = unled old new (no_more old.connections.routes new.connections.routes (ap (λ (z : PlainEndpoint K G R T). z.connections.routes) same)) (ap (λ (z : PlainEndpoint K G R T). z.incoming) same) led
  unconnected_led e (connecting.wanting id may is named is_kept same) = unled old new (by_kept old.connections new.connections is_kept) (ap (λ (z : PlainEndpoint K G R T). z.incoming) same) led

-- ---- an attempt is answered by a Retry packet, or isn't yet

module _ {K G R T : Type 0} (cid_len : G → ℕ) (validates : G → List ℕ → Type 0) (given : G → List (List ℕ)) (drawn : R → List ℕ) (w : Waiting) (old new : PlainEndpoint K G R T) (led : AreLed old) where
  pub written_led : (now : Moment) (written : List ℕ) → IsRetryWritten cid_len validates given drawn now w old new written → AreLed new
  written_led now written r = as_before old new (ap (λ (z : PlainEndpoint K G R T). z.connections.routes) r.rest) (ap (λ (z : PlainEndpoint K G R T). z.incoming) r.rest) led

  pub not_retried_led : (fault : RetryFault) → IsNotRetried cid_len validates given drawn w old new fault → AreLed new
  not_retried_led fault (retrying.answered may same) = subst (λ (z : PlainEndpoint K G R T). AreLed z) (sym same) led
  not_retried_led fault (retrying.none_fresh may no_id rest) = as_before old new (ap (λ (z : PlainEndpoint K G R T). z.connections.routes) rest) (ap (λ (z : PlainEndpoint K G R T). z.incoming) rest) led
  not_retried_led fault (retrying.wanting id high low may is words rest) = as_before old new (ap (λ (z : PlainEndpoint K G R T). z.connections.routes) rest) (ap (λ (z : PlainEndpoint K G R T). z.incoming) rest) led
