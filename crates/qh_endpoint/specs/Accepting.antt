-- How an endpoint accepts an attempt (RFC 9000, sections 5.2.2, 7, 7.2, 7.3 and 8.1; quinn-proto, `Endpoint::accept`).
use Rattle.std.specs.Prelude.{◌≡◌, ◌⊎◌, ℕ, ◌+◌, ◌≤◌, true, false, List, [], ◌∷◌, ◌++◌, length, Option, Some, None}
use Rattle.qh_attempts.specs.declared.attempt.KeptDatagram.{KeptDatagram}
use Rattle.qh_base.specs.declared.connection_error.ConnectionError.{ConnectionError}
use Rattle.qh_base.specs.declared.connection_error.ConnectionError.TheVariants.{CidsExhausted, Memory, TimedOut, TransportError}
use Rattle.qh_base.specs.declared.time.Moment.{Moment}
use Rattle.qh_base.specs.declared.time.Span.{Span}
use Rattle.qh_base.specs.declared.transport_error.TransportError.{TransportError as Fault}
use Rattle.qh_conn.specs.Incoming.{IsDatagramHandled, IsOver, counted_at}
use Rattle.qh_conn.specs.Same.{IsSameConnection}
use Rattle.qh_conn.specs.Unread.{HasFailed, IsOverOf, IsUnread}
use Rattle.qh_conn.specs.Whole.{CarriesOnBy, Stands}
use Rattle.qh_conn.specs.declared.config.ConnConfig.{ConnConfig}
use Rattle.qh_conn.specs.declared.connection.Connection.{Connection}
use Rattle.qh_connections.specs.Connections.{AreExhausted, IsConnectionAdded, IsConnectionRemoved, IsKept, PlainConnections}
use Rattle.qh_connections.specs.Ids.{AreNoneFresh, IsFreshId}
use Rattle.qh_control.specs.declared.event.EndpointEvent.{EndpointEvent}
use Rattle.qh_core.specs.Inner.{is_open}
use Rattle.qh_core.specs.Made.{AcceptsTags, MakesTagsOf}
use Rattle.qh_endpoint.specs.Closed.{IsClosed, IsClosedFrom, IsUnclosed, bare, refused, reply_to}
use Rattle.qh_endpoint.specs.Connecting.{IsFirstConnection}
use Rattle.qh_endpoint.specs.Endpoint.{PlainEndpoint}
use Rattle.qh_endpoint.specs.declared.accepting.AcceptError.{AcceptError}
use Rattle.qh_endpoint.specs.declared.incoming.FirstPacket.{FirstPacket}
use Rattle.qh_endpoint.specs.declared.incoming.Waiting.{Waiting}
use Rattle.qh_handshake.specs.Follows.{IsFresh}
use Rattle.qh_handshake.specs.Handshake.{with_origin}
use Rattle.qh_handshake.specs.Incoming.{SessionView}
use Rattle.qh_kit.specs.declared.config.ServerConfig.{ServerConfig}
use Rattle.qh_packet.specs.Initial.{BeginsWithInitial}
use Rattle.qh_packet.specs.Packet.{IsInitialOpened}
use Rattle.qh_packet.specs.Session.{AcceptsTag, NamesTags}
use Rattle.qh_routes.specs.ConnectionMeta.{PlainMeta}
use Rattle.qh_routes.specs.Routes.{issued_count}
use Rattle.qh_routes.specs.declared.connection_handle.ConnectionHandle.{ConnectionHandle}
use Rattle.qh_spec.specs.Codes as codes
use Rattle.qh_spec.specs.Datagram.{IsInitialForm}
use Rattle.qh_spec.specs.Transcript.{HandedIn}
use Rattle.qh_spec.specs.declared.sides.Side.TheVariants.{Client, Server}

-- the settings of the call, or those under which the attempt came
abbrev pub settings_of : Option ServerConfig → Waiting → ServerConfig
settings_of None w = w.server
settings_of (Some server) w = server

-- those of the connection, with the version of the client's packets
abbrev pub conn_of : ServerConfig → FirstPacket → ConnConfig
conn_of server first = record server.conn { version = first.version }

-- the connection would have been idle for too long already: it begins when the first datagram came
abbrev pub IsStale : ServerConfig → Waiting → Moment → Type 0
IsStale server w now = (idle : Span) × (server.conn.idle ≡ Some idle) × (w.received_at.0 + idle.0 ≤ now.0)

-- the first packet of the datagram is taken with a client's tag (section 17.2.2)
pub record IsOpened (accepts : AcceptsTag) (datagram : List ℕ) : Type 0 where
  pub first : ℕ
  pub destination : List ℕ
  pub source : List ℕ
  pub token : List ℕ
  pub body : List ℕ
  pub rest : List ℕ
  pub number : ℕ
  pub frames : List ℕ
  pub begins : BeginsWithInitial datagram first destination source token body rest
  pub opened : IsInitialOpened accepts Client 0 first body number frames

-- The datagram begins with an Initial packet of version 1 (section 17.2.2). One without the fixed bit doesn't, which an endpoint that greases that bit
-- lets wait.
abbrev pub HasForm : (datagram : List ℕ) → Type 0
HasForm datagram = (first : ℕ) × (destination : List ℕ) × (source : List ℕ) × (token : List ℕ) × (body : List ℕ) × (rest : List ℕ) × BeginsWithInitial datagram first destination source token body rest

abbrev pub HasNoForm : (datagram : List ℕ) → Type 0
HasNoForm datagram = (front rest body : List ℕ) (first : ℕ) → datagram ≡ front ++ rest → IsInitialForm front first body → ⊥

-- its tag, or what stands before it, is refused
pub record IsRefusedTag (accepts : AcceptsTag) (datagram : List ℕ) : Type 0 where
  pub first : ℕ
  pub destination : List ℕ
  pub source : List ℕ
  pub token : List ℕ
  pub body : List ℕ
  pub rest : List ℕ
  pub begins : BeginsWithInitial datagram first destination source token body rest
  pub unopened : (number : ℕ) (frames : List ℕ) → IsInitialOpened accepts Client 0 first body number frames → ⊥

module _ {S : Type 0} (v : SessionView S) where
  -- a server's session of the id to which the first packet of an attempt goes, which knows no name yet
  pub record IsFirstSession (w : Waiting) (session : S) : Type 0 where
    pub key_is : v.key session ≡ w.first.destination
    pub name_is : v.name session ≡ []
    pub knows_is : v.knows session ≡ false

  -- an open connection ends for want of memory by a datagram, of which what was read by then has no fault (`handle_datagram` of qh_conn)
  pub record IsCutOff (now : Moment) (datagram : List ℕ) (old new : Connection S) : Type 0 where
    pub was_open : is_open old.core.state ≡ true
    pub over : IsOver new
    pub same_end : (told : List EndpointEvent) × IsOverOf told (counted_at (length datagram) old) new
    pub mid : Connection S
    pub unread : IsUnread v now datagram (counted_at (length datagram) old) mid
    pub failed : HasFailed mid new

  -- a datagram is handed to the connection, which takes it, or ends for want of memory
  pub record IsHanded (now : Moment) (datagram : List ℕ) (old new : Connection S) : Type 0 where
    pub taken : IsDatagramHandled v now datagram old new ⊎ IsCutOff now datagram old new
    pub carries : NamesTags (v.accepts old.core.session) → CarriesOnBy v.accepts v.sealed old new (HandedIn datagram ∷ [])
    pub same : IsSameConnection v.key old new

  -- these are, in order
  pub data AreHanded : List KeptDatagram → (old new : Connection S) → Type 0 where
    none : (c : Connection S) → AreHanded [] c c
    more : (d : KeptDatagram) (ds : List KeptDatagram) (old mid new : Connection S) → IsHanded d.now d.payload old mid → AreHanded ds mid new → AreHanded (d ∷ ds) old new

  -- A server's connection for this attempt, with this id of its own, before the first datagram. It begins with what the attempt's token says.
  pub record IsReady (server : ServerConfig) (w : Waiting) (local_id : List ℕ) (session : S) (connection : Connection S) : Type 0 where
    pub session_is : IsFirstSession w session
    pub fresh : Connection S
    pub begins : IsFirstConnection v.name (conn_of server w.first) Server session w.first.destination local_id w.first.source w.addresses w.received_at fresh
    pub stands : (hello : List ℕ) × IsFresh hello connection.handshake × ((accepts : AcceptsTags S) (sealed : MakesTagsOf S) → Stands accepts sealed hello connection [])
    pub ready_is : connection ≡ record fresh { handshake = with_origin fresh.handshake w.first.token.orig_dst_cid w.first.token.retry_src_cid w.first.token.validated }

  -- and behind it
  pub record IsBegun (server : ServerConfig) (w : Waiting) (local_id : List ℕ) (session : S) (connection : Connection S) : Type 0 where
    pub before : Connection S
    pub ready : IsReady server w local_id session before
    pub handed : IsHanded w.received_at w.datagram before connection

-- The connection was added and removed again.
pub record IsFleeting {G : Type 0} (w : Waiting) (local_id : List ℕ) (old new : PlainConnections G) : Type 0 where
  pub handle : ConnectionHandle
  pub between : PlainConnections G
  pub meta : PlainMeta
  pub added : IsConnectionAdded old between handle Server w.first.destination local_id w.addresses
  pub removed : IsConnectionRemoved between new handle meta

module _ {K G R T S : Type 0} (cid_len : G → ℕ) (validates : G → List ℕ → Type 0) (given : G → List (List ℕ)) (v : SessionView S) (w : Waiting) where
  -- What is answered for a connection that was lost: if it found an error of the transport, its client is told.
  pub data IsLost (connection : Connection S) (old new : PlainEndpoint K G R T) (written : List ℕ) : AcceptError → Type 0 where
    closed : (error : Fault) → connection.core.error ≡ Some (TransportError error) → IsClosed cid_len validates given v.key v.sealed w.first.destination w.first.source error old new written
        → IsLost connection old new written (record { cause = TransportError error; response = Some (reply_to w.addresses (length written)) })
    silent : (cause : ConnectionError) → connection.core.error ≡ Some cause → ((error : Fault) → cause ≡ TransportError error → ⊥) → new ≡ old → written ≡ []
        → IsLost connection old new written (record { cause = cause; response = None })
    unclosed : (error : Fault) → connection.core.error ≡ Some (TransportError error) → IsUnclosed given old new written → IsLost connection old new written (record { cause = Memory; response = None })

module _ {K G R T S : Type 0} (cid_len : G → ℕ) (validates : G → List ℕ → Type 0) (given : G → List (List ℕ)) (v : SessionView S) (server : ServerConfig) (w : Waiting) (now : Moment) where
  -- neither is the attempt stale, nor are ids exhausted
  pub record IsTimely (old : PlainEndpoint K G R T) : Type 0 where
    pub fresh : IsStale server w now → ⊥
    pub some_left : AreExhausted (cid_len old.connections.ids) (issued_count old.connections.routes) → ⊥

  -- and the first packet is taken, with such a session
  pub record IsWelcome (old : PlainEndpoint K G R T) (session : S) : Type 0 where
    pub timely : IsTimely old
    pub session_is : IsFirstSession v w session
    pub opened : IsOpened (v.accepts session) w.datagram

  -- and the connection has an id that isn't issued, one of the endpoint's own
  pub record IsAdmitted (old new : PlainEndpoint K G R T) (local_id : List ℕ) (session : S) : Type 0 where
    pub welcome : IsWelcome old session
    pub id : IsFreshId old.connections.routes (given old.connections.ids) (given new.connections.ids) local_id
    pub size : length local_id ≡ cid_len old.connections.ids
    pub own : validates new.connections.ids local_id
    pub rest : new ≡ record old { kit = new.kit; connections = record old.connections { ids = new.connections.ids } }

  -- The connection is open behind the first datagram, and is given those that were kept, in order.
  pub record IsAccepted (datagrams : List KeptDatagram) (old new : PlainEndpoint K G R T) (handle : ConnectionHandle) (connection : Connection S) : Type 0 where
    pub local_id : List ℕ
    pub mid : PlainEndpoint K G R T
    -- the one by which the first packet is taken is that of the connection
    pub session : S
    pub admitted : IsAdmitted old mid local_id session
    pub added : IsConnectionAdded mid.connections new.connections handle Server w.first.destination local_id w.addresses
    pub first : Connection S
    pub begun : IsBegun v server w local_id session first
    pub lives : first.core.error ≡ None
    pub handed : AreHanded v datagrams first connection
    pub rest : new ≡ record mid { connections = new.connections }
    pub ids : new.connections.ids ≡ mid.connections.ids

  -- The attempt isn't accepted, and no connection is kept. Its causes but for want of memory are tested in this order, each where those before it don't
  -- hold: it is stale, ids are exhausted, its first packet is refused, no id is fresh, the first datagram closes the connection. Want of memory may come
  -- at each step, where what is tested before that step doesn't hold.
  pub data IsNotAccepted (old new : PlainEndpoint K G R T) (written : List ℕ) : AcceptError → Type 0 where
    stale : IsStale server w now → new ≡ old → written ≡ [] → IsNotAccepted old new written (record { cause = TimedOut; response = None })
    exhausted : (IsStale server w now → ⊥) → AreExhausted (cid_len old.connections.ids) (issued_count old.connections.routes) → IsClosed cid_len validates given v.key v.sealed w.first.destination w.first.source refused old new written
        → IsNotAccepted old new written (record { cause = CidsExhausted; response = Some (reply_to w.addresses (length written)) })
    formless : IsTimely old → HasNoForm w.datagram → new ≡ old → written ≡ []
        → IsNotAccepted old new written (record { cause = TransportError (bare (record { 0 = codes.protocol_violation })); response = None })
    untaken : (session : S) → IsTimely old → IsFirstSession v w session → IsRefusedTag (v.accepts session) w.datagram → new ≡ record old { kit = new.kit } → written ≡ []
        → IsNotAccepted old new written (record { cause = TransportError (bare (record { 0 = codes.protocol_violation })); response = None })
    -- no further id is drawn for the answer
    none_fresh : (mid : PlainEndpoint K G R T) (session : S) → IsWelcome old session → AreNoneFresh old.connections.routes (given old.connections.ids) (given mid.connections.ids)
        → mid ≡ record old { kit = mid.kit; connections = record old.connections { ids = mid.connections.ids } } → IsClosedFrom cid_len validates given v.key v.sealed w.first.destination w.first.destination w.first.source refused mid new written
        → IsNotAccepted old new written (record { cause = CidsExhausted; response = Some (reply_to w.addresses (length written)) })
    -- the first datagram closes the connection, which is forgotten
    failed : (local_id : List ℕ) (session : S) (mid gone : PlainEndpoint K G R T) (connection : Connection S) (e : AcceptError) → IsAdmitted old mid local_id session → IsBegun v server w local_id session connection
        → IsFleeting w local_id mid.connections gone.connections → gone.connections.ids ≡ mid.connections.ids → gone ≡ record mid { connections = gone.connections }
        → IsLost cid_len validates given v w connection gone new written e → IsNotAccepted old new written e
    -- memory is wanting to answer that ids are exhausted
    unclosed : (IsStale server w now → ⊥) → AreExhausted (cid_len old.connections.ids) (issued_count old.connections.routes) → IsUnclosed given old new written
        → IsNotAccepted old new written (record { cause = Memory; response = None })
    -- for a session
    no_session : IsTimely old → HasForm w.datagram → new ≡ record old { kit = new.kit } → written ≡ [] → IsNotAccepted old new written (record { cause = Memory; response = None })
    -- to answer that no id is fresh
    unanswered : (mid : PlainEndpoint K G R T) (session : S) → IsWelcome old session → AreNoneFresh old.connections.routes (given old.connections.ids) (given mid.connections.ids)
        → mid ≡ record old { kit = mid.kit; connections = record old.connections { ids = mid.connections.ids } } → new ≡ record mid { kit = new.kit } → written ≡ []
        → IsNotAccepted old new written (record { cause = Memory; response = None })
    -- for the connection, for which an id was drawn
    unbegun : (local_id : List ℕ) (session : S) (mid : PlainEndpoint K G R T) → IsAdmitted old mid local_id session → IsKept mid.connections new.connections → new.connections.ids ≡ mid.connections.ids
        → new ≡ record mid { connections = new.connections } → written ≡ [] → IsNotAccepted old new written (record { cause = Memory; response = None })
