-- How an endpoint begins a connection to a server (RFC 9000, sections 5.2, 6 and 7.2).
use Rattle.std.specs.Prelude.{◌≡◌, ◌⊎◌, ℕ, Bool, true, ◌<◌, false, List, [], length, Contains, None}
use Rattle.std.specs.Net.Addr.{IsUnspecifiedV4, IsUnspecifiedV6, MatchIp}
use Rattle.std.specs.Net.Socket.{socket_ip, socket_port}
use Rattle.std.specs.declared.net.socket_addr.SocketAddr.{SocketAddr}
use Rattle.qh_base.specs.declared.path.FourTuple.{FourTuple}
use Rattle.qh_base.specs.declared.time.Moment.{Moment}
use Rattle.qh_conn.specs.Greeting.{no_early}
use Rattle.qh_conn.specs.Parameters.{IsFirstCore, IsFirstHandshake, IsSaid, first_control}
use Rattle.qh_conn.specs.Whole.{IsWhole, Stands}
use Rattle.qh_conn.specs.declared.config.ConnConfig.{ConnConfig}
use Rattle.qh_conn.specs.declared.connection.Connection.{Connection}
use Rattle.qh_connections.specs.Connections.{AreExhausted, IsConnectionAdded, IsKept}
use Rattle.qh_connections.specs.Ids.{AreNoneFresh, IsFreshId}
use Rattle.qh_core.specs.Inner.{fresh_stats}
use Rattle.qh_core.specs.Made.{AcceptsTags, MakesTagsOf}
use Rattle.qh_endpoint.specs.Endpoint.{PlainEndpoint, numbers}
use Rattle.qh_handshake.specs.Follows.{IsFresh}
use Rattle.qh_kit.specs.declared.config.ClientConfig.{ClientConfig}
use Rattle.qh_kit.specs.declared.error.ConnectError.{ConnectError}
use Rattle.qh_kit.specs.declared.error.ConnectError.TheVariants.{CidsExhausted, InvalidRemoteAddress, InvalidServerName, Memory, UnsupportedVersion}
use Rattle.qh_packet.specs.Version.{number_of}
use Rattle.qh_routes.specs.Routes.{issued_count}
use Rattle.qh_routes.specs.declared.connection_handle.ConnectionHandle.{ConnectionHandle}
use Rattle.qh_spec.specs.declared.sides.Side.{Side}
use Rattle.qh_spec.specs.declared.sides.Side.TheVariants.{Client}

-- a connection before its first datagram (`Connection::new` of qh_conn)
pub record IsFirstConnection {S : Type 0} (name : S → List ℕ) (config : ConnConfig) (side : Side) (session : S) (key_id local_id remote_id : List ℕ) (addresses : FourTuple) (now : Moment) (c : Connection S) : Type 0 where
  pub whole : IsWhole c
  pub stands : (hello : List ℕ) × IsFresh hello c.handshake × ((accepts : AcceptsTags S) (sealed : MakesTagsOf S) → Stands accepts sealed hello c [])
  pub handshake : (c.handshake.side ≡ side) × (c.handshake.local_id ≡ local_id) × (c.handshake.original_id ≡ key_id) × (c.handshake.retry_id ≡ None) × (c.handshake.token ≡ []) × (c.handshake.peer ≡ None)
  pub begins : IsFirstHandshake config (name session) key_id remote_id now c.handshake side
  pub said : IsSaid config side local_id key_id c.handshake.parameters
  pub core : IsFirstCore config side session local_id remote_id addresses now c.core
  pub parts : (c.config ≡ config) × (c.is_connected ≡ false) × (c.is_data_due ≡ false) × (c.is_connected_due ≡ false) × (c.is_control_next ≡ false) × (c.early ≡ no_early) × (c.is_lost_logged ≡ false) × (c.udp_tx ≡ fresh_stats) × (c.udp_rx ≡ fresh_stats)
  pub control : c.control ≡ first_control config local_id remote_id addresses.remote c.control.queue.room

-- nothing can be sent there: port 0, or an address that names no host
abbrev pub IsNowhere : SocketAddr → Type 0
IsNowhere remote = (socket_port remote ≡ 0) ⊎ MatchIp (socket_ip remote) IsUnspecifiedV4 IsUnspecifiedV6

-- a name that a hello can't bear, or that names no server
abbrev pub IsNoName : List ℕ → Type 0
IsNoName server_name = (server_name ≡ []) ⊎ (255 < length server_name)

-- the settings of the connection, with the client's version
abbrev pub conn_of : ClientConfig → ConnConfig
conn_of config = record config.conn { version = config.version }

module _ {K G R T S : Type 0} (id_length : ℕ) (given : G → List (List ℕ)) (validates : G → List ℕ → Type 0) (key name : S → List ℕ) (knows : S → Bool) (now : Moment) (config : ClientConfig) (remote : SocketAddr) (server_name : List ℕ) where
  -- nothing of this hinders the endpoint from drawing an id
  pub record MayDraw (e : PlainEndpoint K G R T) : Type 0 where
    pub some_left : AreExhausted id_length (issued_count e.connections.routes) → ⊥
    pub somewhere : IsNowhere remote → ⊥
    pub spoken : Contains (numbers e.config) (number_of config.version)

  -- The endpoint doesn't connect, for the first reason that holds, in this order. Nothing is kept but what was drawn, and for want of memory the kit may
  -- have changed.
  pub data IsConnectRefused (old new : PlainEndpoint K G R T) : ConnectError → Type 0 where
    exhausted : AreExhausted id_length (issued_count old.connections.routes) → new ≡ old → IsConnectRefused old new CidsExhausted
    nowhere : (AreExhausted id_length (issued_count old.connections.routes) → ⊥) → IsNowhere remote → new ≡ old → IsConnectRefused old new (InvalidRemoteAddress remote)
    unspoken : (AreExhausted id_length (issued_count old.connections.routes) → ⊥) → (IsNowhere remote → ⊥) → (Contains (numbers old.config) (number_of config.version) → ⊥) → new ≡ old → IsConnectRefused old new UnsupportedVersion
    none_fresh : MayDraw old → AreNoneFresh old.connections.routes (given old.connections.ids) (given new.connections.ids) → new ≡ record old { connections = record old.connections { ids = new.connections.ids } }
        → IsConnectRefused old new CidsExhausted
    no_name : (id : List ℕ) → MayDraw old → IsFreshId old.connections.routes (given old.connections.ids) (given new.connections.ids) id → IsNoName server_name
        → new ≡ record old { connections = record old.connections { ids = new.connections.ids } } → IsConnectRefused old new InvalidServerName
    wanting : (id : List ℕ) → MayDraw old → IsFreshId old.connections.routes (given old.connections.ids) (given new.connections.ids) id → (IsNoName server_name → ⊥) → IsKept old.connections new.connections → new ≡ record old { kit = new.kit; connections = new.connections } → IsConnectRefused old new Memory

  -- It connects: the connection has a fresh id, and a session with this name and with the id to which its first packet goes.
  pub record IsConnected (old new : PlainEndpoint K G R T) (handle : ConnectionHandle) (connection : Connection S) : Type 0 where
    pub may : MayDraw old
    pub named : IsNoName server_name → ⊥
    pub local_id : List ℕ
    pub fresh : IsFreshId old.connections.routes (given old.connections.ids) (given new.connections.ids) local_id
    -- it is as long as the ids of the endpoint, and one of its own
    pub size : length local_id ≡ id_length
    pub own : validates new.connections.ids local_id
    pub session : S
    pub key_is : key session ≡ config.initial_dst_cid
    pub name_is : name session ≡ server_name
    pub knows_is : knows session ≡ true
    pub added : IsConnectionAdded (record old.connections { ids = new.connections.ids }) new.connections handle Client config.initial_dst_cid local_id (record { remote = remote; local_ip = None })
    pub first : IsFirstConnection name (conn_of config) Client session config.initial_dst_cid local_id config.initial_dst_cid (record { remote = remote; local_ip = None }) now connection
    pub rest : new ≡ record old { kit = new.kit; connections = new.connections }
