-- What an end says of itself, and what it begins with (RFC 9000, sections 10.1 and 18.2; RFC 9221, section 3).
use Rattle.std.specs.Prelude.{◌≡◌, ℕ, ◌^◌, min, true, false, List, [], ◌∷◌, length, Option, Some, None, IsSomeAnd}
use Rattle.std.specs.Option.{option_map}
use Rattle.std.specs.declared.net.socket_addr.SocketAddr.{SocketAddr}
use Rattle.qh_base.specs.declared.shared.ResetToken.{ResetToken}
use Rattle.qh_base.specs.declared.path.FourTuple.{FourTuple}
use Rattle.qh_base.specs.declared.time.Moment.{Moment}
use Rattle.qh_conn.specs.declared.config.ConnConfig.{ConnConfig}
use Rattle.qh_control.specs.Control.{first_ids}
use Rattle.qh_control.specs.declared.control.ControlState.{ControlState}
use Rattle.qh_converse.specs.Settled.{milliseconds}
use Rattle.qh_core.specs.Config.{bounded}
use Rattle.qh_core.specs.Inner.{IsNewSpace, fresh_stats}
use Rattle.qh_core.specs.declared.config.ConnConfig.{ConnConfig as CoreConfig}
use Rattle.qh_core.specs.declared.inner.Inner.{Inner}
use Rattle.qh_core.specs.declared.state.State.TheVariants.{Established}
use Rattle.qh_handshake.specs.InitialSpace.{IsUnused, first_stats}
use Rattle.qh_handshake.specs.declared.handshake.Handshake.{Handshake}
use Rattle.qh_handshake.specs.declared.initial_space.HelloState.TheVariants.{Held, Waits}
use Rattle.qh_hello.specs.Greetings.{greeting}
use Rattle.qh_hello.specs.declared.transport_parameters.TransportParameters.{TransportParameters}
use Rattle.qh_spec.specs.Hello.{hello_bytes, hello_of}
use Rattle.qh_spec.specs.declared.sides.Side.{Side}
use Rattle.qh_spec.specs.declared.sides.Side.TheVariants.{Client, Server}
use Rattle.qh_token.specs.Reset.{reset_token_of}

-- a server alone says the token of its stateless resets
abbrev pub token_if_server : Side → ResetToken → Option ResetToken
token_if_server Client token = None
token_if_server Server token = Some token

-- The end with this id says these parameters; a server says beside them which ids the client used (section 7.3). `token` is the token of
-- the stateless resets that belong to the id.
abbrev pub parameters_of : ConnConfig → Side → (id : List ℕ) → (token : ResetToken) → TransportParameters
parameters_of c side id token = record {
  original_destination_connection_id = None;
  max_idle_timeout = milliseconds c.idle;
  stateless_reset_token = token_if_server side token;
  initial_max_data = bounded c.limits.receive_window;
  initial_max_stream_data_bidi_local = bounded c.limits.stream_window;
  initial_max_stream_data_bidi_remote = bounded c.limits.stream_window;
  initial_max_stream_data_uni = bounded c.limits.stream_window;
  initial_max_streams_bidi = min c.limits.max_bidi (2 ^ 60);
  initial_max_streams_uni = min c.limits.max_uni (2 ^ 60);
  active_connection_id_limit = 8;
  initial_source_connection_id = id;
  retry_source_connection_id = None;
  max_datagram_frame_size = option_map (λ (most : ℕ). min most 1200) c.datagram_receive;
}

-- what the end of the 1-RTT packets begins with: a peer that permits nothing yet
abbrev pub core_config : ConnConfig → CoreConfig
core_config c = record {
  limits = c.limits;
  peer = record { max_data = 0; bidi_local = 0; bidi_remote = 0; uni = 0; max_bidi = 0; max_uni = 0 };
  idle = c.idle;
  initial_rtt = c.initial_rtt;
  initial_window = c.initial_window;
  datagram_receive = c.datagram_receive;
  peer_datagram = None;
}

abbrev pub with_key : Side → (key_id : List ℕ) → TransportParameters → TransportParameters
with_key Client key_id p = p
with_key Server key_id p = record p { original_destination_connection_id = Some key_id; retry_source_connection_id = None }

-- An end with this id says these parameters; a server beside them to which id the client's first packet went (section 7.3).
pub record IsSaid (c : ConnConfig) (side : Side) (id key_id : List ℕ) (p : TransportParameters) : Type 0 where
  pub token : ResetToken
  pub token_is : token.0 ≡ reset_token_of id
  pub is : p ≡ with_key side key_id (parameters_of c side id token)

-- the end of the 1-RTT packets before anything came
pub record IsFirstCore {S : Type 0} (c : ConnConfig) (side : Side) (session : S) (local_id remote_id : List ℕ) (addresses : FourTuple) (now : Moment) (core : Inner S) : Type 0 where
  pub space : IsNewSpace core.config side core.space
  pub ping : core.space.is_ping_due ≡ false
  pub is : core ≡ record {
    side = side;
    session = session;
    local_id = local_id;
    remote_id = remote_id;
    addresses = addresses;
    config = core_config c;
    space = core.space;
    idle = record { timeout = c.idle; since = now; has_sent = false };
    state = Established;
    error = None;
    is_lost_told = false;
    is_drained_told = false;
    udp_tx = fresh_stats;
    udp_rx = fresh_stats;
  }

-- A handshake before its first datagram. A client's hello waits to be sent, with the name that is asked for, to the id that it chose; a server
-- holds its own back, and sends to the id from which the client's first packet came. Nothing is known of the round-trip time but the config's.
pub data IsFirstHandshake (c : ConnConfig) (name key_id remote_id : List ℕ) (now : Moment) (h : Handshake) : Side → Type 0 where
  client : h.remote_id ≡ key_id → h.knows_peer ≡ false → h.is_validated ≡ true → h.stats ≡ first_stats c.initial_rtt.0
      → IsSomeAnd h.space (IsUnused (hello_bytes (hello_of (greeting Client name h.parameters))) Waits c.initial_rtt.0 now) → IsFirstHandshake c name key_id remote_id now h Client
  server : h.remote_id ≡ remote_id → h.knows_peer ≡ true → h.is_validated ≡ false → h.stats ≡ first_stats c.initial_rtt.0
      → IsSomeAnd h.space (IsUnused [] Held c.initial_rtt.0 now) → IsFirstHandshake c name key_id remote_id now h Server

-- the frames of its own before anything came or waits; there is memory for so many more that are out; the log is off
abbrev pub first_control : ConnConfig → (local_id remote_id : List ℕ) → (remote : SocketAddr) → (room : ℕ) → ControlState
first_control c local_id remote_id remote room = record {
  remote = remote;
  ids = first_ids remote_id None;
  own_ids = record { id_len = length local_id; issued = 1; active = 0 ∷ [] };
  id_limit = 0;
  queue = record { waiting = []; sent = []; room = room };
  token = None;
  datagrams = record { incoming = []; outgoing = []; is_send_blocked = false };
  datagram_receive = c.datagram_receive;
  datagram_send = c.datagram_send;
  peer_datagram = None;
  is_datagram_due = false;
  is_unblocked_due = false;
  endpoint_events = [];
  log = None;
}
