-- What a datagram is to an endpoint at which nothing has its route (RFC 9000, sections 5.2.2, 8.1.3, 10.3, 14.1 and 17.2; some of it is own).
use Rattle.std.specs.Prelude.{◌≡◌, ◌≢◌, ◌⊎◌, ℕ, ◌<◌, ◌≤◌, ◌-◌, ◌^◌, ◌/◌, ◌%◌, List, [], length, Some, None, Ok, Err}
use Rattle.std.specs.declared.net.socket_addr.SocketAddr.{SocketAddr}
use Rattle.qh_attempts.specs.Attempts.{attempt_count}
use Rattle.qh_base.specs.declared.time.Moment.{Moment}
use Rattle.qh_base.specs.declared.transport_error.TransportErrorCode.{TransportErrorCode}
use Rattle.qh_connections.specs.Connections.{AreExhausted}
use Rattle.qh_endpoint.specs.Endpoint.{PlainEndpoint, lifetimes_of}
use Rattle.qh_endpoint.specs.declared.stranger.Stranger.{Stranger}
use Rattle.qh_endpoint.specs.declared.stranger.Stranger.TheVariants.{Ignored, Unknown, Refused, Attempt}
use Rattle.qh_incoming_token.specs.IncomingToken.{IsTakenFor}
use Rattle.qh_incoming_token.specs.declared.incoming_token.IncomingToken.{IncomingToken}
use Rattle.qh_incoming_token.specs.declared.incoming_token.IncomingTokenFault.TheVariants.{InvalidRetryToken, Memory as Wanting}
use Rattle.qh_kit.specs.declared.config.ServerConfig.{ServerConfig}
use Rattle.qh_packet.specs.Version.{number_of}
use Rattle.qh_packet.specs.declared.version.Version.{Version}
use Rattle.qh_routes.specs.Routes.{issued_count}
use Rattle.qh_spec.specs.Codes as codes
use Rattle.qh_spec.specs.TokenFilter.{TokenLimits}
use Rattle.qh_spec.specs.TokenLog.{TokenLog}
use Rattle.qh_stateless.specs.Header.{Header, Initial, ZeroRtt, Long, Short}

-- the id is long enough for a first one, or the client was told it by a Retry packet or the like
abbrev pub IsFirstId : (id_length : ℕ) → (destination token : List ℕ) → Type 0
IsFirstId id_length destination token = (8 ≤ length destination) ⊎ ((token ≢ []) × (length destination ≡ id_length))

module _ {K G R T : Type 0} (id_length : ℕ) (Validates : List ℕ → Type 0) (limits : T → TokenLimits) (stands : T → TokenLog → Type 0) where
  -- an attempt can't be let wait: its datagram is too small, there is no further id or number, or as many wait as may
  pub data CannotWait (e : PlainEndpoint K G R T) (server : ServerConfig) (size : ℕ) : Type 0 where
    small : size < 1200 → CannotWait e server size
    exhausted : AreExhausted id_length (issued_count e.connections.routes) → CannotWait e server size
    full : server.max_incoming ≤ attempt_count e.incoming → CannotWait e server size
    numbered : e.incoming.numbered ≡ 2 ^ 64 - 1 → CannotWait e server size

  -- What the first header of a datagram of so many bytes says of it, where nothing has its route.
  pub data IsJudged (now : Moment) (remote : SocketAddr) (size : ℕ) (old new : PlainEndpoint K G R T) : Header → Stranger → Type 0 where
    -- no connections are accepted here
    no_server : (version first : ℕ) (destination source token : List ℕ) → old.server ≡ None → new ≡ old → IsJudged now remote size old new (Initial version first destination source token) (Unknown destination)
    unable : (version first : ℕ) (destination source token : List ℕ) (server : ServerConfig) → old.server ≡ Some server → CannotWait old server size → new ≡ old
        → IsJudged now remote size old new (Initial version first destination source token) Ignored
    -- the id to which it goes is too short
    short_id : (version first : ℕ) (destination source token : List ℕ) (server : ServerConfig) (code : TransportErrorCode) → code.0 ≡ codes.protocol_violation → old.server ≡ Some server → (CannotWait old server size → ⊥) → (IsFirstId id_length destination token → ⊥) → new ≡ old
        → IsJudged now remote size old new (Initial version first destination source token) (Refused destination source code)
    -- reserved bits are set, which a connection drops
    reserved : (version first : ℕ) (destination source token : List ℕ) (server : ServerConfig) → old.server ≡ Some server → (CannotWait old server size → ⊥) → IsFirstId id_length destination token → first / 4 % 4 ≢ 0 → new ≡ old
        → IsJudged now remote size old new (Initial version first destination source token) Ignored
    -- it answers a Retry packet, from another address or too late
    invalid : (version first : ℕ) (destination source token : List ℕ) (server : ServerConfig) (code : TransportErrorCode) → code.0 ≡ codes.invalid_token → old.server ≡ Some server → (CannotWait old server size → ⊥) → IsFirstId id_length destination token → first / 4 % 4 ≡ 0
        → IsTakenFor limits stands (lifetimes_of server) remote now destination token old.token_log new.token_log (Err InvalidRetryToken) → new ≡ record old { token_log = new.token_log }
        → IsJudged now remote size old new (Initial version first destination source token) (Refused destination source code)
    attempt : (version first : ℕ) (destination source token : List ℕ) (server : ServerConfig) (known : Version) (taken : IncomingToken) → number_of known ≡ version → old.server ≡ Some server → (CannotWait old server size → ⊥) → IsFirstId id_length destination token → first / 4 % 4 ≡ 0
        → IsTakenFor limits stands (lifetimes_of server) remote now destination token old.token_log new.token_log (Ok taken) → new ≡ record old { token_log = new.token_log }
        → IsJudged now remote size old new (Initial version first destination source token) (Attempt (record { version = known; destination = destination; source = source; token = taken }) server)
    zero_rtt : (version : ℕ) (destination source : List ℕ) → new ≡ old → IsJudged now remote size old new (ZeroRtt version destination source) Ignored
    long : (version : ℕ) (destination source : List ℕ) → new ≡ old → IsJudged now remote size old new (Long version destination source) Ignored
    -- the id is no id of this endpoint's
    foreign : (first : ℕ) (destination : List ℕ) → (destination ≡ []) ⊎ (Validates destination → ⊥) → new ≡ old → IsJudged now remote size old new (Short first destination) Ignored
    -- a connection that isn't known any more had the id
    short : (first : ℕ) (destination : List ℕ) → destination ≢ [] → Validates destination → new ≡ old → IsJudged now remote size old new (Short first destination) (Unknown destination)

  -- memory is wanting to note that a token was used, at the end of what is looked at; the token wasn't used before
  pub data IsUnjudged (now : Moment) (remote : SocketAddr) (size : ℕ) (old new : PlainEndpoint K G R T) : Header → Type 0 where
    unnoted : (version first : ℕ) (destination source token : List ℕ) (server : ServerConfig) → old.server ≡ Some server → (CannotWait old server size → ⊥) → IsFirstId id_length destination token → first / 4 % 4 ≡ 0
        → IsTakenFor limits stands (lifetimes_of server) remote now destination token old.token_log new.token_log (Err Wanting) → new ≡ record old { token_log = new.token_log }
        → IsUnjudged now remote size old new (Initial version first destination source token)
