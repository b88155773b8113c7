-- What a datagram does that comes to an endpoint (RFC 9000, sections 5.2, 6.1, 7, 8.1, 10.3 and 14.1).
use Rattle.std.specs.Prelude.{◌≡◌, ◌≢◌, ◌⊎◌, ℕ, ◌+◌, ◌-◌, ◌<◌, ◌≤◌, List, [], ◌∷◌, ◌++◌, length, Option, Some, None}
use Rattle.std.specs.declared.net.socket_addr.SocketAddr.{SocketAddr}
use Rattle.qh_attempts.specs.Attempts.{HasInstead, HasRoom, IsName, PlainAttempt, attempt_at, attempt_count, total_bytes}
use Rattle.qh_base.specs.declared.path.FourTuple.{FourTuple}
use Rattle.qh_base.specs.declared.time.Moment.{Moment}
use Rattle.qh_base.specs.declared.transport_error.TransportErrorCode.{TransportErrorCode}
use Rattle.qh_conn.specs.declared.event.ConnectionEvent.TheVariants.{Datagram}
use Rattle.qh_endpoint.specs.Closed.{IsClosed, IsUnclosed, bare, reply_to}
use Rattle.qh_endpoint.specs.Endpoint.{PlainEndpoint, limits_of, numbers}
use Rattle.qh_endpoint.specs.Stranger.{IsJudged, IsUnjudged}
use Rattle.qh_endpoint.specs.declared.event.DatagramEvent.{DatagramEvent}
use Rattle.qh_endpoint.specs.declared.event.DatagramEvent.TheVariants.{ConnectionEvent, NewConnection, Response}
use Rattle.qh_endpoint.specs.declared.incoming.FirstPacket.{FirstPacket}
use Rattle.qh_endpoint.specs.declared.incoming.Incoming.{Incoming}
use Rattle.qh_endpoint.specs.declared.incoming.Waiting.{Waiting}
use Rattle.qh_endpoint.specs.declared.stranger.Stranger.TheVariants.{Ignored, Unknown, Refused, Attempt}
use Rattle.qh_kit.specs.declared.config.ServerConfig.{ServerConfig}
use Rattle.qh_packet.specs.Session.{SealsTag}
use Rattle.qh_routes.specs.Routes.{IsAdded, IsRouted, initial, keys_of}
use Rattle.qh_routes.specs.declared.connection_handle.ConnectionHandle.{ConnectionHandle}
use Rattle.qh_routes.specs.declared.connection_index.RouteDatagramTo.{RouteDatagramTo}
use Rattle.qh_routes.specs.declared.connection_index.RouteDatagramTo.TheVariants as target
use Rattle.qh_spec.specs.TokenFilter.{TokenLimits}
use Rattle.qh_spec.specs.TokenLog.{TokenLog}
use Rattle.qh_stateless.specs.Header.{Header, IsHeader, IsMalformed, IsUnsupported}
use Rattle.qh_stateless.specs.Negotiation.{negotiation_bytes}
use Rattle.qh_stateless.specs.Reset.{IsReset as IsResetOf}
use Rattle.qh_stateless.specs.View.{destination_of, is_first}
use Rattle.qh_stateless.specs.Words.{HasDrawn, and_word, and_words}

-- what was written, of so many bytes, goes to where the datagram came from
abbrev pub reply : FourTuple → (size : ℕ) → DatagramEvent
reply addresses size = Response (reply_to addresses size)

-- a datagram is kept for the attempt that waits by this key, behind the others, if there is room for it
pub data IsKept {K G R T : Type 0} (key : ℕ) (now : Moment) (remote : SocketAddr) (datagram : List ℕ) (old new : PlainEndpoint K G R T) : Type 0 where
  kept : (a : PlainAttempt _) → HasRoom old.incoming key (length datagram) → attempt_at old.incoming key ≡ Some a
      → HasInstead old.incoming new.incoming key (Some (record a { datagrams = a.datagrams ++ record { now = now; remote = remote; payload = datagram } ∷ [] }))
      → new.incoming.numbered ≡ old.incoming.numbered → attempt_count new.incoming ≡ attempt_count old.incoming → total_bytes new.incoming ≡ total_bytes old.incoming + length datagram
      → new ≡ record old { incoming = new.incoming } → IsKept key now remote datagram old new
  dropped : (HasRoom old.incoming key (length datagram) → ⊥) → new ≡ old → IsKept key now remote datagram old new

-- an attempt that waited still does, as it was, or this datagram was kept for it behind the others
abbrev pub StillWaits : (now : Moment) (remote : SocketAddr) (datagram : List ℕ) → PlainAttempt Waiting → Option (PlainAttempt Waiting) → Type 0
StillWaits now remote datagram a slot = (slot ≡ Some a) ⊎ (slot ≡ Some (record a { datagrams = a.datagrams ++ record { now = now; remote = remote; payload = datagram } ∷ [] }))

-- an attempt couldn't be let wait: those that wait are the same, and a number may have been given
pub record IsLetGo {K G R T : Type 0} (old new : PlainEndpoint K G R T) : Type 0 where
  pub attempts : (k : ℕ) → attempt_at new.incoming k ≡ attempt_at old.incoming k
  pub count : attempt_count new.incoming ≡ attempt_count old.incoming
  pub bytes : total_bytes new.incoming ≡ total_bytes old.incoming
  pub numbered : (new.incoming.numbered ≡ old.incoming.numbered) ⊎ (new.incoming.numbered ≡ old.incoming.numbered + 1)
  pub rest : new ≡ record old { incoming = new.incoming }

-- What comes to an endpoint. `cid_len` says how long the ids of its generator are, `validates` which it takes for its own, and `given` which it gave;
-- `drawn` says which words were drawn, `limits` and `stands` tell of the log of used tokens, `key` and `sealed` of a session.
module _ {K G R T S : Type 0} (cid_len : G → ℕ) (validates : G → List ℕ → Type 0) (given : G → List (List ℕ)) (drawn : R → List ℕ) (limits : T → TokenLimits) (stands : T → TokenLog → Type 0) (key : S → List ℕ)
    (sealed : S → SealsTag) (now : Moment) (addresses : FourTuple) (datagram : List ℕ) where
  -- a server lists its versions to a datagram that is large enough (section 6.1)
  pub data IsNegotiated (version : ℕ) (destination source : List ℕ) (old new : PlainEndpoint K G R T) (written : List ℕ) : Option DatagramEvent → Type 0 where
    silent : (old.server ≡ None) ⊎ (length datagram < 1200) → new ≡ old → written ≡ [] → IsNegotiated version destination source old new written None
    told : (server : ServerConfig) (word : ℕ) → old.server ≡ Some server → 1200 ≤ length datagram → drawn new.words ≡ and_word (drawn old.words) word
        → written ≡ negotiation_bytes word version destination source (numbers old.config) → new ≡ record old { words = new.words } → IsNegotiated version destination source old new written (Some (reply addresses (length written)))

  -- one was sent so short a time ago that no further one may be
  abbrev pub IsResetEarly : PlainEndpoint K G R T → Type 0
  IsResetEarly e = (last : Moment) × (e.last_reset ≡ Some last) × (now.0 < last.0 + e.config.min_reset_interval.0)

  -- a stateless reset for this id answers a datagram (section 10.3)
  pub data IsReset (id : List ℕ) (old new : PlainEndpoint K G R T) (written : List ℕ) : Option DatagramEvent → Type 0 where
    none : IsResetEarly old ⊎ (length datagram ≤ 21) → new ≡ old → written ≡ [] → IsReset id old new written None
    sent : (words : List ℕ) → (IsResetEarly old → ⊥) → 21 < length datagram → drawn new.words ≡ and_words (drawn old.words) words → IsResetOf (length datagram) id words written → length written < length datagram
        → new ≡ record old { words = new.words; last_reset = Some now } → IsReset id old new written (Some (reply addresses (length written)))

  -- An attempt waits from now on, with this datagram, and nothing is kept for it beside; its client's first packets lead to it. What is handed out
  -- tells of it.
  pub record IsWaiting (first : FirstPacket) (server : ServerConfig) (old new : PlainEndpoint K G R T) (incoming : Incoming) : Type 0 where
    pub addresses_are : incoming.addresses ≡ addresses
    pub token_is : incoming.token ≡ first.token
    pub number : incoming.key.number ≡ old.incoming.numbered
    pub numbered : new.incoming.numbered ≡ old.incoming.numbered + 1
    pub named : IsName new.incoming incoming.key
    pub free : attempt_at old.incoming incoming.key.key ≡ None
    pub waits : HasInstead old.incoming new.incoming incoming.key.key (Some (record { config = record { server = server; received_at = now; addresses = addresses; first = first; datagram = datagram }; datagrams = []; limits = limits_of server; number = incoming.key.number }))
    pub count : attempt_count new.incoming ≡ attempt_count old.incoming + 1
    pub bytes : total_bytes new.incoming ≡ total_bytes old.incoming
    pub led : first.destination ≢ [] → IsAdded (initial first.destination) (target.Incoming incoming.key.key) old.connections.routes new.connections.routes
    pub unled : first.destination ≡ [] → new.connections.routes ≡ old.connections.routes
    pub rest : new ≡ record old { incoming = new.incoming; connections = record old.connections { routes = new.connections.routes } }

  -- the routes that the datagram may have are looked up in order
  abbrev pub IsRoutedTo : PlainEndpoint K G R T → Header → Option RouteDatagramTo → Type 0
  IsRoutedTo e h answer = IsRouted e.connections.routes (keys_of addresses (destination_of h) (is_first h) datagram) answer

  -- What a datagram does.
  pub data IsHandled (old new : PlainEndpoint K G R T) (written : List ℕ) : Option DatagramEvent → Type 0 where
    malformed : IsMalformed (cid_len old.connections.ids) (numbers old.config) old.config.grease_quic_bit datagram → new ≡ old → written ≡ [] → IsHandled old new written None
    unsupported : (version : ℕ) (destination source : List ℕ) (event : Option DatagramEvent) → IsUnsupported (numbers old.config) old.config.grease_quic_bit datagram version destination source
        → IsNegotiated version destination source old new written event → IsHandled old new written event
    kept : (h : Header) (k : ℕ) → IsHeader (cid_len old.connections.ids) (numbers old.config) old.config.grease_quic_bit datagram h → IsRoutedTo old h (Some (target.Incoming k))
        → IsKept k now addresses.remote datagram old new → written ≡ [] → IsHandled old new written None
    connection : (h : Header) (handle : ConnectionHandle) → IsHeader (cid_len old.connections.ids) (numbers old.config) old.config.grease_quic_bit datagram h → IsRoutedTo old h (Some (target.Connection handle))
        → new ≡ old → written ≡ [] → IsHandled old new written (Some (ConnectionEvent handle (Datagram now addresses.remote datagram)))
    ignored : (h : Header) → IsHeader (cid_len old.connections.ids) (numbers old.config) old.config.grease_quic_bit datagram h → IsRoutedTo old h None
        → IsJudged (cid_len old.connections.ids) (validates old.connections.ids) limits stands now addresses.remote (length datagram) old new h Ignored → written ≡ [] → IsHandled old new written None
    unknown : (h : Header) (mid : PlainEndpoint K G R T) (id : List ℕ) (event : Option DatagramEvent) → IsHeader (cid_len old.connections.ids) (numbers old.config) old.config.grease_quic_bit datagram h → IsRoutedTo old h None
        → IsJudged (cid_len old.connections.ids) (validates old.connections.ids) limits stands now addresses.remote (length datagram) old mid h (Unknown id) → IsReset id mid new written event → IsHandled old new written event
    refused : (h : Header) (mid : PlainEndpoint K G R T) (destination source : List ℕ) (code : TransportErrorCode) → IsHeader (cid_len old.connections.ids) (numbers old.config) old.config.grease_quic_bit datagram h → IsRoutedTo old h None
        → IsJudged (cid_len old.connections.ids) (validates old.connections.ids) limits stands now addresses.remote (length datagram) old mid h (Refused destination source code) → IsClosed cid_len validates given key sealed destination source (bare code) mid new written
        → IsHandled old new written (Some (reply addresses (length written)))
    attempt : (h : Header) (mid : PlainEndpoint K G R T) (first : FirstPacket) (server : ServerConfig) (incoming : Incoming)
        → IsHeader (cid_len old.connections.ids) (numbers old.config) old.config.grease_quic_bit datagram h → IsRoutedTo old h None
        → IsJudged (cid_len old.connections.ids) (validates old.connections.ids) limits stands now addresses.remote (length datagram) old mid h (Attempt first server) → IsWaiting first server mid new incoming → written ≡ []
        → IsHandled old new written (Some (NewConnection incoming))

  -- Memory is wanting for what is to be done with a datagram. Nothing is written, and all routes, connections and attempts are as they were. What was
  -- drawn stays drawn, a token that was looked up stays so, and a session may have begun.
  pub data IsUnhandled (old new : PlainEndpoint K G R T) (written : List ℕ) : Type 0 where
    negotiating : (version : ℕ) (destination source : List ℕ) (server : ServerConfig) (word : ℕ) → IsUnsupported (numbers old.config) old.config.grease_quic_bit datagram version destination source → old.server ≡ Some server → 1200 ≤ length datagram
        → drawn new.words ≡ and_word (drawn old.words) word → new ≡ record old { words = new.words } → written ≡ [] → IsUnhandled old new written
    keeping : (h : Header) (k : ℕ) → IsHeader (cid_len old.connections.ids) (numbers old.config) old.config.grease_quic_bit datagram h → IsRoutedTo old h (Some (target.Incoming k)) → HasRoom old.incoming k (length datagram)
        → new ≡ old → written ≡ [] → IsUnhandled old new written
    -- to note that a token was used
    looking : (h : Header) → IsHeader (cid_len old.connections.ids) (numbers old.config) old.config.grease_quic_bit datagram h → IsRoutedTo old h None
        → IsUnjudged (cid_len old.connections.ids) (validates old.connections.ids) limits stands now addresses.remote (length datagram) old new h → written ≡ [] → IsUnhandled old new written
    resetting : (h : Header) (mid : PlainEndpoint K G R T) (id : List ℕ) → IsHeader (cid_len old.connections.ids) (numbers old.config) old.config.grease_quic_bit datagram h → IsRoutedTo old h None
        → IsJudged (cid_len old.connections.ids) (validates old.connections.ids) limits stands now addresses.remote (length datagram) old mid h (Unknown id) → (IsResetEarly mid → ⊥) → 21 < length datagram
        → HasDrawn (length datagram - 16) (drawn mid.words) (drawn new.words) → new ≡ record mid { words = new.words } → written ≡ [] → IsUnhandled old new written
    closing : (h : Header) (mid : PlainEndpoint K G R T) (destination source : List ℕ) (code : TransportErrorCode) → IsHeader (cid_len old.connections.ids) (numbers old.config) old.config.grease_quic_bit datagram h → IsRoutedTo old h None
        → IsJudged (cid_len old.connections.ids) (validates old.connections.ids) limits stands now addresses.remote (length datagram) old mid h (Refused destination source code)
        → IsUnclosed given mid new written → IsUnhandled old new written
    waiting : (h : Header) (mid : PlainEndpoint K G R T) (first : FirstPacket) (server : ServerConfig) → IsHeader (cid_len old.connections.ids) (numbers old.config) old.config.grease_quic_bit datagram h → IsRoutedTo old h None
        → IsJudged (cid_len old.connections.ids) (validates old.connections.ids) limits stands now addresses.remote (length datagram) old mid h (Attempt first server)
        → IsLetGo mid new → written ≡ [] → IsUnhandled old new written
