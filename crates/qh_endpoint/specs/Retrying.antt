-- How an attempt is answered by a Retry packet, and tokens for later connections (RFC 9000, sections 8.1.2, 8.1.3 and 17.2.5).
use Rattle.std.specs.Prelude.{◌≡◌, ℕ, ◌+◌, ◌*◌, ◌<◌, ◌^◌, true, false, List, [], ◌∷◌, length, is_some}
use Rattle.std.specs.Net.Socket.{socket_ip, socket_port}
use Rattle.std.specs.declared.net.ip_addr.IpAddr.{IpAddr}
use Rattle.std.specs.declared.net.socket_addr.SocketAddr.{SocketAddr}
use Rattle.qh_base.specs.declared.time.Moment.{Moment}
use Rattle.qh_connections.specs.Ids.{AreNoneFreshBut, IsFreshBut}
use Rattle.qh_endpoint.specs.Endpoint.{PlainEndpoint}
use Rattle.qh_endpoint.specs.declared.incoming.Waiting.{Waiting}
use Rattle.qh_endpoint.specs.declared.retrying.RetryFault.{RetryFault}
use Rattle.qh_endpoint.specs.declared.retrying.RetryFault.TheVariants.{Answered, CidsExhausted, Memory}
use Rattle.qh_packet.specs.Retry.{retry_bytes}
use Rattle.qh_stateless.specs.Words.{and_words}
use Rattle.qh_token.specs.Token.{IsToken, Retry, TokenValue, Validation, octets}

-- two words make the nonce of a token
abbrev pub nonce_of : (high low : ℕ) → ℕ
nonce_of high low = 2 ^ 64 * high + low

-- the token of a Retry packet says where the client is, and to which id its first packet went
abbrev pub retry_token : (nonce : ℕ) → SocketAddr → (original : List ℕ) → Moment → TokenValue
retry_token nonce remote original now =
    record { nonce = nonce; kind = Retry; address = octets (socket_ip remote); port = socket_port remote; original = original; issued = now.0 }

-- one for a later connection says at which address the client is
abbrev pub later_token : (nonce : ℕ) → IpAddr → Moment → TokenValue
later_token nonce remote now = record { nonce = nonce; kind = Validation; address = octets remote; port = 0; original = []; issued = now.0 }

module _ {K G R T : Type 0} (cid_len : G → ℕ) (validates : G → List ℕ → Type 0) (given : G → List (List ℕ)) (drawn : R → List ℕ) where
  -- The Retry packet to the client of this attempt is written. It comes from an id that isn't issued, has no route as that of a client's first packets,
  -- and isn't that of the attempt's first packet, one of the endpoint's own, which isn't issued by it. Where ids are empty it is the empty one.
  pub record IsRetryWritten (now : Moment) (w : Waiting) (old new : PlainEndpoint K G R T) (written : List ℕ) : Type 0 where
    pub may : is_some w.first.token.retry_src_cid ≡ false
    pub id : List ℕ
    pub fresh : IsFreshBut old.connections.routes w.first.destination (given old.connections.ids) (given new.connections.ids) id
    pub size : length id ≡ cid_len old.connections.ids
    pub own : validates new.connections.ids id
    pub high : ℕ
    pub low : ℕ
    pub fits : (high < 2 ^ 64) × (low < 2 ^ 64)
    pub words : drawn new.words ≡ and_words (drawn old.words) (high ∷ low ∷ [])
    pub token : List ℕ
    pub token_is : IsToken token (retry_token (nonce_of high low) w.addresses.remote w.first.destination now)
    pub written_is : written ≡ retry_bytes w.first.source id token w.first.destination
    pub rest : new ≡ record old { words = new.words; connections = record old.connections { ids = new.connections.ids } }

  -- Why none is written. The attempt waits as before; ids may have been drawn, and two words.
  pub data IsNotRetried (w : Waiting) (old new : PlainEndpoint K G R T) : RetryFault → Type 0 where
    answered : is_some w.first.token.retry_src_cid ≡ true → new ≡ old → IsNotRetried w old new Answered
    none_fresh : is_some w.first.token.retry_src_cid ≡ false → AreNoneFreshBut old.connections.routes w.first.destination (given old.connections.ids) (given new.connections.ids)
        → new ≡ record old { connections = record old.connections { ids = new.connections.ids } } → IsNotRetried w old new CidsExhausted
    wanting : (id : List ℕ) (high low : ℕ) → is_some w.first.token.retry_src_cid ≡ false → IsFreshBut old.connections.routes w.first.destination (given old.connections.ids) (given new.connections.ids) id
        → drawn new.words ≡ and_words (drawn old.words) (high ∷ low ∷ [])
        → new ≡ record old { words = new.words; connections = record old.connections { ids = new.connections.ids } } → IsNotRetried w old new Memory
