-- What a token is taken for, by what it says.
use Rattle.std.proofs.Common.{◌≡◌, ℕ, ◌+◌, ◌≤◌, true, List, Some, None, Result, Ok, Err, refl, subst}
use Rattle.std.specs.Net.Socket.{socket_ip, socket_port}
use Rattle.std.specs.declared.net.ip_addr.IpAddr.{IpAddr}
use Rattle.std.specs.declared.net.socket_addr.SocketAddr.{SocketAddr}
use Rattle.qh_base.specs.declared.time.Moment.{Moment}
use Rattle.qh_incoming_token.specs.IncomingToken.{IsTakenFor, unvalidated, retry, invalid, foreign, used, valid, wanting}
use Rattle.qh_incoming_token.specs.declared.incoming_token.IncomingTokenFault.TheVariants as fault
use Rattle.qh_incoming_token.specs.declared.incoming_token.TokenLifetimes.{TokenLifetimes}
use Rattle.qh_parts.specs.TokenLog.{IsLook}
use Rattle.qh_parts.specs.declared.token_log.TokenFault.{TokenFault}
use Rattle.qh_parts.specs.declared.token_log.TokenFault.TheVariants.{Memory, Reused}
use Rattle.qh_spec.specs.TokenFilter.{TokenLimits}
use Rattle.qh_spec.specs.TokenLog.{TokenLog, Token as Used}
use Rattle.qh_token.specs.Token.{IsToken, octets, said, value_of}
use Rattle.qh_token.specs.declared.token.Token.{Token}
use Rattle.qh_token.specs.declared.token.TokenPayload.{TokenPayload}
use Rattle.qh_token.specs.declared.token.TokenPayload.TheVariants as payload

-- a look at a token that failed so
pub looked_as : {L : Type 0} (limits : L → TokenLimits) (stands : L → TokenLog → Type 0) (old new : L) (t : Used) (f g : TokenFault) → f ≡ g → IsLook limits stands old t (Err f) new → IsLook limits stands old t (Err g) new
looked_as limits stands old new t f g e l = subst (λ (z : TokenFault). IsLook limits stands old t (Err z) new) e l

says : (bytes : List ℕ) (t : Token) (p : TokenPayload) → IsToken bytes (value_of t) → t.payload ≡ p → IsToken bytes (said t.nonce p)
says bytes t p is e = subst (λ (z : TokenPayload). IsToken bytes (said t.nonce z)) e is

module _ {L : Type 0} (limits : L → TokenLimits) (stands : L → TokenLog → Type 0) (lifetimes : TokenLifetimes) (remote : SocketAddr) (now : Moment) (dst_cid bytes : List ℕ) (t : Token) (is : IsToken bytes (value_of t)) where
  module _ (log : L) (address : SocketAddr) (original : List ℕ) (issued : Moment) (e : t.payload ≡ payload.Retry address original issued) where
    -- the sender and the port are those of the token
    abbrev pub Counts : Type 0
    Counts = (octets (socket_ip address) ≡ octets (socket_ip remote)) × (now.0 ≤ issued.0 + lifetimes.retry.0) × (socket_port address ≡ socket_port remote)

    pub as_retry : Counts → IsTakenFor limits stands lifetimes remote now dst_cid bytes log log (Ok (record { retry_src_cid = Some dst_cid; orig_dst_cid = original; validated = true }))
    as_retry c = retry (said t.nonce (payload.Retry address original issued)) (says bytes t (payload.Retry address original issued) is e) refl (record { sender = record { address = c.0; lives = c.1 }; port = c.2 }) refl

    pub as_invalid : (Counts → ⊥) → IsTakenFor limits stands lifetimes remote now dst_cid bytes log log (Err fault.InvalidRetryToken)
    as_invalid n = invalid (said t.nonce (payload.Retry address original issued)) (says bytes t (payload.Retry address original issued) is e) refl (λ c. n (c.sender.address, c.sender.lives, c.port)) refl

  module _ (ip : IpAddr) (issued : Moment) (e : t.payload ≡ payload.Validation ip issued) where
    abbrev pub MayCount : Type 0
    MayCount = (octets ip ≡ octets (socket_ip remote)) × (now.0 ≤ issued.0 + lifetimes.validation.0)

    pub as_foreign : (log : L) → (MayCount → ⊥) → IsTakenFor limits stands lifetimes remote now dst_cid bytes log log (Ok (unvalidated dst_cid))
    as_foreign log n = foreign (said t.nonce (payload.Validation ip issued)) (says bytes t (payload.Validation ip issued) is e) refl (λ c. n (c.address, c.lives)) refl

    abbrev pub Looked : (old new : L) → Result (Unit {0}) TokenFault → Type 0
    Looked old new result = IsLook limits stands old (record { nonce = t.nonce; issued = issued.0; lifetime = lifetimes.validation.0 }) result new

    pub as_used : (old new : L) → MayCount → Looked old new (Err Reused) → IsTakenFor limits stands lifetimes remote now dst_cid bytes old new (Ok (unvalidated dst_cid))
    as_used old new c l = used (said t.nonce (payload.Validation ip issued)) (says bytes t (payload.Validation ip issued) is e) refl (record { address = c.0; lives = c.1 }) l

    pub as_valid : (old new : L) → MayCount → Looked old new (Ok tt) → IsTakenFor limits stands lifetimes remote now dst_cid bytes old new (Ok (record { retry_src_cid = None; orig_dst_cid = dst_cid; validated = true }))
    as_valid old new c l = valid (said t.nonce (payload.Validation ip issued)) (says bytes t (payload.Validation ip issued) is e) refl (record { address = c.0; lives = c.1 }) l

    pub as_wanting : (old new : L) → MayCount → Looked old new (Err Memory) → IsTakenFor limits stands lifetimes remote now dst_cid bytes old new (Err fault.Memory)
    as_wanting old new c l = wanting (said t.nonce (payload.Validation ip issued)) (says bytes t (payload.Validation ip issued) is e) refl (record { address = c.0; lives = c.1 }) l
