-- What the token of a client's first Initial says of its sender (RFC 9000, sections 8.1.2 to 8.1.4; the form is own).
use Rattle.std.specs.Prelude.{◌≡◌, ℕ, ◌+◌, ◌≤◌, true, false, List, Some, None, Result, Ok, Err}
use Rattle.std.specs.Net.Socket.{socket_ip, socket_port}
use Rattle.std.specs.declared.net.socket_addr.SocketAddr.{SocketAddr}
use Rattle.qh_base.specs.declared.time.Moment.{Moment}
use Rattle.qh_base.specs.declared.time.Span.{Span}
use Rattle.qh_incoming_token.specs.declared.incoming_token.IncomingToken.{IncomingToken}
use Rattle.qh_incoming_token.specs.declared.incoming_token.IncomingTokenFault.{IncomingTokenFault}
use Rattle.qh_incoming_token.specs.declared.incoming_token.IncomingTokenFault.TheVariants as fault
use Rattle.qh_incoming_token.specs.declared.incoming_token.TokenLifetimes.{TokenLifetimes}
use Rattle.qh_parts.specs.TokenLog.{IsLook}
use Rattle.qh_parts.specs.declared.token_log.TokenFault.{TokenFault}
use Rattle.qh_parts.specs.declared.token_log.TokenFault.TheVariants.{Memory, Reused}
use Rattle.qh_spec.specs.TokenFilter.{TokenLimits}
use Rattle.qh_spec.specs.TokenLog.{Token, TokenLog}
use Rattle.qh_token.specs.Token.{IsToken, TokenValue, Retry, Validation, octets}

-- it was issued to this address, and is used within its life
pub record IsOfSender (v : TokenValue) (lifetime : Span) (remote : SocketAddr) (now : Moment) : Type 0 where
  pub address : v.address ≡ octets (socket_ip remote)
  pub lives : now.0 ≤ v.issued + lifetime.0

-- one of a Retry packet counts at the port to which it was sent too (section 8.1.2)
pub record CountsAsRetry (v : TokenValue) (lifetimes : TokenLifetimes) (remote : SocketAddr) (now : Moment) : Type 0 where
  pub sender : IsOfSender v lifetimes.retry remote now
  pub port : v.port ≡ socket_port remote

-- what a log of used tokens sees of a validation token
abbrev pub logged : TokenValue → TokenLifetimes → Token
logged v lifetimes = record { nonce = v.nonce; issued = v.issued; lifetime = lifetimes.validation.0 }

-- nothing is known of the sender
abbrev pub unvalidated : (dst_cid : List ℕ) → IncomingToken
unvalidated dst_cid = record { retry_src_cid = None; orig_dst_cid = dst_cid; validated = false }

-- the client answers a Retry packet from the id to which its Initial went, which answered one to `original`
abbrev pub retried : (dst_cid original : List ℕ) → IncomingToken
retried dst_cid original = record { retry_src_cid = Some dst_cid; orig_dst_cid = original; validated = true }

-- its address is validated by the token of an earlier connection
abbrev pub validated : (dst_cid : List ℕ) → IncomingToken
validated dst_cid = record { retry_src_cid = None; orig_dst_cid = dst_cid; validated = true }

-- what a token of an earlier connection that comes from its address in time is taken for, by what the log answers to it
abbrev pub answered_by_log : (dst_cid : List ℕ) → Result (Unit {0}) TokenFault → Result IncomingToken IncomingTokenFault
answered_by_log dst_cid (Ok done) = Ok (validated dst_cid)
answered_by_log dst_cid (Err Reused) = Ok (unvalidated dst_cid)
answered_by_log dst_cid (Err Memory) = Err fault.Memory

-- What a token is taken for, that came in an Initial to this id. `limits` and `stands` tell of the log of used tokens before and after.
pub data IsTakenFor {L : Type 0} (limits : L → TokenLimits) (stands : L → TokenLog → Type 0) (lifetimes : TokenLifetimes) (remote : SocketAddr) (now : Moment) (dst_cid bytes : List ℕ) (old new : L)
    : Result IncomingToken IncomingTokenFault → Type 0 where
  -- the bytes are no token
  none : ((v : TokenValue) → IsToken bytes v → ⊥) → new ≡ old → IsTakenFor limits stands lifetimes remote now dst_cid bytes old new (Ok (unvalidated dst_cid))
  -- the client answers a Retry packet, whose source id is that to which the Initial went
  retry : (v : TokenValue) → IsToken bytes v → v.kind ≡ Retry → CountsAsRetry v lifetimes remote now → new ≡ old
      → IsTakenFor limits stands lifetimes remote now dst_cid bytes old new (Ok (retried dst_cid v.original))
  -- it answers one, but from another address, or too late
  invalid : (v : TokenValue) → IsToken bytes v → v.kind ≡ Retry → (CountsAsRetry v lifetimes remote now → ⊥) → new ≡ old
      → IsTakenFor limits stands lifetimes remote now dst_cid bytes old new (Err fault.InvalidRetryToken)
  -- the token of an earlier connection, from another address, or too late: it counts as none
  foreign : (v : TokenValue) → IsToken bytes v → v.kind ≡ Validation → (IsOfSender v lifetimes.validation remote now → ⊥) → new ≡ old
      → IsTakenFor limits stands lifetimes remote now dst_cid bytes old new (Ok (unvalidated dst_cid))
  -- it was used before, or may have been: it counts as none
  used : (v : TokenValue) → IsToken bytes v → v.kind ≡ Validation → IsOfSender v lifetimes.validation remote now → IsLook limits stands old (logged v lifetimes) (Err Reused) new
      → IsTakenFor limits stands lifetimes remote now dst_cid bytes old new (Ok (unvalidated dst_cid))
  -- it counts, once
  valid : (v : TokenValue) → IsToken bytes v → v.kind ≡ Validation → IsOfSender v lifetimes.validation remote now → IsLook limits stands old (logged v lifetimes) (Ok tt) new
      → IsTakenFor limits stands lifetimes remote now dst_cid bytes old new (Ok (validated dst_cid))
  -- memory is wanting to note that it was used
  wanting : (v : TokenValue) → IsToken bytes v → v.kind ≡ Validation → IsOfSender v lifetimes.validation remote now → IsLook limits stands old (logged v lifetimes) (Err Memory) new
      → IsTakenFor limits stands lifetimes remote now dst_cid bytes old new (Err fault.Memory)
