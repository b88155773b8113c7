-- What of a handshake stays as it is, whatever is done with it (RFC 9000, sections 5.1, 7.2, 7.3 and 8.1).
use Rattle.std.specs.Prelude.{◌≡◌, List, ℕ, true, Some, None}
use Rattle.qh_handshake.specs.declared.handshake.Handshake.{Handshake}
use Rattle.qh_hello.specs.declared.transport_parameters.TransportParameters.{TransportParameters}

-- The new one is the old one further on: it is the same end of the same connection; what it once knew of its peer it knows, its address
-- once validated is validated, and a space that was given up isn't there again.
pub record GoesOn (old new : Handshake) : Type 0 where
  pub side : new.side ≡ old.side
  pub version : new.version ≡ old.version
  pub local_id : new.local_id ≡ old.local_id
  pub original_id : new.original_id ≡ old.original_id
  pub parameters : new.parameters ≡ old.parameters
  pub peer : (p : TransportParameters) → old.peer ≡ Some p → new.peer ≡ Some p
  pub retry_id : (id : List ℕ) → old.retry_id ≡ Some id → new.retry_id ≡ Some id
  pub token : new.retry_id ≡ old.retry_id → new.token ≡ old.token
  pub known : old.knows_peer ≡ true → (new.knows_peer ≡ true) × (new.remote_id ≡ old.remote_id) × (new.retry_id ≡ old.retry_id)
  pub validated : old.is_validated ≡ true → new.is_validated ≡ true
  pub gone : old.space ≡ None → new.space ≡ None
