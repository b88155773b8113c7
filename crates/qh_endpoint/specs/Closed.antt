-- The Initial packet of a server's that closes an attempt (RFC 9000, sections 10.2.3 and 17.2.2).
use Rattle.std.specs.Prelude.{◌≡◌, ℕ, List, [], length, None}
use Rattle.qh_base.specs.declared.path.FourTuple.{FourTuple}
use Rattle.qh_base.specs.declared.path.Transmit.{Transmit}
use Rattle.qh_base.specs.declared.transport_error.TransportError.{TransportError}
use Rattle.qh_base.specs.declared.transport_error.TransportErrorCode.{TransportErrorCode}
use Rattle.qh_endpoint.specs.Endpoint.{PlainEndpoint}
use Rattle.qh_generator.specs.Given.{and_id}
use Rattle.qh_packet.specs.Session.{SealsTag}
use Rattle.qh_spec.specs.Codes as codes
use Rattle.qh_stateless.specs.Close.{close_bytes}

-- what was written, of so many bytes, goes to where the datagram came from
abbrev pub reply_to : FourTuple → (size : ℕ) → Transmit
reply_to addresses size = record { destination = addresses.remote; size = size; src_ip = addresses.local_ip }

-- an error of this code, at no frame, and without a reason
abbrev pub bare : TransportErrorCode → TransportError
bare code = record { code = code; frame = None; reason = [] }

-- the server doesn't want the connection (section 20.1)
abbrev pub refused : TransportError
refused = bare (record { 0 = codes.connection_refused })

-- `cid_len` says how long the ids of the endpoint's generator are, `validates` which it takes for its own, and `given` which it gave; `key` and
-- `sealed` tell of a session.
module _ {K G R T S : Type 0} (cid_len : G → ℕ) (validates : G → List ℕ → Type 0) (given : G → List (List ℕ)) (key : S → List ℕ) (sealed : S → SealsTag) where
  -- from this id, with the tag of a session of the id to which the client's packets go
  pub record IsClosedFrom (own destination source : List ℕ) (error : TransportError) (old new : PlainEndpoint K G R T) (written : List ℕ) : Type 0 where
    pub session : S
    pub key_is : key session ≡ destination
    pub written_is : written ≡ close_bytes (sealed session) source own error
    pub rest : new ≡ record old { kit = new.kit }

  -- from an id that is drawn for it, one of the endpoint's own, which may be issued: nothing answers
  pub record IsClosed (destination source : List ℕ) (error : TransportError) (old new : PlainEndpoint K G R T) (written : List ℕ) : Type 0 where
    pub own : List ℕ
    pub own_is : given new.connections.ids ≡ and_id (given old.connections.ids) own
    pub size : length own ≡ cid_len old.connections.ids
    pub valid : validates new.connections.ids own
    pub from : IsClosedFrom own destination source error (record old { connections = record old.connections { ids = new.connections.ids } }) new written

-- memory is wanting for such a packet: an id was drawn for it, and a session may have begun
pub record IsUnclosed {K G R T : Type 0} (given : G → List (List ℕ)) (old new : PlainEndpoint K G R T) (written : List ℕ) : Type 0 where
  pub own : List ℕ
  pub own_is : given new.connections.ids ≡ and_id (given old.connections.ids) own
  pub unwritten : written ≡ []
  pub rest : new ≡ record old { kit = new.kit; connections = record old.connections { ids = new.connections.ids } }
