-- Two handshakes that are the two ends of one connection (RFC 9000, sections 7 and 7.3).
use Rattle.std.specs.Prelude.{◌≡◌, ◌⊎◌, ℕ, List, Some}
use Rattle.qh_handshake.specs.Follows.{Follows}
use Rattle.qh_handshake.specs.Handshake.{IsHandshake}
use Rattle.qh_handshake.specs.Incoming.{IsBehind}
use Rattle.qh_handshake.specs.Sends.{Sends}
use Rattle.qh_handshake.specs.declared.handshake.Handshake.{Handshake}
use Rattle.qh_spec.specs.Link.{other}
use Rattle.qh_spec.specs.Lists.{In}
use Rattle.qh_spec.specs.Transcript.{Act, handed_in, handed_out}
use Rattle.qh_spec.specs.declared.sides.Side.{Side}
use Rattle.qh_spec.specs.declared.sides.Side.TheVariants.{Client, Server}

-- a server knows by which id the client called it first, and from which it sent a Retry packet, as the client knows them
abbrev pub AgreeOnIds : (client server : Handshake) → Type 0
AgreeOnIds client server = (server.parameters.original_destination_connection_id ≡ Some client.original_id) × (server.parameters.retry_source_connection_id ≡ client.retry_id)

abbrev pub KnowsIds : (own peer : Handshake) → Side → Type 0
KnowsIds own peer Client = AgreeOnIds own peer
KnowsIds own peer Server = Unit {0}

-- The other end is honest, and so is the link: what came to this end was handed out by the other, but for Retry packets and the like, which
-- no Initial packet begins; and what came to the other end was handed out by this one, likewise.
pub record IsPeer (own_hello peer_hello : List ℕ) (own peer : Handshake) (t u : List Act) : Type 0 where
  pub side_is : peer.side ≡ other own.side
  pub peer_whole : IsHandshake peer
  pub own_follows : Follows own_hello own t
  pub peer_follows : Follows peer_hello peer u
  pub peer_sends : Sends peer_hello peer u
  pub ids : KnowsIds own peer own.side
  pub came : (d : List ℕ) → In d (handed_in t) → In d (handed_out u) ⊎ IsBehind d
  pub went : (d : List ℕ) → In d (handed_in u) → In d (handed_out t) ⊎ IsBehind d
