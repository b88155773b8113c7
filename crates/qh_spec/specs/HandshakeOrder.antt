-- How far the handshake of an end is, by what was done with it (own; RFC 9000, section 7).
use Rattle.std.specs.Prelude.{◌≡◌, ℕ, Bool, true, List}
use Rattle.qh_spec.specs.Greeted.{HasPacketOf, HasGreetedInOrder, IsGreeted}
use Rattle.qh_spec.specs.Link.{other}
use Rattle.qh_spec.specs.Transcript.{Act, handed_in}
use Rattle.qh_spec.specs.declared.sides.Side.{Side}
use Rattle.qh_spec.specs.declared.sides.Space.TheVariants.{Data}

-- what an end keeps of its handshake
pub record Progress : Type 0 where
  pub side : Side
  -- the peer's whole hello was read
  pub is_greeted : Bool
  -- a 1-RTT packet of the peer's was accepted
  pub has_heard : Bool

-- It knows no more than what came, and each datagram was sent in the order of a handshake. Its own ids have one length, and its
-- peer's another.
pub record Orders (own_length peer_length : ℕ) (h : Progress) (t : List Act) : Type 0 where
  pub greeted : h.is_greeted ≡ true → IsGreeted own_length (handed_in t) (other h.side)
  pub heard : h.has_heard ≡ true → HasPacketOf own_length (handed_in t) (other h.side) Data
  pub order : HasGreetedInOrder own_length peer_length h.side t
