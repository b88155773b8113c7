-- What may come to an end of a connection beside what the other end handed out (RFC 9000, sections 12.2 and 17.2.5).
use Rattle.std.specs.Prelude.{◌⊎◌, ℕ, List}
use Rattle.qh_handshake.specs.Incoming.{IsBehind}
use Rattle.qh_spec.specs.Lists.{In}
use Rattle.qh_spec.specs.Parted.{IsShort}
use Rattle.qh_spec.specs.Transcript.{Act, handed_in, handed_out}

-- No Initial packet begins the datagram, and it doesn't begin as a packet with a short header does. A Retry packet, which an endpoint sends, is
-- such a datagram (section 17.2.5).
abbrev pub IsOfNoEnd : List ℕ → Type 0
IsOfNoEnd d = IsBehind d × (IsShort d → ⊥)

-- each datagram that was handed in at one end was handed out at the other, or is of no end
abbrev pub ComesFrom : (own peer : List Act) → Type 0
ComesFrom own peer = (d : List ℕ) → In d (handed_in own) → In d (handed_out peer) ⊎ IsOfNoEnd d
