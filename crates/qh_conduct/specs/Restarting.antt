-- Datagrams that restart the idle time of the end that they are for (RFC 9000, sections 5.1.2, 10.1 and 17.1 and appendix A.3).
use Rattle.std.specs.Prelude.{◌≡◌, ℕ, ◌<◌, ◌^◌, Bool, true, List, ◌++◌, length}
use Rattle.qh_core.specs.Follows.{HasNumber}
use Rattle.qh_core.specs.declared.inner.Inner.{Inner}
use Rattle.qh_packet.specs.Packet.{header_bytes}
use Rattle.qh_spec.specs.Datagram.{Packet, HasPacket}
use Rattle.qh_spec.specs.Lists.{In}
use Rattle.qh_spec.specs.Transcript.{Act, handed_out}
use Rattle.qh_spec.specs.declared.sides.Side.{Side}
use Rattle.qh_spec.specs.declared.sides.Space.{Space}
use Rattle.qh_spec.specs.declared.sides.Space.TheVariants.{Data}

-- The datagram counts for the end that it is given to, behind those that were given to it before: it has a 1-RTT packet of the
-- sender's whose number is below 2^31 and above each such number that was given before. So the low four bytes of the number tell it.
pub record IsCounting (id_length : ℕ) (sender : Side) (before : List (List ℕ)) (datagram : List ℕ) : Type 0 where
  pub packet : Packet
  pub has : HasPacket id_length packet datagram
  pub space_is : packet.space ≡ Data
  pub sender_is : packet.sender ≡ sender
  pub small : packet.number < 2 ^ 31
  pub above : (n : ℕ) → HasNumber id_length before sender n → n < packet.number

-- the datagram is a 1-RTT packet to this id, with a number, and with the tag that is made for that number
pub record IsSealed (sealed : Side → Space → ℕ → List ℕ) (sender : Side) (destination datagram : List ℕ) : Type 0 where
  pub number : ℕ
  pub frames : List ℕ
  pub is_number : number < 2 ^ 62
  pub is : datagram ≡ header_bytes destination number ++ (frames ++ sealed sender Data number)

-- so it is, to some id of this length
abbrev pub IsSealedTo : (sealed : Side → Space → ℕ → List ℕ) → (sender : Side) → (id_length : ℕ) → (datagram : List ℕ) → Type 0
IsSealedTo sealed sender id_length datagram = (destination : List ℕ) × (length destination ≡ id_length) × IsSealed sealed sender destination datagram

-- a tag that is made is accepted, so that two ends can talk
abbrev pub AcceptsWhatIsMade : (accepts : Side → Space → ℕ → List ℕ → Bool) → (sealed : Side → Space → ℕ → List ℕ) → Type 0
AcceptsWhatIsMade accepts sealed = (from : Side) (number : ℕ) → number < 2 ^ 62 → accepts from Data number (sealed from Data number) ≡ true

module _ {S : Type 0} where
  -- each datagram that the end handed out is such a packet; the id may change, but not its length (section 5.1.2)
  abbrev pub AreSealed : (sealed : Side → Space → ℕ → List ℕ) → Inner S → List Act → Type 0
  AreSealed sealed c t = (datagram : List ℕ) → In datagram (handed_out t) → IsSealedTo sealed c.side (length c.remote_id) datagram
