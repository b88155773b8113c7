-- Datagrams by which an end is greeted (RFC 9000, sections 7, 12.3, 17.1, 17.2.2 and 19.6).
use Rattle.std.specs.Prelude.{◌≡◌, ℕ, ◌<◌, ◌^◌, true, List, [], ◌++◌, None, is_some}
use Rattle.qh_handshake.specs.Follows.{HasInitial}
use Rattle.qh_handshake.specs.declared.handshake.Handshake.{Handshake}
use Rattle.qh_packet.specs.Packet.{low_bytes}
use Rattle.qh_packet.specs.Session.{AcceptsTag, SealsTag}
use Rattle.qh_spec.specs.Datagram.{Packet, HasPacket, IsInitialForm}
use Rattle.qh_spec.specs.Greeted.{crypto_frame}
use Rattle.qh_spec.specs.Lists.{In}
use Rattle.qh_spec.specs.Parted.{IsInitialAlone}
use Rattle.qh_spec.specs.Transcript.{Act, handed_out}
use Rattle.qh_spec.specs.declared.sides.Side.{Side}
use Rattle.qh_spec.specs.declared.sides.Side.TheVariants.{Server}
use Rattle.qh_spec.specs.declared.sides.Space.TheVariants.{Initial}

-- The datagram greets the end that it is given to, behind those that were given to it before: it has an Initial packet of the sender's, with a
-- CRYPTO frame, whose number is below 2^31 and above those of all Initial packets of the sender's that were given before. So the low four
-- bytes of the number tell it.
pub record IsGreeting (id_length : ℕ) (sender : Side) (given : List (List ℕ)) (datagram : List ℕ) : Type 0 where
  pub packet : Packet
  pub has : HasPacket id_length packet datagram
  pub space_is : packet.space ≡ Initial
  pub sender_is : packet.sender ≡ sender
  pub small : packet.number < 2 ^ 31
  pub above : (n : ℕ) → HasInitial id_length given sender n → n < packet.number
  pub offset : ℕ
  pub payload : List ℕ
  pub crypto : In (crypto_frame offset payload) packet.frames

-- a tag that is made of an Initial packet is accepted, so that two ends can begin to talk
abbrev pub AcceptsInitials : (accepts : AcceptsTag) → (sealed : SealsTag) → Type 0
AcceptsInitials accepts sealed = (from : Side) (number : ℕ) → number < 2 ^ 62 → accepts from Initial number (sealed from Initial number) ≡ true

-- the datagram is one Initial packet, with four bytes of its number, and with the tag that is made for that; a server's has no token
pub record IsInitialSealed (sealed : SealsTag) (sender : Side) (datagram : List ℕ) : Type 0 where
  pub number : ℕ
  pub frames : List ℕ
  pub is_number : number < 2 ^ 62
  pub form : IsInitialForm datagram 195 (low_bytes number ++ (frames ++ sealed sender Initial number))
  pub untokened : sender ≡ Server → form.token ≡ []

-- so is each datagram of one Initial packet that the end handed out
abbrev pub AreInitialsSealed : (sealed : SealsTag) → (sender : Side) → List Act → Type 0
AreInitialsSealed sealed sender t = (datagram : List ℕ) → In datagram (handed_out t) → IsInitialAlone datagram → IsInitialSealed sealed sender datagram

-- The end can be greeted by this peer: if it knows an id of its peer's it is the peer's, and until it was greeted its Initial space is there.
pub record CanBeGreeted (own peer : Handshake) : Type 0 where
  pub source : own.knows_peer ≡ true → own.remote_id ≡ peer.local_id
  pub space : own.peer ≡ None → is_some own.space ≡ true
