-- An end to which a 1-RTT packet of its honest peer's comes was greeted.
use Rattle.std.proofs.Common.{◌≡◌, ◌⊎◌, ℕ, ◌+◌, true, List, [], ◌∷◌, ◌++◌, length, slice_get, Some, is_some, refl, sym, ap, subst, ◌∙◌, inl, inr}
use Rattle.qh_conn.specs.declared.connection.Connection.{Connection}
use Rattle.qh_converse.proofs.ShakeLaws.{short_behind}
use Rattle.qh_core.specs.Made.{AcceptsTags, MakesTagsOf}
use Rattle.qh_peers.proofs.EndKinds.{greeted_or, greeted_out, kind, where_out}
use Rattle.qh_peers.proofs.EndPeers.{peer_length_back, sides, sides_back}
use Rattle.qh_peers.proofs.RetryPackets.{none_has_none, retry_of_none}
use Rattle.qh_peers.specs.Ends.{AreTwoEnds, ComesFromOrRetry, IsRetry}
use Rattle.qh_spec.proofs.Members.{in_left}
use Rattle.qh_spec.proofs.PartLaws.{alone_has_none}
use Rattle.qh_spec.proofs.TranscriptLaws.{handed_in-append}
use Rattle.qh_spec.specs.Datagram.{HasPacket, Packet, one_rtt, initial, later}
use Rattle.qh_spec.specs.Greeted.{HasCrypto, HasPacketOf, IsGreeted}
use Rattle.qh_spec.specs.Hello.{Hello, IsHelloOf, hello_byte}
use Rattle.qh_spec.specs.Link.{other}
use Rattle.qh_spec.specs.Lists.{In}
use Rattle.qh_spec.specs.Parted.{IsShort}
use Rattle.qh_spec.specs.Transcript.{Act, HandedOut, handed_in, handed_out}
use Rattle.qh_spec.specs.declared.sides.Side.{Side}
use Rattle.qh_spec.specs.declared.sides.Side.TheVariants.{Client, Server}
use Rattle.qh_spec.specs.declared.sides.Space.TheVariants.{Data, Initial}

-- what begins with a short header has no Initial packet
pub short_no_initial : (k : ℕ) (p : Packet) (d : List ℕ) → IsShort d → HasPacket k p d → p.space ≡ Initial → ⊥
short_no_initial k p d s (one_rtt b h) space = let z : Data ≡ Initial = sym h.content.space_is ∙ space in cc
short_no_initial k p d s (initial front rest b e i) space =
    short_behind d s front rest (i.number_bytes ++ (i.frame_bytes ++ i.tag)) (191 + length i.number_bytes) e i.form
short_no_initial k p d s (later front rest b first body e i has) space = short_behind d s front rest body first e i

-- a hello has a byte
first_byte : (side : Side) (bytes : List ℕ) (h : Hello) → IsHelloOf side bytes h → slice_get bytes 0 ≡ Some (hello_byte h.sender)
first_byte side bytes h is = ap (λ (z : List ℕ). slice_get z 0) is.0.whole

-- what came before came
came_before : (before after : List Act) (x : List ℕ) → In x (handed_in before) → In x (handed_in (before ++ after))
came_before before after x i = subst (λ (z : List (List ℕ)). In x z) (sym (handed_in-append before after)) (in_left x (handed_in before) (handed_in after) i)

module _ {S : Type 0} (accepts : AcceptsTags S) (sealed : MakesTagsOf S) (key : S → List ℕ) (own_hello peer_hello : List ℕ) (c q : Connection S) (tc tq : List Act) (e : AreTwoEnds accepts sealed key own_hello peer_hello c q tc tq) where
  -- an end that handed out a datagram with a 1-RTT packet was greeted; a Retry packet has none
  data_greeted : (k : ℕ) (p : Packet) (g : List ℕ) → In g (handed_out tc) ⊎ IsRetry g → HasPacket k p g → p.space ≡ Data → is_some c.handshake.peer ≡ true
  data_greeted k p g (inl i) has space = elim (kind accepts sealed key own_hello c tc e.own g i) [
    | inl (alone, _) ↦ absurd (alone_has_none k p g alone has space)
    | inr (_, there) ↦ greeted_out accepts sealed key own_hello c tc e.own g there
  ]
  data_greeted k p g (inr r) has space = absurd (none_has_none k p g (retry_of_none g r) has)

  -- a CRYPTO frame that came was handed out by the handshake
  crypto_out : (k from : ℕ) (payload : List ℕ) (side : Side) (t : List Act) (has : HasCrypto k (handed_in t) side from payload) → In has.of.datagram (handed_out tc) ⊎ IsRetry has.of.datagram
      → HasCrypto k (handed_out e.own.stands.shake) side from payload
  crypto_out k from payload side t has (inr r) = absurd (none_has_none k has.of.packet has.of.datagram (retry_of_none has.of.datagram r) has.of.has)
  crypto_out k from payload side t has (inl i) =
      elim (kind accepts sealed key own_hello c tc e.own has.of.datagram i) [
        | inl (_, there) ↦ record {
          of = record { datagram = has.of.datagram; among = there; packet = has.of.packet; has = has.of.has; space_is = has.of.space_is; sender_is = has.of.sender_is };
          frame_among = has.frame_among;
        }
        | inr (short, _) ↦ absurd (short_no_initial k has.of.packet has.of.datagram short has.of.has has.of.space_is)
      ]

  -- a server whose whole hello came to its client was greeted
  server_greeted : c.handshake.side ≡ Server → (k : ℕ) (t : List Act) → ComesFromOrRetry t tc → IsGreeted k (handed_in t) c.handshake.side → is_some c.handshake.peer ≡ true
  server_greeted server k t came (h, w) = elim (greeted_or c.handshake.peer) [
    | inl some ↦ some
    | inr none ↦
        let byte = w.all 0 (hello_byte h.sender) (first_byte c.handshake.side w.bytes h w.is) in
        absurd (e.own.stands.follows.unsaid server none k byte.from byte.payload (crypto_out k byte.from byte.payload c.handshake.side t byte.has (came byte.has.of.datagram byte.has.of.among)))
  ]

  by_side : (s : Side) → c.handshake.side ≡ s → (k n : ℕ) (before : List Act) (d : List ℕ) → (HasPacketOf n (d ∷ []) q.handshake.side Data → IsGreeted k (handed_in before) (other q.handshake.side))
      → (q.handshake.side ≡ Server → HasPacketOf n (d ∷ []) q.handshake.side Data → HasPacketOf k (handed_in before) (other q.handshake.side) Data) → ComesFromOrRetry before tc
      → HasPacketOf n (d ∷ []) q.handshake.side Data → is_some c.handshake.peer ≡ true
  by_side Client side k n before d greets connects came has =
      let heard = connects (sides accepts sealed key own_hello peer_hello c q tc tq e ∙ ap other side) has in
      data_greeted k heard.packet heard.datagram (came heard.datagram heard.among) heard.has heard.space_is
  by_side Server side k n before d greets connects came has =
      server_greeted side k before came (subst (λ (z : Side). IsGreeted k (handed_in before) z) (sym (sides_back accepts sealed key own_hello peer_hello c q tc tq e)) (greets has))

  -- so was the one to which it was handed out
  pub data_comes : (d : List ℕ) → In d (handed_out tq) → HasPacketOf (length c.core.local_id) (d ∷ []) q.handshake.side Data → is_some q.handshake.peer ≡ true → is_some c.handshake.peer ≡ true
  data_comes d i has greeted =
      let at = where_out tq d i in
      let order = (e.peer.stands.orders (length c.core.local_id) (λ _. peer_length_back accepts sealed key own_hello peer_hello c q tc tq e greeted)).order at.0 at.1 d at.2 in
      let came = λ (g : List ℕ) (there : In g (handed_in at.0)).
      e.went g (subst (λ (z : List Act). In g (handed_in z)) (sym at.2) (came_before at.0 (HandedOut d ∷ at.1) g there)) in
      by_side c.handshake.side refl (length q.core.local_id) (length c.core.local_id) at.0 d order.greeted order.connected came has
