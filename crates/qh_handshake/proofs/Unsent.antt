-- What becomes of a handshake that sends a datagram, or if memory is wanting for it, or for a close.
use Rattle.std.proofs.Common.{◌≡◌, ℕ, ◌+◌, ◌<◌, ◌≤◌, ◌^◌, false, List, [], ◌++◌, length, Option, Some, None, IfSome, refl, sym, ap, ◌∙◌, subst}
use Rattle.std.proofs.lemmas.Option.{none-some}
use Rattle.qh_base.specs.declared.time.Moment.{Moment}
use Rattle.qh_handshake.specs.Handshake.{is_limited}
use Rattle.qh_handshake.specs.Outgoing.{IsCloseUnsent, IsDatagramMade, IsUnsent, datagram_of, least_size, room, with_sent}
use Rattle.qh_handshake.specs.Outgoing.IsCloseUnsent.{used}
use Rattle.qh_handshake.specs.Outgoing.IsUnsent.{lost}
use Rattle.qh_handshake.specs.Sending.{IsPacketMade}
use Rattle.qh_handshake.specs.declared.handshake.Handshake.{Handshake}
use Rattle.qh_handshake.specs.declared.initial_space.InitialSpace.{InitialSpace}
use Rattle.qh_handshake.specs.declared.sending.MadePacket.{MadePacket}
use Rattle.qh_packet.specs.Session.{SealsTag}
use Rattle.qh_spec.specs.declared.sides.Space.TheVariants.{Initial}

-- a packet was made, and appended
pub packet_sent : (sealed : SealsTag) (now : Moment) (bytes : ℕ) (old new : Handshake) (s next : InitialSpace) (before frames shown buf after : List ℕ) (least size : ℕ) (o : Option MadePacket) (m : MadePacket)
    → o ≡ Some m → IfSome o (λ p. (p.number ≡ s.next_number) × (p.number < 2 ^ 62) × IsPacketMade now bytes s next before frames p.is_ack_eliciting)
    → old.space ≡ Some s → is_limited old ≡ false → bytes ≡ room old → before ≡ [] → shown ≡ frames → least ≡ least_size old m.is_ack_eliciting
    → after ≡ buf ++ datagram_of sealed old m.number shown least → (size ≡ length (datagram_of sealed old m.number shown least)) × (size ≤ 1200) × (least ≤ size)
    → length (sealed old.side Initial m.number) ≡ 32 → (length old.remote_id ≤ 20) × (length old.local_id ≤ 20) → new ≡ with_sent old next size
    → (d : IsDatagramMade sealed now old new buf after size) × (m.is_ack_eliciting ≡ d.is_eliciting)
packet_sent sealed now bytes old new s next before frames shown buf after least size o m e is there allowed wide none same least_is after_is size_is tag ids new_is =
    let q : (m.number ≡ s.next_number) × (m.number < 2 ^ 62) × IsPacketMade now bytes s next before frames m.is_ack_eliciting
    = subst (λ (z : Option MadePacket). IfSome z (λ p. (p.number ≡ s.next_number) × (p.number < 2 ^ 62) × IsPacketMade now bytes s next before frames p.is_ack_eliciting)) e is in
    let datagram : datagram_of sealed old m.number shown least ≡ datagram_of sealed old s.next_number frames (least_size old m.is_ack_eliciting)
    = ap (λ (k : ℕ). datagram_of sealed old k shown least) q.0 ∙ ap (λ (z : List ℕ). datagram_of sealed old s.next_number z least) same
    ∙ ap (λ (l : ℕ). datagram_of sealed old s.next_number frames l) least_is in (
      record {
        space = s;
        next = next;
        frames = frames;
        is_eliciting = m.is_ack_eliciting;
        space_is = there;
        allowed = allowed;
        number = subst (λ (k : ℕ). k < 2 ^ 62) q.0 q.1;
        made = subst (λ (b : List ℕ). IsPacketMade now (room old) s next b frames m.is_ack_eliciting) none
            (subst (λ (n : ℕ). IsPacketMade now n s next before frames m.is_ack_eliciting) wide q.2);
        after_is = after_is ∙ ap (λ (z : List ℕ). buf ++ z) datagram;
        new_is = new_is;
        size_is = size_is.0 ∙ ap (λ (z : List ℕ). length z) datagram;
        fits = size_is.1;
        filled = subst (λ (l : ℕ). l ≤ size) least_is size_is.2;
        ids = ids;
        tag_length = ap (λ (k : ℕ). length (sealed old.side Initial k)) (sym q.0) ∙ tag;
      },
      refl,
    )

-- a packet was made, and not appended
pub packet_lost : (now : Moment) (bytes : ℕ) (old new : Handshake) (s next : InitialSpace) (before after : List ℕ) (o : Option MadePacket) (made : MadePacket) → o ≡ Some made
    → IfSome o (λ m. (m.number ≡ s.next_number) × (m.number < 2 ^ 62) × IsPacketMade now bytes s next before after m.is_ack_eliciting)
    → old.space ≡ Some s → is_limited old ≡ false → bytes ≡ room old → before ≡ [] → new ≡ record old { space = Some next } → IsUnsent now old new
packet_lost now bytes old new s next before after None made e is there allowed wide none new_is = absurd (none-some made e)
packet_lost now bytes old new s next before after (Some m) made e is there allowed wide none new_is =
    lost s next after m.is_ack_eliciting there allowed (subst (λ (n : ℕ). n < 2 ^ 62) is.0 is.1)
    (subst (λ (b : List ℕ). IsPacketMade now (room old) s next b after m.is_ack_eliciting) none (subst (λ (n : ℕ). IsPacketMade now n s next before after m.is_ack_eliciting) wide is.2)) new_is

-- the number of a packet was taken
pub number_lost : (old new : Handshake) (o : Option ℕ) (number : ℕ) → o ≡ Some number
    → IfSome o (λ n. (s : InitialSpace) × (old.space ≡ Some s) × (n ≡ s.next_number) × (n < 2 ^ 62) × (new ≡ record old { space = Some (record s { next_number = s.next_number + 1 }) }))
    → is_limited old ≡ false → IsCloseUnsent old new
number_lost old new None number e is allowed = absurd (none-some number e)
number_lost old new (Some n) number e is allowed = used is.0 is.1 allowed (subst (λ (k : ℕ). k < 2 ^ 62) is.2 is.3) is.4
