-- Steps of reading what stands behind a header.
use Rattle.std.proofs.Common.{◌≡◌, ℕ, ◌+◌, ◌^◌, ◌%◌, List, ◌∷◌, ◌++◌, length, sym, ap, ◌∙◌, arith, subst, length-append}
use Rattle.qh_spec.specs.declared.sides.Side.{Side}
use Rattle.qh_spec.specs.declared.sides.Space.{Space}
use Rattle.qh_spec.specs.declared.sides.Space.TheVariants.{Initial, Data}
use Rattle.qh_spec.specs.Datagram.{Packet, IsPacketContent, IsInitialForm, IsInitialPacket, IsOneRttPacket}
use Rattle.qh_spec.specs.Packet.{be_value}
use Rattle.qh_spec.specs.Tag.{IsTag}
use Rattle.qh_spec.proofs.Cuts.{halves}
use Rattle.qh_spec.proofs.PacketLaws.{tag_is_one, tag_length}
use Rattle.qh_plain.specs.Packets.{first_byte, AreParts, HasBody}

pub no_tag : (space : Space) (number frames tag : List ℕ) → ((s : Side) (x : Space) (n : ℕ) → IsTag tag s x n → ⊥) → (p : Packet) → IsPacketContent space number frames tag p → ⊥
no_tag space number frames tag none p h = none p.sender space p.number h.tagged

pub other_space : (space x : Space) (s : Side) (n : ℕ) (number frames tag : List ℕ) → IsTag tag s x n → (x ≡ space → ⊥) → (p : Packet) → IsPacketContent space number frames tag p → ⊥
other_space space x s n number frames tag is other p h = other (tag_is_one tag s p.sender x space n p.number is h.tagged).1

pub other_number : (space x : Space) (s : Side) (n : ℕ) (number frames tag : List ℕ) → IsTag tag s x n → (be_value number ≡ n % (256 ^ length number) → ⊥)
    → (p : Packet) → IsPacketContent space number frames tag p → ⊥
other_number space x s n number frames tag is other p h =
    let same = (tag_is_one tag s p.sender x space n p.number is h.tagged).2 in
    other (h.low ∙ ap (λ (z : ℕ). z % (256 ^ length number)) (sym same))

first_tells : (space : Space) (m n : ℕ) → first_byte space m ≡ first_byte space n → m ≡ n
first_tells Initial m n e = omega arith
first_tells Data m n e = omega arith

-- a body is cut in one way
pub same_parts : (space : Space) (first width : ℕ) (body number frames tag : List ℕ) (p : Packet) (h : HasBody space first body p) → first ≡ first_byte space width → AreParts width body number frames tag
    → IsPacketContent space number frames tag p
same_parts space first width body number frames tag p h e a =
    let width_is : length h.number ≡ width = first_tells space (length h.number) width (sym h.first_is ∙ e) in
    let cut = halves h.number (h.frames ++ h.tag) number (frames ++ tag) (width_is ∙ sym a.number_length) (sym h.whole ∙ a.whole) in
    let content = h.content in
    let sizes = ap length cut.1 in
    let mine = tag_length h.tag p.sender space p.number content.tagged in
    let its = a.tag_length in
    let lens : length h.frames ≡ length frames = omega (arith, length-append h.frames h.tag, length-append frames tag) in
    let ends = halves h.frames h.tag frames tag lens cut.1 in
    subst (λ (z : List ℕ). IsPacketContent space z frames tag p) cut.0
    (subst (λ (z : List ℕ). IsPacketContent space h.number z tag p) ends.0 (subst (λ (z : List ℕ). IsPacketContent space h.number h.frames z p) ends.1 h.content))

pub no_content : (space : Space) (first width : ℕ) (body number frames tag : List ℕ) → first ≡ first_byte space width → AreParts width body number frames tag
    → ((p : Packet) → IsPacketContent space number frames tag p → ⊥) → (p : Packet) → HasBody space first body p → ⊥
no_content space first width body number frames tag e a none p h = none p (same_parts space first width body number frames tag p h e a)

-- an Initial packet is its form and what stands in it
pub initial_from : (front body : List ℕ) (first : ℕ) (p : Packet) → IsInitialForm front first body → HasBody Initial first body p → IsInitialPacket front p
initial_from front body first p i h = record {
  number_bytes = h.number;
  frame_bytes = h.frames;
  tag = h.tag;
  form = subst (λ (z : List ℕ). IsInitialForm front (191 + length h.number) z) h.whole (subst (λ (z : ℕ). IsInitialForm front z body) h.first_is i);
  some_number = h.some_number;
  short_number = h.short_number;
  content = h.content;
}

pub initial_body : (front body : List ℕ) (first : ℕ) (p : Packet) (i : IsInitialPacket front p) → 191 + length i.number_bytes ≡ first → i.number_bytes ++ (i.frame_bytes ++ i.tag) ≡ body
    → HasBody Initial first body p
initial_body front body first p i e f = record {
  number = i.number_bytes;
  frames = i.frame_bytes;
  tag = i.tag;
  some_number = i.some_number;
  short_number = i.short_number;
  first_is = sym e;
  whole = sym f;
  content = i.content;
}

-- and a 1-RTT packet is its first byte, the id, and what stands behind it
pub one_rtt_from : (id_length first : ℕ) (bytes id body : List ℕ) (p : Packet) → bytes ≡ first ∷ (id ++ body) → length id ≡ id_length → HasBody Data first body p → IsOneRttPacket id_length bytes p
one_rtt_from id_length first bytes id body p e l h =
    let content = h.content in
    record {
      short = record { destination = id; number = h.number; frames = h.frames; tag = h.tag };
      fits = record { destination = l; some_number = h.some_number; short_number = h.short_number; tag = tag_length h.tag p.sender Data p.number content.tagged };
      whole = e ∙ ap (λ (z : ℕ). z ∷ (id ++ body)) h.first_is ∙ ap (λ (z : List ℕ). (63 + length h.number) ∷ (id ++ z)) h.whole;
      content = h.content;
    }

pub one_rtt_body : (id_length first : ℕ) (bytes id body : List ℕ) (p : Packet) → bytes ≡ first ∷ (id ++ body) → length id ≡ id_length → IsOneRttPacket id_length bytes p → HasBody Data first body p
one_rtt_body id_length first bytes id body p e l i =
    let s = i.short in
    let rest : List ℕ = s.number ++ (s.frames ++ s.tag) in
    let fits = i.fits in
    let both : (63 + length s.number) ∷ (s.destination ++ rest) ≡ first ∷ (id ++ body) = sym i.whole ∙ e in
    let first_is : 63 + length s.number ≡ first = cc in
    let rests : s.destination ++ rest ≡ id ++ body = cc in
    let cut = halves s.destination rest id body (fits.destination ∙ sym l) rests in
    record {
      number = s.number;
      frames = s.frames;
      tag = s.tag;
      some_number = fits.some_number;
      short_number = fits.short_number;
      first_is = sym first_is;
      whole = sym cut.1;
      content = i.content;
    }

pub one_rtt_long : (id_length : ℕ) (bytes : List ℕ) → ((first : ℕ) (id body : List ℕ) → bytes ≡ first ∷ (id ++ body) → length id ≡ id_length → ⊥) → (p : Packet) → IsOneRttPacket id_length bytes p → ⊥
one_rtt_long id_length bytes none p i =
    let s = i.short in
    let fits = i.fits in
    none (63 + length s.number) s.destination (s.number ++ (s.frames ++ s.tag)) i.whole fits.destination
