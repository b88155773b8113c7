-- A packet has one reading, and a datagram that is one has no other.
use Rattle.std.proofs.Common.{◌≡◌, ℕ, ◌+◌, ◌<◌, ◌≤◌, ◌^◌, true, Bool, List, [], ◌∷◌, ◌++◌, length, get_or, take, refl, sym, ap, ◌∙◌, arith, subst, append_assoc, length-append}
use Rattle.std.proofs.lemmas.List.{take_all}
use Rattle.qh_base.proofs.Varints.{IsBytes}
use Rattle.qh_recovery.specs.PacketNumber.{IsExpanded}
use Rattle.qh_spec.specs.declared.sides.Side.{Side}
use Rattle.qh_spec.specs.declared.sides.Space.{Space}
use Rattle.qh_spec.specs.declared.sides.Space.TheVariants.{Data}
use Rattle.qh_spec.specs.Datagram.{Packet, HasPacket, one_rtt, initial, later}
use Rattle.qh_spec.specs.Packet.{ShortPacket, IsShortPacket, short_packet, be_value}
use Rattle.qh_spec.specs.QuicFrames.{QuicFrame, AreQuicFrames}
use Rattle.qh_spec.specs.Tag.{IsTag}
use Rattle.qh_spec.proofs.Cuts.{halves}
use Rattle.qh_spec.proofs.PacketLaws.{not_initial, no_initial_packet}
use Rattle.qh_packet.specs.Packet.{IsOpened, header_bytes, low_bytes, short_of}

-- what two packets share that are one list of bytes
pub record SameParts (p q : ShortPacket) : Type 0 where
  pub destination : p.destination ≡ q.destination
  pub number : p.number ≡ q.number
  pub frames : p.frames ≡ q.frames
  pub tag : p.tag ≡ q.tag

pub same_parts : (n : ℕ) (p q : ShortPacket) → IsShortPacket n p → IsShortPacket n q → short_packet p ≡ short_packet q → SameParts p q
same_parts n p q is js e =
    let first : 63 + length p.number ≡ 63 + length q.number = cc in
    let rest : p.destination ++ (p.number ++ (p.frames ++ p.tag)) ≡ q.destination ++ (q.number ++ (q.frames ++ q.tag)) = cc in
    let a = halves p.destination (p.number ++ (p.frames ++ p.tag)) q.destination (q.number ++ (q.frames ++ q.tag)) (is.destination ∙ sym js.destination) rest in
    let b = halves p.number (p.frames ++ p.tag) q.number (q.frames ++ q.tag) (omega arith) a.1 in
    let lengths : length p.frames + length p.tag ≡ length q.frames + length q.tag = sym (length-append p.frames p.tag) ∙ ap length b.1 ∙ length-append q.frames q.tag in
    let c = halves p.frames p.tag q.frames q.tag (omega (arith, is.tag, js.tag, lengths)) b.1 in
    record { destination = a.0; number = b.0; frames = c.0; tag = c.1 }

-- a number of at most four bytes is below their power
pub be_small : (bytes : List ℕ) → length bytes ≤ 4 → IsBytes bytes → be_value bytes < 256 ^ length bytes
be_small [] l h = omega arith
be_small (a ∷ []) l h = omega (arith, h 0)
be_small (a ∷ b ∷ []) l h = omega (arith, h 0, h 1)
be_small (a ∷ b ∷ c ∷ []) l h = omega (arith, h 0, h 1, h 2)
be_small (a ∷ b ∷ c ∷ d ∷ []) l h = omega (arith, h 0, h 1, h 2, h 3)
be_small (a ∷ b ∷ c ∷ d ∷ e ∷ more) l h = absurd (omega arith)

-- the same of a number that is read from all of them
pub read_small : (bytes : List ℕ) (i n : ℕ) → length bytes ≤ 4 → length bytes ≤ i → n ≡ be_value (take i bytes) → IsBytes bytes → n < 256 ^ length bytes
read_small bytes i n short all e are =
    let same : n ≡ be_value bytes = e ∙ ap be_value (take_all i bytes all) in
    subst (λ (m : ℕ). m < 256 ^ length bytes) (sym same) (be_small bytes short are)

-- what is told of the packet's parts where it is opened
pub record HasParts (accepts : Side → Space → ℕ → List ℕ → Bool) (sender : Side) (expected : ℕ) (p : ShortPacket) (number : ℕ) (frames : List ℕ) : Type 0 where
  pub expanded : IsExpanded expected (be_value p.number) (length p.number) number
  pub is_number : number < 2 ^ 62
  pub accepted : accepts sender Data number p.tag ≡ true
  pub frames_are : p.frames ≡ frames

pub parts_of : (accepts : Side → Space → ℕ → List ℕ → Bool) (id_length : ℕ) (sender : Side) (expected : ℕ) (datagram : List ℕ) (p : ShortPacket) (number : ℕ) (frames : List ℕ)
    → IsShortPacket id_length p → datagram ≡ short_packet p → IsOpened accepts id_length sender expected datagram number frames → HasParts accepts sender expected p number frames
parts_of accepts id_length sender expected datagram p number frames is whole q =
    let same = same_parts id_length p q.packet is q.is.fits (sym whole ∙ q.is.whole) in
    record {
      expanded = subst (λ (b : List ℕ). IsExpanded expected (be_value b) (length b) number) (sym same.number) q.expanded;
      is_number = q.is_number;
      accepted = ap (λ (t : List ℕ). accepts sender Data number t) same.tag ∙ q.accepted;
      frames_are = same.frames ∙ q.frames_are;
    }

-- a packet whose tag names it is one of its datagram's
pub has_packet : (id_length : ℕ) (datagram : List ℕ) (p : ShortPacket) (from : Side) (expected number : ℕ) (fs : List QuicFrame)
    → IsShortPacket id_length p → datagram ≡ short_packet p → IsTag p.tag from Data number → IsExpanded expected (be_value p.number) (length p.number) number → AreQuicFrames p.frames fs
    → HasPacket id_length (record { space = Data; sender = from; number = number; frames = fs }) datagram
has_packet id_length datagram p from expected number fs is whole tagged expanded are =
    one_rtt datagram (record {
      short = p;
      fits = is;
      whole = whole;
      content = record { space_is = refl; tagged = tagged; low = sym expanded.candidate.same_low; frames = are };
    })

-- a datagram that is written has one packet, with these frames
pub only_content : (id_length number : ℕ) (destination frames tag d : List ℕ) (q : Packet) → length destination ≡ id_length → length tag ≡ 32
    → d ≡ header_bytes destination number ++ (frames ++ tag) → HasPacket id_length q d → (q.space ≡ Data) × AreQuicFrames frames q.frames
only_content id_length number destination frames tag d q len tag_is e (one_rtt b h) =
    let p : ShortPacket = short_of destination number frames tag in
    let whole : d ≡ short_packet p = e ∙ ap (λ (z : List ℕ). 67 ∷ z) (append_assoc destination (low_bytes number) (frames ++ tag)) in
    let fits : IsShortPacket id_length p = record { destination = len; some_number = omega arith; short_number = omega arith; tag = tag_is } in
    let same = same_parts id_length p h.short fits h.fits (sym whole ∙ h.whole) in
    (h.content.space_is, subst (λ (z : List ℕ). AreQuicFrames z q.frames) (sym same.frames) h.content.frames)
only_content id_length number destination frames tag d q len tag_is e (initial front rest b f i) =
    let first : get_or d 0 0 ≡ 67 = ap (λ (z : List ℕ). get_or z 0 0) e in
    absurd (no_initial_packet d front rest q f i (omega arith))
only_content id_length number destination frames tag d q len tag_is e (later front rest b m c f i h) =
    let first : get_or d 0 0 ≡ 67 = ap (λ (z : List ℕ). get_or z 0 0) e in
    absurd (not_initial d front rest m c f i (omega arith))
