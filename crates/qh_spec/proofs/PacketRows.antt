-- Worked packets, and bytes that are none.
use Rattle.std.proofs.Common.{◌≡◌, ◌≤◌, ℕ, ◌+◌, ◌%◌, ◌^◌, ◌⊎◌, inl, inr, get_or, List, [], ◌∷◌, ◌++◌, length, Some, refl, sym, ap, ◌∙◌, arith, subst, length-append}
use Rattle.qh_spec.specs.declared.sides.Side.TheVariants.{Client}
use Rattle.qh_spec.specs.declared.sides.Space.TheVariants.{Initial, Data}
use Rattle.qh_spec.specs.Datagram.{Packet, IsInitialForm, IsInitialPacket, IsOneRttPacket, HasPacket, one_rtt, initial, later}
use Rattle.qh_spec.specs.Packet.{be_value}
use Rattle.qh_spec.specs.QuicFrames.{shape_of, AreQuicFrames}
use Rattle.qh_spec.specs.Tag.{IsTag}
use Rattle.qh_spec.specs.Varint.{one}
use Rattle.qh_spec.specs.WireRows.{forged, forged_packet, misnumbered, initial_part, initial_packet, two_packets, refused_part}
use Rattle.qh_spec.proofs.Cuts.{halves}
use Rattle.qh_spec.proofs.PacketLaws.{forms_agree, initials_agree, one_packet, not_initial, no_initial_packet, tag_length, tags_agree}

done_shape : shape_of 30 ≡ Some []
unfolding shape_of
done_shape = refl

forged_frames : AreQuicFrames (30 ∷ []) (record { kind = 30; values = [] } ∷ [])
forged_frames = ([], record { fields = []; shape = []; kind = (30 ∷ [], refl, one (omega arith) refl); shaped = done_shape; values = refl }, refl)

-- the tag of the client's packet 1000
unfoldable pub client_tag : List ℕ
client_tag = 208 ∷ 0 ∷ 0 ∷ 0 ∷ 0 ∷ 0 ∷ 0 ∷ 0 ∷ 0 ∷ 0 ∷ 0 ∷ 0 ∷ 0 ∷ 0 ∷ 0 ∷ 0
    ∷ 165 ∷ 0 ∷ 0 ∷ 0 ∷ 0 ∷ 0 ∷ 0 ∷ 0 ∷ 3 ∷ 232 ∷ 8 ∷ 0 ∷ 0 ∷ 0 ∷ 0 ∷ 1 ∷ []

pub client_tagged : IsTag client_tag Client Data 1000
unfolding client_tag
client_tagged = record { key_id = 208 ∷ 0 ∷ 0 ∷ 0 ∷ 0 ∷ 0 ∷ 0 ∷ 0 ∷ []; short = omega arith; bound = omega arith; is = refl }

forged_whole : IsOneRttPacket 8 forged forged_packet
unfolding client_tag
forged_whole = record {
  short = record { destination = 80 ∷ 0 ∷ 0 ∷ 0 ∷ 0 ∷ 0 ∷ 0 ∷ 0 ∷ []; number = 0 ∷ 0 ∷ 3 ∷ 232 ∷ []; frames = 30 ∷ []; tag = client_tag };
  fits = record { destination = refl; some_number = omega arith; short_number = omega arith; tag = refl };
  whole = refl;
  content = record { space_is = refl; tagged = client_tagged; low = refl; frames = forged_frames };
}

-- the bytes are this packet and no other
pub forged_is : HasPacket 8 forged_packet forged × ((p : Packet) → HasPacket 8 p forged → p ≡ forged_packet)
forged_is =
    let there : HasPacket 8 forged_packet forged = one_rtt forged forged_whole in
    (there, λ p h. one_packet 8 p forged_packet forged (omega arith) h there)

ping_shape : shape_of 1 ≡ Some []
unfolding shape_of
ping_shape = refl

ping_frames : AreQuicFrames (1 ∷ []) (record { kind = 1; values = [] } ∷ [])
ping_frames = ([], record { fields = []; shape = []; kind = (1 ∷ [], refl, one (omega arith) refl); shaped = ping_shape; values = refl }, refl)

abbrev pub initial_tag : List ℕ
initial_tag = 208 ∷ 0 ∷ 0 ∷ 0 ∷ 0 ∷ 0 ∷ 0 ∷ 0 ∷ 0 ∷ 0 ∷ 0 ∷ 0 ∷ 0 ∷ 0 ∷ 0 ∷ 0
    ∷ 165 ∷ 0 ∷ 0 ∷ 0 ∷ 0 ∷ 0 ∷ 0 ∷ 0 ∷ 0 ∷ 7 ∷ 8 ∷ 0 ∷ 0 ∷ 0 ∷ 0 ∷ 0 ∷ []

abbrev pub initial_body : List ℕ
initial_body = 0 ∷ 0 ∷ 0 ∷ 7 ∷ 1 ∷ initial_tag

pub initial_form : IsInitialForm initial_part 195 initial_body
initial_form = record {
  destination = 208 ∷ 0 ∷ 0 ∷ 0 ∷ 0 ∷ 0 ∷ 0 ∷ 0 ∷ [];
  source = 192 ∷ 0 ∷ 0 ∷ 0 ∷ 0 ∷ 0 ∷ 0 ∷ 0 ∷ [];
  token_length = 0 ∷ [];
  token = [];
  body_length = 37 ∷ [];
  whole = refl;
  long_header = omega arith;
  initial_type = omega arith;
  destination_fits = omega arith;
  source_fits = omega arith;
  token_is = one (omega arith) refl;
  body_is = one (omega arith) refl;
}

initial_whole : IsInitialPacket initial_part initial_packet
initial_whole = record {
  number_bytes = 0 ∷ 0 ∷ 0 ∷ 7 ∷ [];
  frame_bytes = 1 ∷ [];
  tag = initial_tag;
  form = initial_form;
  some_number = omega arith;
  short_number = omega arith;
  content = record {
    space_is = refl;
    tagged = record { key_id = 208 ∷ 0 ∷ 0 ∷ 0 ∷ 0 ∷ 0 ∷ 0 ∷ 0 ∷ []; short = omega arith; bound = omega arith; is = refl };
    low = refl;
    frames = ping_frames;
  };
}

forged_there : HasPacket 8 forged_packet forged
forged_there = one_rtt forged forged_whole

-- both packets of a datagram are its packets
pub two_are : HasPacket 8 initial_packet two_packets × HasPacket 8 forged_packet two_packets
two_are = (initial initial_part forged two_packets refl initial_whole, later initial_part forged two_packets 195 initial_body refl initial_form forged_there)

not_one_rtt : (bytes : List ℕ) (p : Packet) → 128 ≤ get_or bytes 0 0 → IsOneRttPacket 8 bytes p → ⊥
not_one_rtt bytes p high a =
    let first : get_or bytes 0 0 ≡ 63 + length a.short.number = ap (λ (z : List ℕ). get_or z 0 0) a.whole in
    let few = a.fits.short_number in
    omega (arith, first, few, high)

-- and it has no other
pub two_only : (p : Packet) → HasPacket 8 p two_packets → (p ≡ initial_packet) ⊎ (p ≡ forged_packet)
two_only p (one_rtt bytes h) = absurd (not_one_rtt two_packets p (omega arith) h)
two_only p (initial front rest bytes e i) = inl (initials_agree front rest initial_part forged p initial_packet i initial_whole (sym e)).0
two_only p (later front rest bytes m c e i h) =
    let same : rest ≡ forged = (forms_agree front rest initial_part forged m 195 c initial_body i initial_form (sym e)).2 in
    let back : HasPacket 8 p forged = subst (λ (z : List ℕ). HasPacket 8 p z) same h in
    inr (one_packet 8 p forged_packet forged (omega arith) back forged_there)

refused_form : IsInitialForm refused_part 192 (77 ∷ [])
refused_form = record {
  destination = [];
  source = [];
  token_length = 0 ∷ [];
  token = [];
  body_length = 1 ∷ [];
  whole = refl;
  long_header = omega arith;
  initial_type = omega arith;
  destination_fits = omega arith;
  source_fits = omega arith;
  token_is = one (omega arith) refl;
  body_is = one (omega arith) refl;
}

no_body : (front rest : List ℕ) (p : Packet) → IsInitialPacket front p → front ++ rest ≡ refused_part ++ forged → ⊥
no_body front rest p i e =
    let after : List ℕ = i.frame_bytes ++ i.tag in
    let r = forms_agree front rest refused_part forged (191 + length i.number_bytes) 192 (i.number_bytes ++ after) (77 ∷ []) i.form refused_form e in
    let all : length (i.number_bytes ++ after) ≡ 1 = ap length r.1 in
    let tag = tag_length i.tag p.sender Initial p.number i.content.tagged in
    omega (arith, all, tag, length-append i.number_bytes after, length-append i.frame_bytes i.tag)

skipped_only : (p : Packet) → HasPacket 8 p (refused_part ++ forged) → p ≡ forged_packet
skipped_only p (one_rtt bytes h) = absurd (not_one_rtt (refused_part ++ forged) p (omega arith) h)
skipped_only p (initial front rest bytes e i) = absurd (no_body front rest p i (sym e))
skipped_only p (later front rest bytes m c e i h) =
    let same : rest ≡ forged = (forms_agree front rest refused_part forged m 192 c (77 ∷ []) i refused_form (sym e)).2 in
    let back : HasPacket 8 p forged = subst (λ (z : List ℕ). HasPacket 8 p z) same h in
    one_packet 8 p forged_packet forged (omega arith) back forged_there

-- what no one can take is skipped by its length
pub skipped : HasPacket 8 forged_packet (refused_part ++ forged) × ((p : Packet) → HasPacket 8 p (refused_part ++ forged) → p ≡ forged_packet)
skipped = (later refused_part forged (refused_part ++ forged) 192 (77 ∷ []) refl refused_form forged_there, skipped_only)

-- a packet of version 2 is no Initial packet of version 1
pub version_two_none : (first : ℕ) (rest : List ℕ) (p : Packet) → IsInitialPacket (first ∷ 0 ∷ 0 ∷ 0 ∷ 2 ∷ rest) p → ⊥
version_two_none first rest p i =
    let version : 2 ≡ 1 = ap (λ (z : List ℕ). get_or z 4 0) i.form.whole in
    absurd (omega (arith, version))

abbrev misnumbered_id : List ℕ
misnumbered_id = 80 ∷ 0 ∷ 0 ∷ 0 ∷ 0 ∷ 0 ∷ 0 ∷ 0 ∷ []

abbrev misnumbered_number : List ℕ
misnumbered_number = 0 ∷ 0 ∷ 3 ∷ 231 ∷ []

abbrev done_bytes : List ℕ
done_bytes = 30 ∷ []

misnumbered_cut : misnumbered ≡ 67 ∷ (misnumbered_id ++ (misnumbered_number ++ (30 ∷ client_tag)))
unfolding client_tag
misnumbered_cut = refl

no_misnumbered : (p : Packet) → IsOneRttPacket 8 misnumbered p → ⊥
no_misnumbered p a =
    let rest : List ℕ = a.short.number ++ (a.short.frames ++ a.short.tag) in
    let both : 67 ∷ (misnumbered_id ++ (misnumbered_number ++ (30 ∷ client_tag))) ≡ (63 + length a.short.number) ∷ (a.short.destination ++ rest) = sym misnumbered_cut ∙ a.whole in
    let first : 67 ≡ 63 + length a.short.number = cc in
    let others : misnumbered_id ++ (misnumbered_number ++ (30 ∷ client_tag)) ≡ a.short.destination ++ rest = cc in
    let ids = halves misnumbered_id (misnumbered_number ++ (30 ∷ client_tag)) a.short.destination rest (sym a.fits.destination) others in
    let numbers = halves misnumbered_number (30 ∷ client_tag) a.short.number (a.short.frames ++ a.short.tag) (omega (arith, first)) ids.1 in
    let mine = tag_length client_tag Client Data 1000 client_tagged in
    let theirs = a.fits.tag in
    let all = ap length numbers.1 in
    let count : length done_bytes ≡ length a.short.frames = omega (arith, all, mine, theirs, length-append a.short.frames a.short.tag) in
    let tags = halves done_bytes client_tag a.short.frames a.short.tag count numbers.1 in
    let same = tags_agree client_tag a.short.tag Client p.sender 1000 p.number Data client_tagged a.content.tagged tags.1 in
    let low : be_value misnumbered_number ≡ p.number % (256 ^ length misnumbered_number) = subst (λ (z : List ℕ). be_value z ≡ p.number % (256 ^ length z)) (sym numbers.0) a.content.low in
    let wrong : ◌≡◌ {A = ℕ} 999 1000 = low ∙ ap (λ (n : ℕ). n % (256 ^ length misnumbered_number)) (sym same.number) in
    absurd (omega arith)

-- bytes whose header and tag have unlike numbers are no packet
pub misnumbered_none : (p : Packet) → HasPacket 8 p misnumbered → ⊥
misnumbered_none p (one_rtt bytes h) = no_misnumbered p h
misnumbered_none p (initial front rest bytes e i) = no_initial_packet misnumbered front rest p e i (omega arith)
misnumbered_none p (later front rest bytes m c e i h) = not_initial misnumbered front rest m c e i (omega arith)
