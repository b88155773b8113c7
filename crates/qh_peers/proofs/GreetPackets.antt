-- What is read of a datagram of one Initial packet with its tag.
use Rattle.std.proofs.Common.{◌≡◌, ℕ, ◌+◌, ◌<◌, ◌≤◌, ◌^◌, true, List, [], ◌++◌, length, sym, ap, subst, ◌∙◌, inl, arith, append-nil, length-append}
use Rattle.qh_packet.specs.Packet.{IsInitialOpened, low_bytes}
use Rattle.qh_packet.specs.Session.{AcceptsTag, MakesTags, NamesTags, SealsTag}
use Rattle.qh_peers.specs.Greets.{IsInitialSealed}
use Rattle.qh_recovery.proofs.PacketNumbers.{expanded}
use Rattle.qh_recovery.specs.PacketNumber.{IsExpanded}
use Rattle.qh_spec.proofs.Cuts.{halves}
use Rattle.qh_spec.proofs.PacketLaws.{forms_agree, tag_is_one, tag_length}
use Rattle.qh_spec.proofs.PartLaws.{no_packet_here}
use Rattle.qh_spec.specs.Datagram.{HasPacket, Packet, one_rtt, initial, later}
use Rattle.qh_spec.specs.Packet.{be_value}
use Rattle.qh_spec.specs.QuicFrames.{AreQuicFrames}
use Rattle.qh_spec.specs.Tag.{IsTag}
use Rattle.qh_spec.specs.declared.sides.Side.{Side}
use Rattle.qh_spec.specs.declared.sides.Space.TheVariants.{Data, Initial}

-- ---- a number below 2^31 that is no less than the expected one is told by its low four bytes

low_four : (n : ℕ) → n < 2 ^ 31 → be_value (low_bytes n) ≡ n
low_four n small = omega arith

expanded_four : (e n : ℕ) → e ≤ n → n < 2 ^ 31 → IsExpanded e (be_value (low_bytes n)) 4 n
expanded_four e n least small =
    let low = low_four n small in
    expanded e (be_value (low_bytes n)) 4 n (omega arith) (omega arith) (omega arith) (omega arith)
    (record { steps = inl (omega arith); near = inl (omega arith, omega arith) })

-- ---- the packet

module _ (sealed : SealsTag) (makes : MakesTags sealed) (sender : Side) (d : List ℕ) (s : IsInitialSealed sealed sender d) where
  abbrev tag : List ℕ
  tag = sealed sender Initial s.number

  abbrev pub body : List ℕ
  body = low_bytes s.number ++ (s.frames ++ tag)

  tagged : IsTag tag sender Initial s.number
  tagged = makes sender Initial s.number s.is_number

  tag_size : length tag ≡ 32
  tag_size = tag_length tag sender Initial s.number tagged

  body_parts : (number_bytes frames other_tag : List ℕ) → 195 ≡ 191 + length number_bytes → length other_tag ≡ 32 → body ≡ number_bytes ++ (frames ++ other_tag)
      → (s.frames ≡ frames) × (tag ≡ other_tag)
  body_parts number_bytes frames other_tag first size is =
      let cut = halves (low_bytes s.number) (s.frames ++ tag) number_bytes (frames ++ other_tag) (omega (arith, first)) is in
      let all = ap length cut.1 in
      let own = tag_size in
      halves s.frames tag frames other_tag (omega (arith, all, own, size, length-append s.frames tag, length-append frames other_tag)) cut.1

  -- of it one packet is told
  pub packet_is : (k : ℕ) (p : Packet) (x : List ℕ) → x ≡ d → HasPacket k p x → p.space ≡ Initial → (p.number ≡ s.number) × AreQuicFrames s.frames p.frames
  packet_is k p x same (one_rtt b h) space = let z : Data ≡ Initial = sym h.content.space_is ∙ space in cc
  packet_is k p x same (initial front rest b e i) space =
      let forms = forms_agree d [] front rest 195 (191 + length i.number_bytes) body (i.number_bytes ++ (i.frame_bytes ++ i.tag)) s.form i.form (append-nil d ∙ sym same ∙ e) in
      let parts = body_parts i.number_bytes i.frame_bytes i.tag forms.0 (tag_length i.tag p.sender Initial p.number i.content.tagged) forms.1 in
      let one = tag_is_one tag sender p.sender Initial Initial s.number p.number tagged (subst (λ (z : List ℕ). IsTag z p.sender Initial p.number) (sym parts.1) i.content.tagged) in
      (sym one.2, subst (λ (z : List ℕ). AreQuicFrames z p.frames) (sym parts.0) i.content.frames)
  packet_is k p x same (later front rest b first y e i has) space =
      let forms = forms_agree d [] front rest 195 first body y s.form i (append-nil d ∙ sym same ∙ e) in
      absurd (no_packet_here k p rest (sym forms.2) has)

  module _ (accepts : AcceptsTag) (expected first : ℕ) (bytes : List ℕ) (first_is : 195 ≡ first) (body_is : body ≡ bytes) where
    pub opens : accepts sender Initial s.number tag ≡ true → expected ≤ s.number → s.number < 2 ^ 31 → IsInitialOpened accepts sender expected first bytes s.number s.frames
    opens takes least small = record {
      number_bytes = low_bytes s.number;
      tag = tag;
      whole = sym body_is;
      first_is = sym first_is;
      some_number = omega arith;
      short_number = omega arith;
      tag_length = tag_size;
      expanded = expanded_four expected s.number least small;
      is_number = s.is_number;
      accepted = takes;
    }

    pub opens_as : NamesTags accepts → (number : ℕ) (frames : List ℕ) → IsInitialOpened accepts sender expected first bytes number frames → (number ≡ s.number) × (frames ≡ s.frames)
    opens_as named number frames o =
        let parts = body_parts o.number_bytes frames o.tag (first_is ∙ o.first_is) o.tag_length (body_is ∙ o.whole) in
        let its : IsTag o.tag sender Initial number = named sender Initial number o.tag o.is_number o.accepted in
        let one = tag_is_one tag sender sender Initial Initial s.number number tagged (subst (λ (z : List ℕ). IsTag z sender Initial number) (sym parts.1) its) in
        (sym one.2, sym parts.0)
