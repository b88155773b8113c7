-- A datagram of one Initial packet is read as that packet, and as no other one.
use Rattle.std.proofs.Common.{◌≡◌, ℕ, ◌+◌, ◌%◌, ◌^◌, List, [], ◌++◌, length, get_or, refl, sym, ap, subst, ◌∙◌, arith, length-append}
use Rattle.std.proofs.lemmas.List.{append-nil}
use Rattle.qh_handshake.specs.Written.{CanBeWritten}
use Rattle.qh_packet.proofs.InitialForms.{written_form}
use Rattle.qh_packet.specs.Initial.{filled, initial_filled, is_short}
use Rattle.qh_packet.specs.Packet.{low_bytes}
use Rattle.qh_spec.proofs.Cuts.{halves}
use Rattle.qh_spec.proofs.PacketLaws.{forms_agree, tag_is_one, tag_length}
use Rattle.qh_spec.specs.Datagram.{Packet, HasPacket, IsInitialForm, IsInitialPacket, one_rtt, initial, later}
use Rattle.qh_spec.specs.Packet.{be_value}
use Rattle.qh_spec.specs.QuicFrames.{QuicFrame, AreQuicFrames}
use Rattle.qh_spec.specs.Tag.{IsTag}
use Rattle.qh_spec.specs.declared.sides.Side.{Side}
use Rattle.qh_spec.specs.declared.sides.Space.TheVariants.{Initial}

low_value : (number : ℕ) → be_value (low_bytes number) ≡ number % (256 ^ length (low_bytes number))
low_value number = omega arith

-- no bytes have no packet
none_there : (id_length : ℕ) (p : Packet) (d : List ℕ) → d ≡ [] → HasPacket id_length p d → ⊥
none_there id_length p d empty (one_rtt b h) = let len = ap length (sym empty ∙ h.whole) in omega (arith, len)
none_there id_length p d empty (initial front rest b f i) = let len = ap length (sym empty ∙ f ∙ ap (λ (z : List ℕ). z ++ rest) i.form.whole) in omega (arith, len)
none_there id_length p d empty (later front rest b m c f i h) = let len = ap length (sym empty ∙ f ∙ ap (λ (z : List ℕ). z ++ rest) i.whole) in omega (arith, len)

-- what is said of a packet in such a datagram
abbrev pub IsThat : (frames : List ℕ) → (sender : Side) → (number : ℕ) → (p : Packet) → Type 0
IsThat frames sender number p = (p.space ≡ Initial) × (p.sender ≡ sender) × (p.number ≡ number) × AreQuicFrames frames p.frames

-- the parts of an Initial packet that has this body are these
parts_agree : (frames tag d : List ℕ) (number : ℕ) (sender : Side) (p : Packet) → IsTag tag sender Initial number → (i : IsInitialPacket d p) → 195 ≡ 191 + length i.number_bytes
    → low_bytes number ++ (frames ++ tag) ≡ i.number_bytes ++ (i.frame_bytes ++ i.tag) → IsThat frames sender number p
parts_agree frames tag d number sender p tagged i first body =
    let cut = halves (low_bytes number) (frames ++ tag) i.number_bytes (i.frame_bytes ++ i.tag) (omega (arith, first)) body in
    let all = ap length cut.1 in
    let own = tag_length tag sender Initial number tagged in
    let its = tag_length i.tag p.sender Initial p.number i.content.tagged in
    let parts = halves frames tag i.frame_bytes i.tag (omega (arith, all, own, its, length-append frames tag, length-append i.frame_bytes i.tag)) cut.1 in
    let same = tag_is_one tag p.sender sender Initial Initial p.number number (subst (λ (z : List ℕ). IsTag z p.sender Initial p.number) (sym parts.1) i.content.tagged) tagged in
    (i.content.space_is, same.0, same.2, subst (λ (z : List ℕ). AreQuicFrames z p.frames) (sym parts.0) i.content.frames)

module _ (destination source token frames tag : List ℕ) (number size : ℕ) (can : CanBeWritten destination source token frames size tag) where
  abbrev datagram : List ℕ
  datagram = initial_filled destination source token number frames size tag

  abbrev all_frames : List ℕ
  all_frames = filled destination source token frames size

  abbrev body : List ℕ
  body = low_bytes number ++ (all_frames ++ tag)

  pub is_form : IsInitialForm datagram 195 body
  is_form =
      let begins = written_form destination source token all_frames tag [] number (is_short destination source token frames size) can.short_destination can.short_source can.short_token can.short_frames can.whole_tag in
      subst (λ (z : List ℕ). IsInitialForm z 195 body) (sym (append-nil begins.front) ∙ sym begins.whole ∙ append-nil datagram) begins.form

  module _ (sender : Side) (tagged : IsTag tag sender Initial number) (id_length : ℕ) where
    pub is_there : (fs : List QuicFrame) → AreQuicFrames all_frames fs → HasPacket id_length (record { space = Initial; sender = sender; number = number; frames = fs }) datagram
    is_there fs are = initial datagram [] datagram (sym (append-nil datagram)) (record {
      number_bytes = low_bytes number;
      frame_bytes = all_frames;
      tag = tag;
      form = is_form;
      some_number = omega arith;
      short_number = omega arith;
      content = record { space_is = refl; tagged = tagged; low = low_value number; frames = are };
    })

    pub is_only : (p : Packet) (d : List ℕ) → d ≡ datagram → HasPacket id_length p d → IsThat all_frames sender number p
    is_only p d is (one_rtt b h) =
        let first : get_or d 0 0 ≡ 195 = ap (λ (z : List ℕ). get_or z 0 0) is in
        let short : get_or d 0 0 ≡ 63 + length h.short.number = ap (λ (z : List ℕ). get_or z 0 0) h.whole in
        absurd (omega (arith, first, short, h.fits.short_number))
    is_only p d is (initial front rest b f i) =
        let same = forms_agree datagram [] front rest 195 (191 + length i.number_bytes) body (i.number_bytes ++ (i.frame_bytes ++ i.tag)) is_form i.form (append-nil datagram ∙ sym is ∙ f) in
        parts_agree all_frames tag front number sender p tagged i same.0 same.1
    is_only p d is (later front rest b m c f i h) =
        let same = forms_agree datagram [] front rest 195 m body c is_form i (append-nil datagram ∙ sym is ∙ f) in
        absurd (none_there id_length p rest (sym same.2) h)
