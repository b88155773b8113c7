-- A datagram that is written has one reading, the packet with its frames.
use Rattle.std.proofs.Common.{◌≡◌, ℕ, ◌%◌, ◌^◌, List, ◌∷◌, ◌++◌, length, get_or, refl, sym, ap, subst, ◌∙◌, arith, append_assoc}
use Rattle.qh_packet.proofs.Packets.{same_parts}
use Rattle.qh_packet.specs.Packet.{header_bytes, low_bytes, short_of}
use Rattle.qh_spec.proofs.FrameLaws.{quic_frames_agree}
use Rattle.qh_spec.proofs.PacketLaws.{no_initial_packet, not_initial, tag_is_one, tag_length}
use Rattle.qh_spec.specs.Datagram.{Packet, HasPacket, one_rtt, initial, later}
use Rattle.qh_spec.specs.Packet.{ShortPacket, IsShortPacket, be_value, short_packet}
use Rattle.qh_spec.specs.QuicFrames.{QuicFrame, AreQuicFrames}
use Rattle.qh_spec.specs.Tag.{IsTag}
use Rattle.qh_spec.specs.declared.sides.Side.{Side}
use Rattle.qh_spec.specs.declared.sides.Space.{Space}
use Rattle.qh_spec.specs.declared.sides.Space.TheVariants.{Data}

low_value : (number : ℕ) → be_value (low_bytes number) ≡ number % (256 ^ length (low_bytes number))
low_value number = omega arith

same_packet : (p : Packet) (space : Space) (from : Side) (number : ℕ) (frames : List QuicFrame) → p.space ≡ space → p.sender ≡ from → p.number ≡ number → p.frames ≡ frames
    → p ≡ record { space = space; sender = from; number = number; frames = frames }
same_packet p space from number frames a b c d = rw (← a, ← b, ← c, ← d) refl

module _ (destination : List ℕ) (from : Side) (number : ℕ) (frames tag : List ℕ) (fs : List QuicFrame) (tagged : IsTag tag from Data number) (are : AreQuicFrames frames fs) where
  abbrev datagram : List ℕ
  datagram = header_bytes destination number ++ (frames ++ tag)

  abbrev content : Packet
  content = record { space = Data; sender = from; number = number; frames = fs }

  abbrev short : ShortPacket
  short = short_of destination number frames tag

  whole : datagram ≡ short_packet short
  whole = ap (λ (z : List ℕ). 67 ∷ z) (append_assoc destination (low_bytes number) (frames ++ tag))

  fits : IsShortPacket (length destination) short
  fits = record { destination = refl; some_number = omega arith; short_number = omega arith; tag = tag_length tag from Data number tagged }

  pub packet_there : HasPacket (length destination) content datagram
  packet_there = one_rtt datagram (record {
    short = short;
    fits = fits;
    whole = whole;
    content = record { space_is = refl; tagged = tagged; low = low_value number; frames = are };
  })

  first_byte : (d : List ℕ) → d ≡ datagram → get_or d 0 0 ≡ 67
  first_byte d e = ap (λ (z : List ℕ). get_or z 0 0) e

  only_there : (d : List ℕ) (p : Packet) → d ≡ datagram → HasPacket (length destination) p d → p ≡ content
  only_there d p e (one_rtt b h) =
      let same = same_parts (length destination) short h.short fits h.fits (sym (e ∙ whole) ∙ h.whole) in
      let tag_is : IsTag tag p.sender Data p.number = subst (λ (z : List ℕ). IsTag z p.sender Data p.number) (sym same.tag) h.content.tagged in
      let one = tag_is_one tag p.sender from Data Data p.number number tag_is tagged in
      same_packet p Data from number fs h.content.space_is one.0 one.2
      (quic_frames_agree frames p.frames fs (subst (λ (z : List ℕ). AreQuicFrames z p.frames) (sym same.frames) h.content.frames) are)
  only_there d p e (initial front rest b f i) = let first = first_byte d e in absurd (no_initial_packet d front rest p f i (omega (arith, first)))
  only_there d p e (later front rest b m c f i h) = let first = first_byte d e in absurd (not_initial d front rest m c f i (omega (arith, first)))

  pub only_packet : (p : Packet) → HasPacket (length destination) p datagram → p ≡ content
  only_packet p h = only_there datagram p refl h
