-- Worked datagrams with a hello and a frame that announce limits, of which the greatest counts.
use Rattle.std.proofs.Common.{◌≡◌, ◌⊎◌, inl, inr, ℕ, ◌-◌, ◌≤◌, List, [], ◌∷◌, Some, refl, sym, ap, ◌∙◌, arith, subst, append-nil}
use Rattle.std.specs.Prelude.{slice_get}
use Rattle.qh_spec.specs.Announced.{Connection, limit_frame, Announces, first, later, IsAnnounced, IsPermitted}
use Rattle.qh_spec.specs.Datagram.{Packet, IsOneRttPacket, HasPacket, one_rtt}
use Rattle.qh_spec.specs.Greeted.{HasFrameOf, crypto_frame, CarriesHello, CarriesWhole, AreAnnouncedFirst}
use Rattle.qh_spec.specs.GreetedRows.{limit_hello, hello_limits, carrying_max_data, carrying_low_max_data, hello_and}
use Rattle.qh_spec.specs.Hello.{Hello, FirstLimits, SaysLimits}
use Rattle.qh_spec.specs.Lists.{In}
use Rattle.qh_spec.specs.QuicFrames.{QuicFrame, Num, Number, AreQuicFrames}
use Rattle.qh_spec.specs.Varint.{one}
use Rattle.qh_spec.specs.declared.sides.Side.TheVariants.{Client}
use Rattle.qh_spec.specs.declared.sides.Space.TheVariants.{Initial, Data}
use Rattle.qh_spec.proofs.AnnouncedRows.{max_data_packet, max_data_shape, max_data_there, hello_announces, frame_announces}
use Rattle.qh_spec.proofs.GreetedRows.{packet_of, only_packet, front_of, same_frame, the_hello, limit_hello_is, the_hello_says}
use Rattle.qh_spec.proofs.HelloLaws.{hello_agrees, one_limits}
use Rattle.qh_spec.proofs.PacketLaws.{one_packet}
use Rattle.qh_spec.proofs.PacketRows.{client_tag, client_tagged}

-- ---- a packet with MAX_DATA of 50

abbrev low_packet : Packet
low_packet = record { space = Data; sender = Client; number = 1000; frames = limit_frame Connection 50 ∷ [] }

low_frames : AreQuicFrames (16 ∷ 50 ∷ []) (limit_frame Connection 50 ∷ [])
low_frames = (
  [],
  record {
    fields = 50 ∷ [];
    shape = Number ∷ [];
    kind = (16 ∷ [], refl, one (omega arith) refl);
    shaped = max_data_shape;
    values = ([], (50 ∷ [], refl, one (omega arith) refl), refl);
  },
  refl,
)

low_whole : IsOneRttPacket 8 carrying_low_max_data low_packet
unfolding client_tag
low_whole = record {
  short = record { destination = 80 ∷ 0 ∷ 0 ∷ 0 ∷ 0 ∷ 0 ∷ 0 ∷ 0 ∷ []; number = 0 ∷ 0 ∷ 3 ∷ 232 ∷ []; frames = 16 ∷ 50 ∷ []; tag = client_tag };
  fits = record { destination = refl; some_number = omega arith; short_number = omega arith; tag = refl };
  whole = refl;
  content = record { space_is = refl; tagged = client_tagged; low = refl; frames = low_frames };
}

low_there : HasPacket 8 low_packet carrying_low_max_data
low_there = one_rtt carrying_low_max_data low_whole

pub low_announces : Announces 8 (hello_and carrying_low_max_data) Client Connection 50
low_announces =
    later (record {
      of = record { datagram = carrying_low_max_data; among = inr (inl refl); packet = low_packet; has = low_there; space_is = refl; sender_is = refl };
      frame_among = inl refl;
    })

-- ---- a datagram whose only packet has MAX_DATA of n alone, beside the hello

abbrev data_packet : ℕ → Packet
data_packet n = record { space = Data; sender = Client; number = 1000; frames = limit_frame Connection n ∷ [] }

abbrev HasOnly : List ℕ → ℕ → Type 0
HasOnly d n = (p : Packet) → HasPacket 8 p d → p ≡ data_packet n

only_high : HasOnly carrying_max_data 5000
only_high p h = one_packet 8 p max_data_packet carrying_max_data (omega arith) h max_data_there

only_low : HasOnly carrying_low_max_data 50
only_low p h = one_packet 8 p low_packet carrying_low_max_data (omega arith) h low_there

-- the packets of both
which_packet : (d : List ℕ) (n : ℕ) → HasOnly d n → (p : Packet) (x : List ℕ) → In x (hello_and d) → HasPacket 8 p x
    → (p ≡ packet_of Client 0 limit_hello) ⊎ (p ≡ data_packet n)
which_packet d n only p x among h =
    elim among [
      | inl e ↦ inl (only_packet Client 0 limit_hello p (omega arith) (omega arith) (subst (λ (z : List ℕ). HasPacket 8 p z) (sym e) h))
      | inr m ↦ elim m [
        | inl e ↦ inr (only p (subst (λ (z : List ℕ). HasPacket 8 p z) (sym e) h))
        | inr none ↦ absurd none
      ]
    ]

spaces_differ : (p q : Packet) → p.space ≡ Initial → q.space ≡ Data → p ≡ q → ⊥
spaces_differ p q a b e = let wrong : Initial ≡ Data = sym a ∙ ap (λ (z : Packet). z.space) e ∙ b in cc

-- ---- what is carried of a hello is of this one

carried_at : (d : List ℕ) (n : ℕ) → HasOnly d n → (offset byte : ℕ) → CarriesHello 8 (hello_and d) Client offset byte → slice_get limit_hello offset ≡ Some byte
carried_at d n only offset byte c =
    elim (which_packet d n only c.has.of.packet c.has.of.datagram c.has.of.among c.has.of.has) [
      | inl same ↦ elim (subst (λ (z : Packet). In (crypto_frame c.from c.payload) z.frames) same c.has.frame_among) [
        | inl f ↦
            let r = same_frame limit_hello c.from c.payload f in
            let start = r.0 in
            subst (λ (o : ℕ). slice_get limit_hello o ≡ Some byte) (let back : offset - c.from ≡ offset = omega (arith, start) in back)
            (subst (λ (z : List ℕ). slice_get z (offset - c.from) ≡ Some byte) r.1 c.byte_is)
        | inr none ↦ absurd none
      ]
      | inr same ↦ absurd (spaces_differ c.has.of.packet (data_packet n) c.has.of.space_is refl same)
    ]

only_hello : (d : List ℕ) (n : ℕ) → HasOnly d n → (h : Hello) → CarriesWhole 8 (hello_and d) Client h → h ≡ the_hello
only_hello d n only h w =
    let front = front_of w.bytes limit_hello (λ k b e. carried_at d n only k b (w.all k b e)) in
    (hello_agrees w.bytes limit_hello front.0 [] h the_hello w.is.0 limit_hello_is.0 (sym front.1 ∙ sym (append-nil limit_hello))).0

only_limits : (d : List ℕ) (n : ℕ) → HasOnly d n → (l : FirstLimits) → AreAnnouncedFirst 8 (hello_and d) Client l → l ≡ hello_limits
only_limits d n only l a =
    one_limits the_hello l hello_limits (subst (λ (h : Hello). SaysLimits h l) (only_hello d n only a.hello a.carried) a.says) the_hello_says

-- ---- the values that are announced

same_value : (m n : ℕ) → limit_frame Connection n ≡ limit_frame Connection m → m ≡ n
same_value m n e = let values : Num n ∷ [] ≡ Num m ∷ [] = ap (λ (z : QuicFrame). z.values) e in cc

frame_value : (d : List ℕ) (n : ℕ) → HasOnly d n → (m : ℕ) → HasFrameOf 8 (hello_and d) Client Data (limit_frame Connection m) → m ≡ n
frame_value d n only m h =
    elim (which_packet d n only h.of.packet h.of.datagram h.of.among h.of.has) [
      | inl same ↦ absurd (spaces_differ (packet_of Client 0 limit_hello) h.of.packet refl h.of.space_is (sym same))
      | inr same ↦ elim (subst (λ (z : Packet). In (limit_frame Connection m) z.frames) same h.frame_among) [
        | inl f ↦ same_value m n f
        | inr none ↦ absurd none
      ]
    ]

values_are : (d : List ℕ) (n : ℕ) → HasOnly d n → (m : ℕ) → Announces 8 (hello_and d) Client Connection m → (m ≡ 1000) ⊎ (m ≡ n)
values_are d n only m (first l a e) = inl (e ∙ ap (λ (z : FirstLimits). z.max_data) (only_limits d n only l a))
values_are d n only m (later h) = inr (frame_value d n only m h)

pub low_values : (m : ℕ) → Announces 8 (hello_and carrying_low_max_data) Client Connection m → (m ≡ 1000) ⊎ (m ≡ 50)
low_values m a = values_are carrying_low_max_data 50 only_low m a

pub raised : IsAnnounced 8 (hello_and carrying_max_data) Client Connection 5000
raised = record {
  announces = frame_announces (hello_and carrying_max_data) (inr (inl refl));
  greatest = λ m a. elim (values_are carrying_max_data 5000 only_high m a) [ inl e ↦ omega (arith, e) | inr e ↦ omega (arith, e) ];
}

pub raised_not : IsAnnounced 8 (hello_and carrying_max_data) Client Connection 1000 → ⊥
raised_not a = let l = a.greatest 5000 (frame_announces (hello_and carrying_max_data) (inr (inl refl))) in omega (arith, l)

pub kept : IsAnnounced 8 (hello_and carrying_low_max_data) Client Connection 1000
kept = record {
  announces = hello_announces (hello_and carrying_low_max_data) (inl refl);
  greatest = λ m a. elim (low_values m a) [ inl e ↦ omega (arith, e) | inr e ↦ omega (arith, e) ];
}

pub kept_not : IsAnnounced 8 (hello_and carrying_low_max_data) Client Connection 50 → ⊥
kept_not a = let l = a.greatest 1000 (hello_announces (hello_and carrying_low_max_data) (inl refl)) in omega (arith, l)

pub kept_permitted : (amount : ℕ) → IsPermitted 8 (hello_and carrying_low_max_data) Client Connection amount → amount ≤ 1000
kept_permitted amount p = let l = p.within in elim (low_values p.value p.announces) [ inl e ↦ omega (arith, l, e) | inr e ↦ omega (arith, l, e) ]
