-- Worked datagrams that announce a limit.
use Rattle.std.proofs.Common.{◌≡◌, inl, inr, ℕ, List, [], ◌∷◌, Some, refl, sym, ap, ◌∙◌, arith, subst}
use Rattle.qh_spec.specs.Announced.{Limit, Connection, Stream, first_limit, limit_frame, Announces, first, later, IsAnnounced}
use Rattle.qh_spec.specs.Datagram.{Packet, IsOneRttPacket, HasPacket, one_rtt}
use Rattle.qh_spec.specs.Greeted.{HasFrameOf, AreAnnouncedFirst}
use Rattle.qh_spec.specs.GreetedRows.{carrying_crypto, limit_hello, hello_limits, carrying_max_data}
use Rattle.qh_spec.specs.Hello.{FirstLimits}
use Rattle.qh_spec.specs.Lists.{In}
use Rattle.qh_spec.specs.QuicFrames.{QuicFrame, Num, Number, shape_of, AreQuicFrames}
use Rattle.qh_spec.specs.Varint.{one, two}
use Rattle.qh_spec.specs.declared.sides.Side.{Side}
use Rattle.qh_spec.specs.declared.sides.Side.TheVariants.{Client, Server}
use Rattle.qh_spec.specs.declared.sides.Space.TheVariants.{Initial, Data}
use Rattle.qh_spec.proofs.GreetedLaws.{first_crypto}
use Rattle.qh_spec.proofs.GreetedRows.{announced_by_one}
use Rattle.qh_spec.proofs.PacketLaws.{one_packet}
use Rattle.qh_spec.proofs.PacketRows.{client_tag, client_tagged}

abbrev pub max_data_packet : Packet
max_data_packet = record { space = Data; sender = Client; number = 1000; frames = limit_frame Connection 5000 ∷ [] }

pub max_data_shape : shape_of 16 ≡ Some (Number ∷ [])
unfolding shape_of
max_data_shape = refl

max_data_frames : AreQuicFrames (16 ∷ 83 ∷ 136 ∷ []) (limit_frame Connection 5000 ∷ [])
max_data_frames = (
  [],
  record {
    fields = 83 ∷ 136 ∷ [];
    shape = Number ∷ [];
    kind = (16 ∷ [], refl, one (omega arith) refl);
    shaped = max_data_shape;
    values = ([], (83 ∷ 136 ∷ [], refl, two (omega arith) refl), refl);
  },
  refl,
)

max_data_whole : IsOneRttPacket 8 carrying_max_data max_data_packet
unfolding client_tag
max_data_whole = record {
  short = record { destination = 80 ∷ 0 ∷ 0 ∷ 0 ∷ 0 ∷ 0 ∷ 0 ∷ 0 ∷ []; number = 0 ∷ 0 ∷ 3 ∷ 232 ∷ []; frames = 16 ∷ 83 ∷ 136 ∷ []; tag = client_tag };
  fits = record { destination = refl; some_number = omega arith; short_number = omega arith; tag = refl };
  whole = refl;
  content = record { space_is = refl; tagged = client_tagged; low = refl; frames = max_data_frames };
}

pub max_data_there : HasPacket 8 max_data_packet carrying_max_data
max_data_there = one_rtt carrying_max_data max_data_whole

-- the only packet
the_packet : (p : Packet) (d : List ℕ) → In d (carrying_max_data ∷ []) → HasPacket 8 p d → p ≡ max_data_packet
the_packet p d among h =
    elim among [
      | inl e ↦ one_packet 8 p max_data_packet carrying_max_data (omega arith) (subst (λ (z : List ℕ). HasPacket 8 p z) (sym e) h) max_data_there
      | inr n ↦ absurd n
    ]

-- it is no part of a hello
no_hello : (s : Side) (l : FirstLimits) → AreAnnouncedFirst 8 (carrying_max_data ∷ []) s l → ⊥
no_hello s l a =
    let c = first_crypto 8 (carrying_max_data ∷ []) s (a.hello, a.carried) in
    let space : Initial ≡ Data = sym c.has.of.space_is ∙ ap (λ (z : Packet). z.space) (the_packet c.has.of.packet c.has.of.datagram c.has.of.among c.has.of.has) in
    absurd (let wrong = space in cc)

pub frame_announces : (xs : List (List ℕ)) → In carrying_max_data xs → Announces 8 xs Client Connection 5000
frame_announces xs among =
    later (record {
      of = record { datagram = carrying_max_data; among = among; packet = max_data_packet; has = max_data_there; space_is = refl; sender_is = refl };
      frame_among = inl refl;
    })

-- the only frame
the_frame : (s : Side) (frame : QuicFrame) → HasFrameOf 8 (carrying_max_data ∷ []) s Data frame → limit_frame Connection 5000 ≡ frame
the_frame s frame h =
    elim (subst (λ (z : Packet). In frame z.frames) (the_packet h.of.packet h.of.datagram h.of.among h.of.has) h.frame_among) [
      | inl e ↦ e
      | inr n ↦ absurd n
    ]

same_limit : (n : ℕ) → limit_frame Connection 5000 ≡ limit_frame Connection n → n ≡ 5000
same_limit n e = let values : Num 5000 ∷ [] ≡ Num n ∷ [] = ap (λ (z : QuicFrame). z.values) e in cc

only_value : (n : ℕ) → Announces 8 (carrying_max_data ∷ []) Client Connection n → n ≡ 5000
only_value n (first l a e) = absurd (no_hello Client l a)
only_value n (later h) = same_limit n (the_frame Client (limit_frame Connection n) h)

pub frame_announced : IsAnnounced 8 (carrying_max_data ∷ []) Client Connection 5000
frame_announced = record {
  announces = frame_announces (carrying_max_data ∷ []) (inl refl);
  greatest = λ n a. let e = only_value n a in omega (arith, e);
}

pub near_announced : (n : ℕ) → IsAnnounced 8 (carrying_max_data ∷ []) Client Connection n → n ≡ 5000
near_announced n a = only_value n a.announces

pub other_limit_not : (id n : ℕ) → Announces 8 (carrying_max_data ∷ []) Client (Stream id) n → ⊥
other_limit_not id n (first l a e) = no_hello Client l a
other_limit_not id n (later h) =
    let kind : 16 ≡ 17 = ap (λ (z : QuicFrame). z.kind) (the_frame Client (limit_frame (Stream id) n) h) in
    omega (arith, kind)

pub other_sender_not : (limit : Limit) (n : ℕ) → Announces 8 (carrying_max_data ∷ []) Server limit n → ⊥
other_sender_not limit n (first l a e) = no_hello Server l a
other_sender_not limit n (later h) =
    let side : Client ≡ Server = sym (ap (λ (z : Packet). z.sender) (the_packet h.of.packet h.of.datagram h.of.among h.of.has)) ∙ h.of.sender_is in
    absurd (let wrong = side in cc)

-- ---- and of a hello

pub hello_announces : (xs : List (List ℕ)) → In (carrying_crypto Client 0 limit_hello) xs → Announces 8 xs Client Connection 1000
hello_announces xs among = first hello_limits (announced_by_one xs among) refl

pub first_of_streams : (l : FirstLimits) → (first_limit Client l (Stream 4) ≡ l.bidi_local) × (first_limit Client l (Stream 5) ≡ l.bidi_remote)
    × (first_limit Client l (Stream 7) ≡ l.uni) × (first_limit Server l (Stream 4) ≡ l.bidi_remote) × (first_limit Server l (Stream 5) ≡ l.bidi_local) × (first_limit Server l (Stream 6) ≡ l.uni)
first_of_streams l = (refl, refl, refl, refl, refl, refl)
