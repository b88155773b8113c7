-- Worked datagrams that carry a hello, and ones that don't.
use Rattle.std.proofs.Common.{◌≡◌, ◌⊎◌, inl, inr, ℕ, zero, suc, ◌+◌, ◌-◌, ◌<◌, ◌≤◌, List, [], ◌∷◌, ◌++◌, length, get_or, Option, Some, None, refl, sym, ap, ◌∙◌, arith, subst, append-nil, append_assoc, length-append}
use Rattle.std.specs.Prelude.{slice_get}
use Rattle.qh_spec.specs.Datagram.{Packet, IsInitialForm, IsInitialPacket, IsOneRttPacket, HasPacket, one_rtt, initial, later}
use Rattle.qh_spec.specs.Greeted.{HasCrypto, crypto_frame, CarriesHello, CarriesWhole, IsGreeted, AreAnnouncedFirst}
use Rattle.qh_spec.specs.GreetedRows.{carrying_crypto, limit_hello, first_half, second_half, hello_limits}
use Rattle.qh_spec.specs.Hello.{Parameter, Hello, IsHelloOf, SaysLimits}
use Rattle.qh_spec.specs.HelloRows.{plain_hello, source}
use Rattle.qh_spec.specs.Lists.{In}
use Rattle.qh_spec.specs.ParameterIds as parameter_ids
use Rattle.qh_spec.specs.QuicFrames.{QuicFrame, Num, Text, Number, Counted, shape_of, AreQuicFrames}
use Rattle.qh_spec.specs.StreamId.{side_bit}
use Rattle.qh_spec.specs.Tag.{IsTag}
use Rattle.qh_spec.specs.Varint.{one, two}
use Rattle.qh_spec.specs.WireRows.{two_packets}
use Rattle.qh_spec.specs.declared.sides.Side.{Side}
use Rattle.qh_spec.specs.declared.sides.Side.TheVariants.{Client, Server}
use Rattle.qh_spec.specs.declared.sides.Space.TheVariants.{Initial}
use Rattle.qh_spec.proofs.GreetedLaws.{first_crypto}
use Rattle.qh_spec.proofs.HelloLaws.{hello_agrees}
use Rattle.qh_spec.proofs.HelloRows.{short_is}
use Rattle.qh_spec.proofs.Members.{get_split}
use Rattle.qh_spec.proofs.PacketLaws.{forms_agree, initials_agree}
use Rattle.qh_spec.proofs.PacketRows.{two_only}
use Rattle.qh_spec.proofs.PartLaws.{no_packet_here}

-- ---- the packet of a datagram that carries a part of a hello

abbrev pub tag_of : Side → List ℕ
tag_of s = 208 ∷ 0 ∷ 0 ∷ 0 ∷ 0 ∷ 0 ∷ 0 ∷ 0 ∷ 0 ∷ 0 ∷ 0 ∷ 0 ∷ 0 ∷ 0 ∷ 0 ∷ 0
    ∷ 165 ∷ side_bit s ∷ 0 ∷ 0 ∷ 0 ∷ 0 ∷ 0 ∷ 0 ∷ 0 ∷ 7 ∷ 8 ∷ 0 ∷ 0 ∷ 0 ∷ 0 ∷ 0 ∷ []

abbrev pub body_of : Side → ℕ → List ℕ → List ℕ
body_of s offset payload = 0 ∷ 0 ∷ 0 ∷ 7 ∷ 6 ∷ offset ∷ length payload ∷ (payload ++ tag_of s)

abbrev pub packet_of : Side → ℕ → List ℕ → Packet
packet_of s offset payload = record { space = Initial; sender = s; number = 7; frames = crypto_frame offset payload ∷ [] }

crypto_shape : shape_of 6 ≡ Some (Number ∷ Counted ∷ [])
unfolding shape_of
crypto_shape = refl

crypto_is : (offset : ℕ) (payload : List ℕ) → offset < 64 → length payload < 25 → AreQuicFrames (6 ∷ offset ∷ length payload ∷ payload) (crypto_frame offset payload ∷ [])
crypto_is offset payload low short = (
  [],
  record {
    fields = offset ∷ length payload ∷ payload;
    shape = Number ∷ Counted ∷ [];
    kind = (6 ∷ [], refl, one (omega arith) refl);
    shaped = crypto_shape;
    values = (
      length payload ∷ payload,
      (offset ∷ [], refl, one (omega (arith, low)) refl),
      ([], (payload, (length payload ∷ [], refl, one (omega (arith, short)) refl), sym (append-nil payload)), refl),
    );
  },
  refl,
)

body_length : (s : Side) (offset : ℕ) (payload : List ℕ) → 39 + length payload ≡ length (body_of s offset payload)
body_length s offset payload = let a = length-append payload (tag_of s) in omega (arith, a)

pub form_is : (s : Side) (offset : ℕ) (payload : List ℕ) → length payload < 25 → IsInitialForm (carrying_crypto s offset payload) 195 (body_of s offset payload)
form_is s offset payload short = record {
  destination = 208 ∷ 0 ∷ 0 ∷ 0 ∷ 0 ∷ 0 ∷ 0 ∷ 0 ∷ [];
  source = 192 ∷ 0 ∷ 0 ∷ 0 ∷ 0 ∷ 0 ∷ 0 ∷ 0 ∷ [];
  token_length = 0 ∷ [];
  token = [];
  body_length = (39 + length payload) ∷ [];
  whole = refl;
  long_header = omega arith;
  initial_type = omega arith;
  destination_fits = omega arith;
  source_fits = omega arith;
  token_is = one (omega arith) refl;
  body_is = let e = body_length s offset payload in one (omega (arith, short, e)) (ap (λ (n : ℕ). n ∷ []) e);
}

tag_is : (s : Side) → IsTag (tag_of s) s Initial 7
tag_is s = record { key_id = 208 ∷ 0 ∷ 0 ∷ 0 ∷ 0 ∷ 0 ∷ 0 ∷ 0 ∷ []; short = omega arith; bound = omega arith; is = refl }

carrying_is : (s : Side) (offset : ℕ) (payload : List ℕ) → offset < 64 → length payload < 25 → IsInitialPacket (carrying_crypto s offset payload) (packet_of s offset payload)
carrying_is s offset payload low short = record {
  number_bytes = 0 ∷ 0 ∷ 0 ∷ 7 ∷ [];
  frame_bytes = 6 ∷ offset ∷ length payload ∷ payload;
  tag = tag_of s;
  form = form_is s offset payload short;
  some_number = omega arith;
  short_number = omega arith;
  content = record { space_is = refl; tagged = tag_is s; low = refl; frames = crypto_is offset payload low short };
}

carrying_has : (s : Side) (offset : ℕ) (payload : List ℕ) → offset < 64 → length payload < 25 → HasPacket 8 (packet_of s offset payload) (carrying_crypto s offset payload)
carrying_has s offset payload low short =
    initial (carrying_crypto s offset payload) [] (carrying_crypto s offset payload) (sym (append-nil (carrying_crypto s offset payload))) (carrying_is s offset payload low short)

not_short : (bytes : List ℕ) (p : Packet) → 128 ≤ get_or bytes 0 0 → IsOneRttPacket 8 bytes p → ⊥
not_short bytes p high a =
    let first : get_or bytes 0 0 ≡ 63 + length a.short.number = ap (λ (z : List ℕ). get_or z 0 0) a.whole in
    let few = a.fits.short_number in
    omega (arith, first, few, high)

-- it has no other packet
pub only_packet : (s : Side) (offset : ℕ) (payload : List ℕ) (p : Packet) → offset < 64 → length payload < 25 → HasPacket 8 p (carrying_crypto s offset payload) → p ≡ packet_of s offset payload
only_packet s offset payload p low short (one_rtt bytes h) = absurd (not_short (carrying_crypto s offset payload) p (omega arith) h)
only_packet s offset payload p low short (initial front rest bytes e i) =
    (initials_agree front rest (carrying_crypto s offset payload) [] p (packet_of s offset payload) i (carrying_is s offset payload low short) (sym e ∙ sym (append-nil (carrying_crypto s offset payload)))).0
only_packet s offset payload p low short (later front rest bytes m c e i h) =
    let none : rest ≡ [] = (forms_agree front rest (carrying_crypto s offset payload) [] m 195 c (body_of s offset payload) i (form_is s offset payload short) (sym e ∙ sym (append-nil (carrying_crypto s offset payload)))).2 in
    absurd (no_packet_here 8 p rest none h)

-- among others it has its part of the hello
pub has_crypto : (s : Side) (offset : ℕ) (payload : List ℕ) (xs : List (List ℕ)) → offset < 64 → length payload < 25 → In (carrying_crypto s offset payload) xs → HasCrypto 8 xs s offset payload
has_crypto s offset payload xs low short among = record {
  of = record { datagram = carrying_crypto s offset payload; among = among; packet = packet_of s offset payload; has = carrying_has s offset payload low short; space_is = refl; sender_is = refl };
  frame_among = inl refl;
}

pub carries : (s : Side) (from : ℕ) (payload : List ℕ) (xs : List (List ℕ)) (k byte : ℕ) → from < 64 → length payload < 25 → In (carrying_crypto s from payload) xs → slice_get payload k ≡ Some byte → CarriesHello 8 xs s (from + k) byte
carries s from payload xs k byte low short among e = record {
  from = from;
  payload = payload;
  has = has_crypto s from payload xs low short among;
  starts = omega arith;
  byte_is = subst (λ (o : ℕ). slice_get payload o ≡ Some byte) (let back : k ≡ (from + k) - from = omega arith in back) e;
}

-- ---- a client's hello

abbrev pub limit_parameter : Parameter
limit_parameter = record { id = parameter_ids.initial_max_data; value = 67 ∷ 232 ∷ [] }

abbrev pub the_hello : Hello
the_hello = plain_hello Client (limit_parameter ∷ source ∷ [])

pub limit_hello_is : IsHelloOf Client limit_hello the_hello
limit_hello_is = short_is Client (limit_parameter ∷ source ∷ []) ((omega arith, omega arith), ((omega arith, omega arith), tt)) (omega arith)

pub the_hello_says : SaysLimits the_hello hello_limits
the_hello_says = record { max_data = two (omega arith) refl; bidi_local = refl; bidi_remote = refl; uni = refl; max_bidi = refl; max_uni = refl }

pub carried_in_one : (xs : List (List ℕ)) → In (carrying_crypto Client 0 limit_hello) xs → CarriesWhole 8 xs Client the_hello
carried_in_one xs among = record {
  bytes = limit_hello;
  is = limit_hello_is;
  all = λ offset byte e. subst (λ (o : ℕ). CarriesHello 8 xs Client o byte) (let same : 0 + offset ≡ offset = omega arith in same)
      (carries Client 0 limit_hello xs offset byte (omega arith) (omega arith) among e);
}

pub announced_by_one : (xs : List (List ℕ)) → In (carrying_crypto Client 0 limit_hello) xs → AreAnnouncedFirst 8 xs Client hello_limits
announced_by_one xs among = record { hello = the_hello; carried = carried_in_one xs among; says = the_hello_says }

abbrev two_halves : List (List ℕ)
two_halves = carrying_crypto Client 4 second_half ∷ carrying_crypto Client 0 first_half ∷ []

halves_carry : (offset byte : ℕ) → slice_get limit_hello offset ≡ Some byte → CarriesHello 8 two_halves Client offset byte
halves_carry offset byte e =
    elim (get_split first_half second_half offset byte e) [
      | inl h ↦ subst (λ (o : ℕ). CarriesHello 8 two_halves Client o byte) (let same : 0 + offset ≡ offset = omega arith in same)
          (carries Client 0 first_half two_halves offset byte (omega arith) (omega arith) (inr (inl refl)) h)
      | inr r ↦ subst (λ (o : ℕ). CarriesHello 8 two_halves Client o byte) (let h = r.1 in let same : 4 + r.0 ≡ offset = omega (arith, h) in same)
          (carries Client 4 second_half two_halves r.0 byte (omega arith) (omega arith) (inl refl) r.2)
    ]

pub halves_greet : IsGreeted 8 two_halves Client
halves_greet = (the_hello, record { bytes = limit_hello; is = limit_hello_is; all = halves_carry })

-- ---- what doesn't greet

pub nothing_greets_not : (s : Side) → IsGreeted 8 [] s → ⊥
nothing_greets_not s g = let c = first_crypto 8 [] s g in c.has.of.among

pub other_side_not : IsGreeted 8 (carrying_crypto Client 0 limit_hello ∷ []) Server → ⊥
other_side_not g =
    let c = first_crypto 8 (carrying_crypto Client 0 limit_hello ∷ []) Server g in
    elim c.has.of.among [
      | inl e ↦
          let same : c.has.of.packet ≡ packet_of Client 0 limit_hello
          = only_packet Client 0 limit_hello c.has.of.packet (omega arith) (omega arith) (subst (λ (z : List ℕ). HasPacket 8 c.has.of.packet z) (sym e) c.has.of.has) in
          let side : Client ≡ Server = sym (ap (λ (z : Packet). z.sender) same) ∙ c.has.of.sender_is in
          absurd (let wrong = side in cc)
      | inr n ↦ absurd n
    ]

no_crypto : (from : ℕ) (payload : List ℕ) (kind : ℕ) → kind < 6 ⊎ 6 < kind → In (crypto_frame from payload) (record { kind = kind; values = [] } ∷ []) → ⊥
no_crypto from payload kind other (inl e) = let k : kind ≡ 6 = ap (λ (z : QuicFrame). z.kind) e in elim other [ inl l ↦ omega (arith, l, k) | inr l ↦ omega (arith, l, k) ]
no_crypto from payload kind other (inr n) = n

pub other_frames_not : IsGreeted 8 (two_packets ∷ []) Client → ⊥
other_frames_not g =
    let c = first_crypto 8 (two_packets ∷ []) Client g in
    elim c.has.of.among [
      | inl e ↦ elim (two_only c.has.of.packet (subst (λ (z : List ℕ). HasPacket 8 c.has.of.packet z) (sym e) c.has.of.has)) [
        | inl p ↦ no_crypto c.from c.payload 1 (inl (omega arith)) (subst (λ (z : Packet). In (crypto_frame c.from c.payload) z.frames) p c.has.frame_among)
        | inr p ↦ no_crypto c.from c.payload 30 (inr (omega arith)) (subst (λ (z : Packet). In (crypto_frame c.from c.payload) z.frames) p c.has.frame_among)
      ]
      | inr n ↦ absurd n
    ]

-- a list whose elements another one has at their places is its front
pub front_of : (xs ys : List ℕ) → ((k b : ℕ) → slice_get xs k ≡ Some b → slice_get ys k ≡ Some b) → (rest : List ℕ) × (ys ≡ xs ++ rest)
front_of [] ys f = (ys, refl)
front_of (x ∷ xs) [] f = absurd (let wrong : ◌≡◌ {A = Option ℕ} None (Some x) = f zero x refl in cc)
front_of (x ∷ xs) (y ∷ ys) f =
    let r = front_of xs ys (λ k b e. f (suc k) b e) in
    let head : ◌≡◌ {A = Option ℕ} (Some y) (Some x) = f zero x refl in
    let same : y ≡ x = cc in
    let rest : ys ≡ xs ++ r.0 = r.1 in
    (r.0, cc)

abbrev half_packet : List ℕ
half_packet = carrying_crypto Client 0 first_half

pub same_frame : (bytes : List ℕ) (from : ℕ) (payload : List ℕ) → crypto_frame 0 bytes ≡ crypto_frame from payload → (from ≡ 0) × (payload ≡ bytes)
same_frame bytes from payload e =
    let values : Num 0 ∷ Text bytes ∷ [] ≡ Num from ∷ Text payload ∷ [] = ap (λ (z : QuicFrame). z.values) e in
    (let start : from ≡ 0 = cc in start, let same : payload ≡ bytes = cc in same)

half_at : (offset byte : ℕ) → CarriesHello 8 (half_packet ∷ []) Client offset byte → slice_get first_half offset ≡ Some byte
half_at offset byte c =
    elim c.has.of.among [
      | inl e ↦
          let same : c.has.of.packet ≡ packet_of Client 0 first_half
          = only_packet Client 0 first_half c.has.of.packet (omega arith) (omega arith) (subst (λ (z : List ℕ). HasPacket 8 c.has.of.packet z) (sym e) c.has.of.has) in
          elim (subst (λ (z : Packet). In (crypto_frame c.from c.payload) z.frames) same c.has.frame_among) [
            | inl f ↦
                let r = same_frame first_half c.from c.payload f in
                let start = r.0 in
                subst (λ (o : ℕ). slice_get first_half o ≡ Some byte) (let back : offset - c.from ≡ offset = omega (arith, start) in back)
                (subst (λ (z : List ℕ). slice_get z (offset - c.from) ≡ Some byte) r.1 c.byte_is)
            | inr n ↦ absurd n
          ]
      | inr n ↦ absurd n
    ]

pub half_not : IsGreeted 8 (half_packet ∷ []) Client → ⊥
half_not g =
    let w = g.1 in
    let front = front_of w.bytes first_half (λ k b e. half_at k b (w.all k b e)) in
    let whole : w.bytes ++ (front.0 ++ second_half) ≡ limit_hello ++ [] = sym (append_assoc w.bytes front.0 second_half) ∙ ap (λ (z : List ℕ). z ++ second_half) (sym front.1) in
    let none = ap length (hello_agrees w.bytes limit_hello (front.0 ++ second_half) [] g.0 the_hello w.is.0 limit_hello_is.0 whole).1 in
    let both = length-append front.0 second_half in
    omega (arith, none, both)
