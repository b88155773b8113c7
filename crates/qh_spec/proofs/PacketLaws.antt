-- The bytes of a packet have one reading, and a datagram that begins with a short header has one packet.
use Rattle.std.proofs.Common.{◌≡◌, ℕ, ◌+◌, ◌-◌, ◌<◌, List, [], ◌∷◌, ◌++◌, length, get_or, take, drop, refl, sym, ap, ◌∙◌, arith, subst, length-append, append_assoc}
use Rattle.std.specs.Prelude.{replicate}
use Rattle.std.specs.Int.{w64, to_be_bytes, from_be_bytes}
use Rattle.std.proofs.lemmas.List.{length-take, length-replicate}
use Rattle.std.proofs.lemmas.Nat.{from_be_bytes-to_be_bytes_8}
use Rattle.qh_spec.specs.declared.sides.Side.{Side}
use Rattle.qh_spec.specs.declared.sides.Side.TheVariants.{Client, Server}
use Rattle.qh_spec.specs.QuicFrames.{QuicFrame, AreQuicFrames}
use Rattle.qh_spec.specs.declared.sides.Space.{Space}
use Rattle.qh_spec.specs.declared.sides.Space.TheVariants.{Initial, Data}
use Rattle.qh_spec.specs.StreamId.{side_bit}
use Rattle.qh_spec.specs.Tag.{space_byte, padded, IsTag}
use Rattle.qh_spec.specs.Datagram.{Packet, IsPacketContent, IsInitialForm, IsInitialPacket, IsOneRttPacket, HasPacket, one_rtt, initial, later}
use Rattle.qh_spec.proofs.Cuts.{halves, inner, varints_agree}
use Rattle.qh_spec.proofs.FrameLaws.{quic_frames_agree}

padded_length : (n : ℕ) (bytes : List ℕ) → length (padded n bytes) ≡ n
padded_length n bytes = omega (arith, length-append (take n bytes) (replicate (n - length bytes) 0), length-take n bytes, length-replicate {A = ℕ} (n - length bytes) 0)

pub tag_length : (bytes : List ℕ) (s : Side) (space : Space) (n : ℕ) → IsTag bytes s space n → length bytes ≡ 32
tag_length bytes s space n p =
    let front = padded_length 16 p.key_id in
    let back = padded_length 4 (drop 16 p.key_id) in
    let mid : List ℕ = padded 4 (drop 16 p.key_id) ++ space_byte space ∷ [] in
    let a = length-append (padded 4 (drop 16 p.key_id)) (space_byte space ∷ []) in
    let b = length-append (to_be_bytes w64 n) (length p.key_id ∷ mid) in
    let c = length-append (padded 16 p.key_id) (165 ∷ side_bit s ∷ (to_be_bytes w64 n ++ (length p.key_id ∷ mid))) in
    let e = ap length p.is in
    omega (arith, front, back, a, b, c, e)

side_one : (s t : Side) → side_bit s ≡ side_bit t → s ≡ t
side_one Client Client e = refl
side_one Server Server e = refl
side_one Client Server e = absurd (omega arith)
side_one Server Client e = absurd (omega arith)

pub record SameTag (s t : Side) (m n : ℕ) : Type 0 where
  pub sender : s ≡ t
  pub number : m ≡ n

pub tags_agree : (a b : List ℕ) (s t : Side) (m n : ℕ) (space : Space) → IsTag a s space m → IsTag b t space n → a ≡ b → SameTag s t m n
tags_agree a b s t m n space p q e =
    let after_p : List ℕ = length p.key_id ∷ (padded 4 (drop 16 p.key_id) ++ space_byte space ∷ []) in
    let after_q : List ℕ = length q.key_id ∷ (padded 4 (drop 16 q.key_id) ++ space_byte space ∷ []) in
    let tail_p : List ℕ = 165 ∷ side_bit s ∷ (to_be_bytes w64 m ++ after_p) in
    let tail_q : List ℕ = 165 ∷ side_bit t ∷ (to_be_bytes w64 n ++ after_q) in
    let cut = halves (padded 16 p.key_id) tail_p (padded 16 q.key_id) tail_q (padded_length 16 p.key_id ∙ sym (padded_length 16 q.key_id)) (sym p.is ∙ e ∙ q.is) in
    let tails : tail_p ≡ tail_q = cut.1 in
    let sides : side_bit s ≡ side_bit t = ap (λ (z : List ℕ). get_or z 1 0) tails in
    let rest : to_be_bytes w64 m ++ after_p ≡ to_be_bytes w64 n ++ after_q = ap (λ (z : List ℕ). drop 2 z) tails in
    let numbers = halves (to_be_bytes w64 m) after_p (to_be_bytes w64 n) after_q refl rest in
    record {
      sender = side_one s t sides;
      number = sym (from_be_bytes-to_be_bytes_8 m (omega (arith, p.bound))) ∙ ap (from_be_bytes w64) numbers.0 ∙ from_be_bytes-to_be_bytes_8 n (omega (arith, q.bound));
    }

contents_agree : (space : Space) (na fa ta nb fb tb : List ℕ) (p q : Packet) → IsPacketContent space na fa ta p → IsPacketContent space nb fb tb q → length na ≡ length nb → na ++ (fa ++ ta) ≡ nb ++ (fb ++ tb) → p ≡ q
contents_agree space na fa ta nb fb tb p q c d len e =
    let cut = halves na (fa ++ ta) nb (fb ++ tb) len e in
    let all = ap length cut.1 in
    let la = tag_length ta p.sender space p.number c.tagged in
    let lb = tag_length tb q.sender space q.number d.tagged in
    let lens : length fa ≡ length fb = omega (arith, all, la, lb, length-append fa ta, length-append fb tb) in
    let parts = halves fa ta fb tb lens cut.1 in
    let frames : p.frames ≡ q.frames = quic_frames_agree fb p.frames q.frames (subst (λ (z : List ℕ). AreQuicFrames z p.frames) parts.0 c.frames) d.frames in
    let tag = tags_agree ta tb p.sender q.sender p.number q.number space c.tagged d.tagged parts.1 in
    let sender = tag.sender in
    let number = tag.number in
    let spaces : p.space ≡ q.space = c.space_is ∙ sym d.space_is in
    let whole : ◌≡◌ {A = Space × Side × ℕ × List QuicFrame} (p.space, p.sender, p.number, p.frames) (q.space, q.sender, q.number, q.frames) = cc in
    ap (λ (z : Space × Side × ℕ × List QuicFrame). record { space = z.0; sender = z.1; number = z.2; frames = z.3 }) whole

pub one_rtt_agree : (id_length : ℕ) (bytes : List ℕ) (p q : Packet) → IsOneRttPacket id_length bytes p → IsOneRttPacket id_length bytes q → p ≡ q
one_rtt_agree id_length bytes p q a b =
    let ra : List ℕ = a.short.number ++ (a.short.frames ++ a.short.tag) in
    let rb : List ℕ = b.short.number ++ (b.short.frames ++ b.short.tag) in
    let both : (63 + length a.short.number) ∷ (a.short.destination ++ ra) ≡ (63 + length b.short.number) ∷ (b.short.destination ++ rb) = sym a.whole ∙ b.whole in
    let first : 63 + length a.short.number ≡ 63 + length b.short.number = cc in
    let rest : a.short.destination ++ ra ≡ b.short.destination ++ rb = cc in
    let cut = halves a.short.destination ra b.short.destination rb (a.fits.destination ∙ sym b.fits.destination) rest in
    contents_agree Data a.short.number a.short.frames a.short.tag b.short.number b.short.frames b.short.tag p q a.content b.content (omega arith) cut.1

-- no Initial packet by its lengths begins another
pub forms_agree : (a x b y : List ℕ) (m n : ℕ) (c d : List ℕ) → IsInitialForm a m c → IsInitialForm b n d → a ++ x ≡ b ++ y → (m ≡ n) × (c ≡ d) × (x ≡ y)
forms_agree a x b y m n c d i j e =
    let ti : List ℕ = i.token ++ (i.body_length ++ c) in
    let tj : List ℕ = j.token ++ (j.body_length ++ d) in
    let si : List ℕ = i.source ++ (i.token_length ++ ti) in
    let sj : List ℕ = j.source ++ (j.token_length ++ tj) in
    let di : List ℕ = i.destination ++ (length i.source ∷ si) in
    let dj : List ℕ = j.destination ++ (length j.source ∷ sj) in
    let both : m ∷ 0 ∷ 0 ∷ 0 ∷ 1 ∷ length i.destination ∷ (di ++ x) ≡ n ∷ 0 ∷ 0 ∷ 0 ∷ 1 ∷ length j.destination ∷ (dj ++ y)
    = ap (λ (z : List ℕ). z ++ x) (sym i.whole) ∙ e ∙ ap (λ (z : List ℕ). z ++ y) j.whole in
    let first : m ≡ n = ap (λ (z : List ℕ). get_or z 0 0) both in
    let dlen : length i.destination ≡ length j.destination = ap (λ (z : List ℕ). get_or z 5 0) both in
    let drest : di ++ x ≡ dj ++ y = ap (λ (z : List ℕ). drop 6 z) both in
    let dcut = halves i.destination ((length i.source ∷ si) ++ x) j.destination ((length j.source ∷ sj) ++ y) dlen (inner i.destination (length i.source ∷ si) x j.destination (length j.source ∷ sj) y drest) in
    let slen : length i.source ≡ length j.source = ap (λ (z : List ℕ). get_or z 0 0) dcut.1 in
    let srest : si ++ x ≡ sj ++ y = ap (λ (z : List ℕ). drop 1 z) dcut.1 in
    let scut = halves i.source ((i.token_length ++ ti) ++ x) j.source ((j.token_length ++ tj) ++ y) slen (inner i.source (i.token_length ++ ti) x j.source (j.token_length ++ tj) y srest) in
    let tcount = varints_agree i.token_length (ti ++ x) j.token_length (tj ++ y) (length i.token) (length j.token) i.token_is j.token_is (inner i.token_length ti x j.token_length tj y scut.1) in
    let tcut = halves i.token ((i.body_length ++ c) ++ x) j.token ((j.body_length ++ d) ++ y) tcount.0 (inner i.token (i.body_length ++ c) x j.token (j.body_length ++ d) y tcount.1) in
    let bcount = varints_agree i.body_length (c ++ x) j.body_length (d ++ y) (length c) (length d) i.body_is j.body_is (inner i.body_length c x j.body_length d y tcut.1) in
    let bcut = halves c x d y bcount.0 bcount.1 in
    (first, bcut.0, bcut.1)

-- no Initial packet begins another
pub initials_agree : (a x b y : List ℕ) (p q : Packet) → IsInitialPacket a p → IsInitialPacket b q → a ++ x ≡ b ++ y → (p ≡ q) × (x ≡ y)
initials_agree a x b y p q i j e =
    let r = forms_agree a x b y (191 + length i.number_bytes) (191 + length j.number_bytes) (i.number_bytes ++ (i.frame_bytes ++ i.tag)) (j.number_bytes ++ (j.frame_bytes ++ j.tag)) i.form j.form e in
    let first = r.0 in
    (contents_agree Initial i.number_bytes i.frame_bytes i.tag j.number_bytes j.frame_bytes j.tag p q i.content j.content (omega (arith, first)) r.1, r.2)

pub not_initial : (bytes front rest : List ℕ) (m : ℕ) (c : List ℕ) → bytes ≡ front ++ rest → IsInitialForm front m c → get_or bytes 0 0 < 128 → ⊥
not_initial bytes front rest m c e i low =
    let first : get_or bytes 0 0 ≡ m = ap (λ (z : List ℕ). get_or z 0 0) (e ∙ ap (λ (z : List ℕ). z ++ rest) i.whole) in
    let long = i.long_header in
    omega (arith, first, low, long)

pub no_initial_packet : (bytes front rest : List ℕ) (p : Packet) → bytes ≡ front ++ rest → IsInitialPacket front p → get_or bytes 0 0 < 128 → ⊥
no_initial_packet bytes front rest p e i low = not_initial bytes front rest (191 + length i.number_bytes) (i.number_bytes ++ (i.frame_bytes ++ i.tag)) e i.form low

-- a datagram that begins with a short header has one packet at most
pub one_packet : (id_length : ℕ) (p q : Packet) (bytes : List ℕ) → get_or bytes 0 0 < 128 → HasPacket id_length p bytes → HasPacket id_length q bytes → p ≡ q
one_packet id_length p q bytes low (one_rtt b h) (one_rtt c k) = one_rtt_agree id_length bytes p q h k
one_packet id_length p q bytes low (initial front rest b e i) k = absurd (no_initial_packet bytes front rest p e i low)
one_packet id_length p q bytes low (later front rest b m c e i h) k = absurd (not_initial bytes front rest m c e i low)
one_packet id_length p q bytes low (one_rtt b h) (initial front rest c e i) = absurd (no_initial_packet bytes front rest q e i low)
one_packet id_length p q bytes low (one_rtt b h) (later front rest c m d e i k) = absurd (not_initial bytes front rest m d e i low)

space_one : (x y : Space) → space_byte x ≡ space_byte y → x ≡ y
space_one Initial Initial e = refl
space_one Data Data e = refl
space_one Initial Data e = absurd (omega arith)
space_one Data Initial e = absurd (omega arith)

-- the bytes of a tag but its last, which tells the space
abbrev tag_front : List ℕ → Side → ℕ → List ℕ
tag_front key_id s n = padded 16 key_id ++ (165 ∷ side_bit s ∷ (to_be_bytes w64 n ++ (length key_id ∷ padded 4 (drop 16 key_id))))

tag_front_length : (key_id : List ℕ) (s : Side) (n : ℕ) → length (tag_front key_id s n) ≡ 31
tag_front_length key_id s n =
    let a = length-append (padded 16 key_id) (165 ∷ side_bit s ∷ (to_be_bytes w64 n ++ (length key_id ∷ padded 4 (drop 16 key_id)))) in
    let b = length-append (to_be_bytes w64 n) (length key_id ∷ padded 4 (drop 16 key_id)) in
    omega (arith, padded_length 16 key_id, padded_length 4 (drop 16 key_id), a, b)

tag_split : (bytes : List ℕ) (s : Side) (x : Space) (n : ℕ) (p : IsTag bytes s x n) → bytes ≡ tag_front p.key_id s n ++ space_byte x ∷ []
tag_split bytes s x n p =
    p.is ∙ sym (append_assoc (padded 16 p.key_id) (165 ∷ side_bit s ∷ (to_be_bytes w64 n ++ (length p.key_id ∷ padded 4 (drop 16 p.key_id)))) (space_byte x ∷ []))

-- a tag tells the sender, the space and the number
pub tag_is_one : (bytes : List ℕ) (s t : Side) (x y : Space) (m n : ℕ) → IsTag bytes s x m → IsTag bytes t y n → (s ≡ t) × (x ≡ y) × (m ≡ n)
tag_is_one bytes s t x y m n p q =
    let cut = halves (tag_front p.key_id s m) (space_byte x ∷ []) (tag_front q.key_id t n) (space_byte y ∷ []) (tag_front_length p.key_id s m ∙ sym (tag_front_length q.key_id t n))
    (sym (tag_split bytes s x m p) ∙ tag_split bytes t y n q) in
    let space : x ≡ y = space_one x y (ap (λ (z : List ℕ). get_or z 0 0) cut.1) in
    let q' : IsTag bytes t x n = subst (λ (z : Space). IsTag bytes t z n) (sym space) q in
    let same = tags_agree bytes bytes s t m n x p q' refl in
    (same.sender, space, same.number)
