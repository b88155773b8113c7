-- What holds of the part of a transcript that concerns application data holds of the whole.
use Rattle.std.proofs.Common.{◌≡◌, ◌⊎◌, inl, inr, ℕ, ◌+◌, ◌<◌, Bool, true, false, List, [], ◌∷◌, ◌++◌, length, get_or, Some, refl, sym, ap, ◌∙◌, subst, arith, append-nil, append_assoc, length-append}
use Rattle.std.specs.Prelude.{◌||◌, slice_get}
use Rattle.qh_spec.specs.Carried.{HasRun}
use Rattle.qh_spec.specs.Datagram.{Packet, HasPacket, IsInitialForm, one_rtt, initial as initially, later}
use Rattle.qh_spec.specs.Lawful.{Lawful}
use Rattle.qh_spec.specs.Link.{other}
use Rattle.qh_spec.specs.Lists.{In}
use Rattle.qh_spec.specs.QuicFrame.{StreamFrame}
use Rattle.qh_spec.specs.Transcript.{Act, HandedIn, HandedOut, in_of, out_of, written_of, finishes, pieces_of, ends, handed_in, handed_out, written, finished, pieces_read, joined, read, ended}
use Rattle.qh_spec.specs.declared.sides.Side.{Side}
use Rattle.qh_spec.specs.declared.sides.Space.TheVariants.{Initial, Data}
use Rattle.qh_spec.proofs.Cuts.{empty_front}
use Rattle.qh_spec.proofs.Members.{in_left, in_right, in_split}
use Rattle.qh_spec.proofs.PacketLaws.{forms_agree, not_initial}
use Rattle.qh_spec.proofs.TranscriptLaws.{handed_in-append, handed_out-append, written-append, finished-append, pieces_read-append, ended-append}
use Rattle.qh_spec.specs.Parted.{EndsWith, here, behind, IsInitialAlone, IsShort, IsPartOf, none, same, rest, unheard, initial, CameFrom, AreShort, IsSplit}

-- ---- what is seen of streams

-- what is seen act by act, and not of datagrams, is seen of the part
pub part_seen : {X : Type 0} (F : List Act → X) (step : X → Act → X) → ((t : List Act) (a : Act) → F (t ++ a ∷ []) ≡ step (F t) a)
    → ((x : X) (d : List ℕ) → step x (HandedIn d) ≡ x) → ((x : X) (d : List ℕ) → step x (HandedOut d) ≡ x) → (u t : List Act) → IsPartOf u t → F u ≡ F t
part_seen F step more given sent u t none = refl
part_seen F step more given sent u t (same part whole a quiet p) =
    more part a ∙ ap (λ (z : _). step z a) (part_seen F step more given sent part whole p) ∙ sym (more whole a)
part_seen F step more given sent u t (rest part whole tail d e s p) =
    more part (HandedIn tail) ∙ given (F part) tail ∙ part_seen F step more given sent part whole p ∙ sym (more whole (HandedIn d) ∙ given (F whole) d)
part_seen F step more given sent u t (unheard part whole d p) =
    part_seen F step more given sent part whole p ∙ sym (more whole (HandedIn d) ∙ given (F whole) d)
part_seen F step more given sent u t (initial part whole d i p) =
    part_seen F step more given sent part whole p ∙ sym (more whole (HandedOut d) ∙ sent (F whole) d)

or-false : (b : Bool) → b || false ≡ b
or-false true = refl
or-false false = refl

pub part_written : (u t : List Act) → IsPartOf u t → (id : ℕ) → written u id ≡ written t id
part_written u t p id =
    part_seen (λ (z : List Act). written z id) (λ (x : List ℕ) (a : Act). x ++ (written_of id a ++ [])) (λ z a. written-append z (a ∷ []) id) (λ x d. append-nil x) (λ x d. append-nil x) u t p

pub part_pieces : (u t : List Act) → IsPartOf u t → (id : ℕ) → pieces_read u id ≡ pieces_read t id
part_pieces u t p id =
    part_seen (λ (z : List Act). pieces_read z id) (λ (x : List (ℕ × List ℕ)) (a : Act). x ++ (pieces_of id a ++ [])) (λ z a. pieces_read-append z (a ∷ []) id) (λ x d. append-nil x) (λ x d. append-nil x) u t p

pub part_finished : (u t : List Act) → IsPartOf u t → (id : ℕ) → finished u id ≡ finished t id
part_finished u t p id =
    part_seen (λ (z : List Act). finished z id) (λ (x : Bool) (a : Act). x || (finishes id a || false)) (λ z a. finished-append z (a ∷ []) id) (λ x d. or-false x) (λ x d. or-false x) u t p

pub part_ended : (u t : List Act) → IsPartOf u t → (id : ℕ) → ended u id ≡ ended t id
part_ended u t p id =
    part_seen (λ (z : List Act). ended z id) (λ (x : Bool) (a : Act). x || (ends id a || false)) (λ z a. ended-append z (a ∷ []) id) (λ x d. or-false x) (λ x d. or-false x) u t p

pub part_read : (u t : List Act) → IsPartOf u t → (id : ℕ) → read u id ≡ read t id
part_read u t p id = ap joined (part_pieces u t p id)

-- ---- datagrams

pub out_more : (d : List ℕ) (t : List Act) (a : Act) (xs : List (List ℕ)) → out_of a ≡ xs → In d (handed_out (t ++ a ∷ [])) → In d (handed_out t) ⊎ In d xs
out_more d t a xs e i =
    elim (in_split d (handed_out t) (out_of a ++ []) (subst (λ (z : List (List ℕ)). In d z) (handed_out-append t (a ∷ [])) i)) [
      | inl h ↦ inl h
      | inr h ↦ inr (subst (λ (z : List (List ℕ)). In d z) (append-nil (out_of a) ∙ e) h)
    ]

out_kept : (d : List ℕ) (t : List Act) (a : Act) → In d (handed_out t) → In d (handed_out (t ++ a ∷ []))
out_kept d t a i = subst (λ (z : List (List ℕ)). In d z) (sym (handed_out-append t (a ∷ []))) (in_left d (handed_out t) (out_of a ++ []) i)

out_last : (d : List ℕ) (t : List Act) (a : Act) → In d (out_of a) → In d (handed_out (t ++ a ∷ []))
out_last d t a i = subst (λ (z : List (List ℕ)). In d z) (sym (handed_out-append t (a ∷ []) ∙ ap (λ (z : List (List ℕ)). handed_out t ++ z) (append-nil (out_of a)))) (in_right d (handed_out t) (out_of a) i)

-- each datagram that was handed out belongs to the part, or is one Initial packet
pub part_out : (u t : List Act) → IsPartOf u t → (d : List ℕ) → In d (handed_out t) → In d (handed_out u) ⊎ IsInitialAlone d
part_out u t none d i = absurd i
part_out u t (same part whole a quiet p) d i =
    elim (out_more d whole a (out_of a) refl i) [
      | inl h ↦ elim (part_out part whole p d h) [ inl x ↦ inl (out_kept d part a x) | inr y ↦ inr y ]
      | inr h ↦ inl (out_last d part a h)
    ]
part_out u t (rest part whole tail g e s p) d i =
    elim (out_more d whole (HandedIn g) [] refl i) [
      | inl h ↦ elim (part_out part whole p d h) [ inl x ↦ inl (out_kept d part (HandedIn tail) x) | inr y ↦ inr y ]
      | inr h ↦ absurd h
    ]
part_out u t (unheard part whole g p) d i =
    elim (out_more d whole (HandedIn g) [] refl i) [ inl h ↦ part_out part whole p d h | inr h ↦ absurd h ]
part_out u t (initial part whole g alone p) d i =
    elim (out_more d whole (HandedOut g) (g ∷ []) refl i) [
      | inl h ↦ part_out part whole p d h
      | inr h ↦ elim h [ inl e ↦ inr (subst (λ (z : List ℕ). IsInitialAlone z) e alone) | inr n ↦ absurd n ]
    ]

-- what was handed in as part of it stands at the end of a datagram that was handed in
pub record IsEnd (t : List Act) (tail : List ℕ) : Type 0 where
  pub datagram : List ℕ
  pub among : In datagram (handed_in t)
  pub ends : EndsWith tail datagram
  pub short : IsShort tail

in_more_of : (x : List ℕ) (t : List Act) (a : Act) (xs : List (List ℕ)) → in_of a ≡ xs → In x (handed_in (t ++ a ∷ [])) → In x (handed_in t) ⊎ In x xs
in_more_of x t a xs e i =
    elim (in_split x (handed_in t) (in_of a ++ []) (subst (λ (z : List (List ℕ)). In x z) (handed_in-append t (a ∷ [])) i)) [
      | inl h ↦ inl h
      | inr h ↦ inr (subst (λ (z : List (List ℕ)). In x z) (append-nil (in_of a) ∙ e) h)
    ]

in_kept : (d : List ℕ) (t : List Act) (a : Act) → In d (handed_in t) → In d (handed_in (t ++ a ∷ []))
in_kept d t a i = subst (λ (z : List (List ℕ)). In d z) (sym (handed_in-append t (a ∷ []))) (in_left d (handed_in t) (in_of a ++ []) i)

end_kept : (t : List Act) (a : Act) (x : List ℕ) → IsEnd t x → IsEnd (t ++ a ∷ []) x
end_kept t a x e = record { datagram = e.datagram; among = in_kept e.datagram t a e.among; ends = e.ends; short = e.short }

pub part_in : (u t : List Act) → IsPartOf u t → (x : List ℕ) → In x (handed_in u) → IsEnd t x
part_in u t none x i = absurd i
part_in u t (same part whole a quiet p) x i =
    elim (in_more_of x part a [] quiet i) [ inl h ↦ end_kept whole a x (part_in part whole p x h) | inr h ↦ absurd h ]
part_in u t (rest part whole tail d e s p) x i =
    elim (in_more_of x part (HandedIn tail) (tail ∷ []) refl i) [
      | inl h ↦ end_kept whole (HandedIn d) x (part_in part whole p x h)
      | inr h ↦ elim h [
        | inl f ↦ record {
          datagram = d;
          among = subst (λ (z : List (List ℕ)). In d z) (sym (handed_in-append whole (HandedIn d ∷ []))) (in_right d (handed_in whole) (d ∷ []) (inl refl));
          ends = subst (λ (z : List ℕ). EndsWith z d) f e;
          short = subst (λ (z : List ℕ). IsShort z) f s;
        }
        | inr n ↦ absurd n
      ]
    ]
part_in u t (unheard part whole d p) x i = end_kept whole (HandedIn d) x (part_in part whole p x i)
part_in u t (initial part whole d alone p) x i = end_kept whole (HandedOut d) x (part_in part whole p x i)

-- ---- packets

form_has_a_byte : (first : ℕ) (body : List ℕ) → IsInitialForm [] first body → ⊥
form_has_a_byte first body i = let w = i.whole in cc

pub no_packet_here : (k : ℕ) (p : Packet) (bytes : List ℕ) → bytes ≡ [] → HasPacket k p bytes → ⊥
no_packet_here k p bytes nothing (one_rtt b h) = let w = h.whole in cc
no_packet_here k p bytes nothing (initially front more b e i) =
    form_has_a_byte (191 + length i.number_bytes) (i.number_bytes ++ (i.frame_bytes ++ i.tag)) (subst (λ (z : List ℕ). IsInitialForm z (191 + length i.number_bytes) (i.number_bytes ++ (i.frame_bytes ++ i.tag))) (empty_front front more (sym nothing ∙ e)) i.form)
no_packet_here k p bytes nothing (later front more b first body e i h) =
    form_has_a_byte first body (subst (λ (z : List ℕ). IsInitialForm z first body) (empty_front front more (sym nothing ∙ e)) i)

-- behind one Initial packet, which is all, nothing stands
nothing_behind : (d front more : List ℕ) (m n : ℕ) (x y : List ℕ) → IsInitialForm d m x → IsInitialForm front n y → d ≡ front ++ more → more ≡ []
nothing_behind d front more m n x y i j e = sym (forms_agree d [] front more m n x y i j (append-nil d ∙ e)).2

-- one Initial packet has no packet of application data
pub alone_has_none : (k : ℕ) (p : Packet) (d : List ℕ) → IsInitialAlone d → HasPacket k p d → p.space ≡ Data → ⊥
alone_has_none k p d a (one_rtt b h) space =
    let first : get_or d 0 0 ≡ a.first = ap (λ (z : List ℕ). get_or z 0 0) a.is.whole in
    let mine : get_or d 0 0 ≡ 63 + length h.short.number = ap (λ (z : List ℕ). get_or z 0 0) h.whole in
    let long = a.is.long_header in
    let few = h.fits.short_number in
    absurd (omega (arith, first, mine, long, few))
alone_has_none k p d a (initially front more b e i) space = let it : p.space ≡ Initial = i.content.space_is in cc
alone_has_none k p d a (later front more b first body e i h) space =
    no_packet_here k p more (nothing_behind d front more a.first first a.body body a.is i e) h

-- a packet of a rest is one of the datagram's
pub ends_has : (k : ℕ) (p : Packet) (x d : List ℕ) → EndsWith x d → HasPacket k p x → HasPacket k p d
ends_has k p x d (here b e) h = subst (λ (z : List ℕ). HasPacket k p z) (sym e) h
ends_has k p x d (behind front more b first body e i w) h = later front more d first body e i (ends_has k p x more w h)

run_out : (k : ℕ) (u t : List Act) → IsPartOf u t → (s : Side) (r : StreamFrame) → HasRun k (handed_out t) s r → HasRun k (handed_out u) s r
run_out k u t p s r q =
    elim (part_out u t p q.datagram q.among) [
      | inl h ↦ record { datagram = q.datagram; among = h; packet = q.packet; has = q.has; space_is = q.space_is; sender_is = q.sender_is; frame = q.frame; frame_among = q.frame_among; is = q.is }
      | inr a ↦ absurd (alone_has_none k q.packet q.datagram a q.has q.space_is)
    ]

run_in : (k : ℕ) (u t : List Act) → IsPartOf u t → (s : Side) (r : StreamFrame) → HasRun k (handed_in u) s r → HasRun k (handed_in t) s r
run_in k u t p s r q =
    let e = part_in u t p q.datagram q.among in
    record { datagram = e.datagram; among = e.among; packet = q.packet; has = ends_has k q.packet q.datagram e.datagram e.ends q.has; space_is = q.space_is; sender_is = q.sender_is; frame = q.frame; frame_among = q.frame_among; is = q.is }

-- the laws of an end that its part keeps it keeps
pub part_lawful : (side : Side) (m n : ℕ) (u t : List Act) → IsPartOf u t → Lawful side m n u → Lawful side m n t
part_lawful side m n u t p law = record {
  sent_byte = λ stream offset byte c. subst (λ (z : List ℕ). slice_get z offset ≡ Some byte) (part_written u t p stream)
      (law.sent_byte stream offset byte (record { run = c.run; has = run_out n u t p side c.run c.has; stream_is = c.stream_is; from = c.from; byte_is = c.byte_is }));
  sent_end = λ stream end c.
      let r = law.sent_end stream end (record { run = c.run; has = run_out n u t p side c.run c.has; stream_is = c.stream_is; fin = c.fin; end_is = c.end_is }) in
      (sym (part_finished u t p stream) ∙ r.0, r.1 ∙ ap length (part_written u t p stream));
  read_byte = λ stream at bytes k byte i e.
      let c = law.read_byte stream at bytes k byte (subst (λ (z : List (ℕ × List ℕ)). In (at, bytes) z) (sym (part_pieces u t p stream)) i) e in
      record { run = c.run; has = run_in m u t p (other side) c.run c.has; stream_is = c.stream_is; from = c.from; byte_is = c.byte_is };
  read_end = λ stream e.
      let c = law.read_end stream (part_ended u t p stream ∙ e) in
      record { run = c.run; has = run_in m u t p (other side) c.run c.has; stream_is = c.stream_is; fin = c.fin; end_is = sym (ap length (part_read u t p stream)) ∙ c.end_is };
}

-- ---- two ends

no_end_of_none : (x d : List ℕ) → d ≡ [] → 0 < length x → EndsWith x d → ⊥
no_end_of_none x d nothing some (here b e) = let l : length x ≡ 0 = ap length (sym e ∙ nothing) in absurd (omega (arith, l, some))
no_end_of_none x d nothing some (behind front more b first body e i w) =
    form_has_a_byte first body (subst (λ (z : List ℕ). IsInitialForm z first body) (empty_front front more (sym nothing ∙ e)) i)

alone_has_no_end : (x d : List ℕ) → IsInitialAlone d → IsShort x → EndsWith x d → ⊥
alone_has_no_end x d a s (here b e) =
    let first : get_or d 0 0 ≡ a.first = ap (λ (z : List ℕ). get_or z 0 0) a.is.whole in
    let mine : get_or d 0 0 ≡ get_or x 0 0 = ap (λ (z : List ℕ). get_or z 0 0) e in
    let long = a.is.long_header in
    let low = s.1 in
    absurd (omega (arith, first, mine, long, low))
alone_has_no_end x d a s (behind front more b first body e i w) = no_end_of_none x more (nothing_behind d front more a.first first a.body body a.is i e) s.0 w

short_end_is_all : (x d : List ℕ) → IsShort d → EndsWith x d → d ≡ x
short_end_is_all x d s (here b e) = e
short_end_is_all x d s (behind front more b first body e i w) = absurd (not_initial d front more first body e i s.1)

-- where what came to an end was handed out by its peer, and the peer's part begins with short headers, so it is of the parts
pub part_linked : (uc tc up tp : List Act) → IsPartOf uc tc → IsPartOf up tp → AreShort up → CameFrom tc tp → CameFrom uc up
part_linked uc tc up tp pc pp short came x i =
    let e = part_in uc tc pc x i in
    elim (part_out up tp pp e.datagram (came e.datagram e.among)) [
      | inl h ↦ subst (λ (z : List ℕ). In z (handed_out up)) (short_end_is_all x e.datagram (short e.datagram h) e.ends) h
      | inr a ↦ absurd (alone_has_no_end x e.datagram a e.short e.ends)
    ]

-- ---- what was handed out, at its moment

first_or : {X : Type 0} → X → List X → X
first_or x [] = x
first_or x (y ∷ ys) = y

-- a list with one more at its end, cut somewhere
pub last_or_before : {X : Type 0} (t before after : List X) (x y : X) → t ++ x ∷ [] ≡ before ++ y ∷ after → ((t ≡ before) × (x ≡ y)) ⊎ ((more : List X) × (t ≡ before ++ y ∷ more))
unfolding first_or
last_or_before [] [] after x y e = inl (refl, ap (λ (z : List _). first_or x z) e)
last_or_before [] (b ∷ before) after x y e = let l : 1 ≡ length (b ∷ (before ++ y ∷ after)) = ap length e in let m = length-append before (y ∷ after) in absurd (omega (arith, l, m))
last_or_before (a ∷ t) [] after x y e = let first : a ≡ y = cc in inr (t, ap (λ (z : _). z ∷ t) first)
last_or_before (a ∷ t) (b ∷ before) after x y e =
    let first : a ≡ b = cc in
    let rest : t ++ x ∷ [] ≡ before ++ y ∷ after = cc in
    elim (last_or_before t before after x y rest) [
      | inl h ↦ inl (let h0 : t ≡ before = h.0 in cc, h.1)
      | inr h ↦ inr (h.0, let h1 : t ≡ before ++ y ∷ h.0 = h.1 in cc)
    ]

split_on : (part before : List Act) (d : List ℕ) (a : Act) → IsSplit part before d → IsSplit (part ++ a ∷ []) before d
split_on part before d a s = record {
  front = s.front;
  back = s.back ++ a ∷ [];
  is = ap (λ (z : List Act). z ++ a ∷ []) s.is ∙ append_assoc s.front (HandedOut d ∷ s.back) (a ∷ []);
  so_far = s.so_far;
}

same_datagram : (d e : List ℕ) → HandedOut d ≡ HandedOut e → d ≡ e
same_datagram d e f = cc

not_out : (d e : List ℕ) → HandedIn d ≡ HandedOut e → ⊥
not_out d e f = cc

-- a datagram that was handed out is one Initial packet, or was handed out by the part at that moment
pub part_split : (u t before after : List Act) (d : List ℕ) → IsPartOf u t → t ≡ before ++ HandedOut d ∷ after → IsInitialAlone d ⊎ IsSplit u before d
part_split u t [] after d none e = let l : 0 ≡ length (HandedOut d ∷ after) = ap length e in absurd (omega (arith, l))
part_split u t (b ∷ before) after d none e = let l : 0 ≡ length (b ∷ (before ++ HandedOut d ∷ after)) = ap length e in absurd (omega (arith, l))
part_split u t before after d (same part whole a quiet p) e =
    elim (last_or_before whole before after a (HandedOut d) e) [
      | inl h ↦ inr (record {
        front = part;
        back = [];
        is = ap (λ (z : Act). part ++ z ∷ []) h.1;
        so_far = subst (λ (z : List Act). IsPartOf part z) h.0 p;
      })
      | inr h ↦ elim (part_split part whole before h.0 d p h.1) [ inl x ↦ inl x | inr y ↦ inr (split_on part before d a y) ]
    ]
part_split u t before after d (rest part whole tail g w s p) e =
    elim (last_or_before whole before after (HandedIn g) (HandedOut d) e) [
      | inl h ↦ absurd (not_out g d h.1)
      | inr h ↦ elim (part_split part whole before h.0 d p h.1) [ inl x ↦ inl x | inr y ↦ inr (split_on part before d (HandedIn tail) y) ]
    ]
part_split u t before after d (unheard part whole g p) e =
    elim (last_or_before whole before after (HandedIn g) (HandedOut d) e) [
      | inl h ↦ absurd (not_out g d h.1)
      | inr h ↦ part_split part whole before h.0 d p h.1
    ]
part_split u t before after d (initial part whole g alone p) e =
    elim (last_or_before whole before after (HandedOut g) (HandedOut d) e) [
      | inl h ↦ inl (subst (λ (z : List ℕ). IsInitialAlone z) (same_datagram g d h.1) alone)
      | inr h ↦ part_split part whole before h.0 d p h.1
    ]

-- the end of a datagram that was handed out, which begins with a short header, was handed out by the part
pub end_of_part : (u t : List Act) (x d : List ℕ) → IsPartOf u t → AreShort u → In d (handed_out t) → EndsWith x d → IsShort x → In x (handed_out u)
end_of_part u t x d p short among ends s =
    elim (part_out u t p d among) [
      | inl h ↦ subst (λ (z : List ℕ). In z (handed_out u)) (short_end_is_all x d (short d h) ends) h
      | inr a ↦ absurd (alone_has_no_end x d a s ends)
    ]
