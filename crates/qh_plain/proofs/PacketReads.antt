-- Steps of reading the packets of a datagram.
use Rattle.std.proofs.Common.{◌≡◌, ◌⊎◌, inl, inr, ℕ, ◌+◌, ◌<◌, List, [], ◌++◌, length, get_or, Option, Some, None, IfSome, refl, sym, ap, ◌∙◌, arith, subst}
use Rattle.std.specs.Option.{IfNone}
use Rattle.qh_spec.specs.declared.sides.Space.TheVariants.{Initial}
use Rattle.qh_spec.specs.Datagram.{Packet, IsInitialForm, IsOneRttPacket, HasPacket, one_rtt, initial, later}
use Rattle.qh_spec.specs.Lists.{In}
use Rattle.qh_spec.proofs.Members.{in_split, in_left, in_right}
use Rattle.qh_spec.proofs.PacketLaws.{forms_agree, initials_agree, one_rtt_agree, not_initial}
use Rattle.qh_plain.specs.Packets.{HasBody, listed}
use Rattle.qh_plain.proofs.BodyReads.{initial_from, initial_body}

-- these packets were read from the front of the datagram, and the rest is left
pub record PacketsRead (id_length : ℕ) (datagram rest : List ℕ) (ps : List Packet) : Type 0 where
  pub into : (p : Packet) → In p ps → HasPacket id_length p datagram
  pub lift : (p : Packet) → HasPacket id_length p rest → HasPacket id_length p datagram
  pub back : (p : Packet) → HasPacket id_length p datagram → In p ps ⊎ HasPacket id_length p rest

low_first : (id_length : ℕ) (bytes : List ℕ) (p : Packet) → IsOneRttPacket id_length bytes p → get_or bytes 0 0 < 128
low_first id_length bytes p h =
    let fits = h.fits in
    let short = fits.short_number in
    let first : get_or bytes 0 0 ≡ 63 + length h.short.number = ap (λ (z : List ℕ). get_or z 0 0) h.whole in
    omega arith

-- a packet of bytes that begin with an Initial packet's form stands in it or behind it
behind_form : (id_length : ℕ) (p : Packet) (bytes front rest body : List ℕ) (first : ℕ) → bytes ≡ front ++ rest → IsInitialForm front first body → HasPacket id_length p bytes
    → HasBody Initial first body p ⊎ HasPacket id_length p rest
behind_form id_length p bytes front rest body first e i (one_rtt b h) = absurd (not_initial bytes front rest first body e i (low_first id_length bytes p h))
behind_form id_length p bytes front rest body first e i (initial front' rest' b e' j) =
    let same = forms_agree front' rest' front rest (191 + length j.number_bytes) first (j.number_bytes ++ (j.frame_bytes ++ j.tag)) body j.form i (sym e' ∙ e) in
    inl (initial_body front' body first p j same.0 same.1)
behind_form id_length p bytes front rest body first e i (later front' rest' b first' body' e' j h) =
    let same = forms_agree front' rest' front rest first' first body' body j i (sym e' ∙ e) in
    inr (subst (λ (z : List ℕ). HasPacket id_length p z) same.2 h)

in_listed : (p : Packet) (r : Option Packet) (P : Packet → Type 0) → IfSome r P → In p (listed r) → P p
in_listed p None P h i = absurd i
in_listed p (Some q) P h (inl e) = subst P e h
in_listed p (Some q) P h (inr i) = absurd i

same_body : (front body : List ℕ) (first : ℕ) (p q : Packet) → IsInitialForm front first body → HasBody Initial first body p → HasBody Initial first body q → p ≡ q
same_body front body first p q i a b = (initials_agree front [] front [] p q (initial_from front body first p i a) (initial_from front body first q i b) refl).0

body_listed : (front body : List ℕ) (first : ℕ) (p : Packet) (r : Option Packet) → IsInitialForm front first body → IfSome r (λ q. HasBody Initial first body q)
    → IfNone r ((q : Packet) → HasBody Initial first body q → ⊥) → HasBody Initial first body p → In p (listed r)
body_listed front body first p None i some none h = absurd (none p h)
body_listed front body first p (Some q) i some none h = inl (same_body front body first q p i some h)

pub one_form_more : (k : ℕ) (datagram rest front after body : List ℕ) (first : ℕ) (ps : List Packet) (r : Option Packet) → rest ≡ front ++ after → IsInitialForm front first body
    → IfSome r (λ q. HasBody Initial first body q) → IfNone r ((q : Packet) → HasBody Initial first body q → ⊥) → PacketsRead k datagram rest ps → PacketsRead k datagram after (ps ++ listed r)
one_form_more k datagram rest front after body first ps r e i some none z = record {
  into = λ p m. elim (in_split p ps (listed r) m) [
    | inl a ↦ z.into p a
    | inr b ↦ z.lift p (initial front after rest e (initial_from front body first p i (in_listed p r (λ q. HasBody Initial first body q) some b)))
  ];
  lift = λ p h. z.lift p (later front after rest first body e i h);
  back = λ p h. elim (z.back p h) [
    | inl a ↦ inl (in_left p ps (listed r) a)
    | inr b ↦ elim (behind_form k p rest front after body first e i b) [
      | inl h ↦ inl (in_right p ps (listed r) (body_listed front body first p r i some none h))
      | inr more ↦ inr more
    ]
  ];
}

-- behind the last Initial packet there is at most a 1-RTT packet
only_one_rtt : (k : ℕ) (p : Packet) (rest : List ℕ) → ((front after body : List ℕ) (first : ℕ) → rest ≡ front ++ after → IsInitialForm front first body → ⊥) → HasPacket k p rest → IsOneRttPacket k rest p
only_one_rtt k p rest none (one_rtt b h) = h
only_one_rtt k p rest none (initial front after b e i) = absurd (none front after (i.number_bytes ++ (i.frame_bytes ++ i.tag)) (191 + length i.number_bytes) e i.form)
only_one_rtt k p rest none (later front after b first body e i h) = absurd (none front after body first e i)

last_listed : (k : ℕ) (rest : List ℕ) (p : Packet) (r : Option Packet) → IfSome r (λ q. IsOneRttPacket k rest q) → IfNone r ((q : Packet) → IsOneRttPacket k rest q → ⊥) → IsOneRttPacket k rest p → In p (listed r)
last_listed k rest p None some none h = absurd (none p h)
last_listed k rest p (Some q) some none h = inl (one_rtt_agree k rest q p some h)

pub all_found : (k : ℕ) (datagram rest : List ℕ) (ps : List Packet) (r : Option Packet) → IfSome r (λ q. IsOneRttPacket k rest q) → PacketsRead k datagram rest ps
    → (p : Packet) → In p (ps ++ listed r) → HasPacket k p datagram
all_found k datagram rest ps r some z p m =
    elim (in_split p ps (listed r) m) [ inl a ↦ z.into p a | inr b ↦ z.lift p (one_rtt rest (in_listed p r (λ q. IsOneRttPacket k rest q) some b)) ]

pub all_there : (k : ℕ) (datagram rest : List ℕ) (ps : List Packet) (r : Option Packet) → ((front after body : List ℕ) (first : ℕ) → rest ≡ front ++ after → IsInitialForm front first body → ⊥)
    → IfSome r (λ q. IsOneRttPacket k rest q) → IfNone r ((q : Packet) → IsOneRttPacket k rest q → ⊥) → PacketsRead k datagram rest ps → (p : Packet) → HasPacket k p datagram → In p (ps ++ listed r)
all_there k datagram rest ps r no_form some none z p h =
    elim (z.back p h) [
      | inl a ↦ in_left p ps (listed r) a
      | inr b ↦ in_right p ps (listed r) (last_listed k rest p r some none (only_one_rtt k p rest no_form b))
    ]
