-- What an honest end hands out: one Initial packet, or a 1-RTT packet with its tag.
use Rattle.std.proofs.Common.{◌≡◌, ◌⊎◌, ℕ, ◌+◌, true, List, [], ◌∷◌, ◌++◌, length, Option, None, Some, is_some, refl, sym, ap, ◌∙◌, subst, inl, inr, append-nil}
use Rattle.qh_arrival.specs.Accord.{Accords, AreTags}
use Rattle.qh_conduct.specs.Restarting.{IsSealed}
use Rattle.qh_conn.specs.declared.connection.Connection.{Connection}
use Rattle.qh_converse.proofs.HandshakeDatagrams.{honest_alone}
use Rattle.qh_converse.proofs.ShakeLaws.{shake_out}
use Rattle.qh_core.specs.Made.{AcceptsTags, MakesTagsOf}
use Rattle.qh_hello.specs.declared.transport_parameters.TransportParameters.{TransportParameters}
use Rattle.qh_packet.specs.Packet.{header_bytes}
use Rattle.qh_packet.specs.Session.{MakesTags, SealsTag}
use Rattle.qh_peers.proofs.TagEnds.{EndsIn, ends_all, ends_more}
use Rattle.qh_peers.specs.Ends.{IsHonestEnd}
use Rattle.qh_spec.proofs.PacketLaws.{forms_agree}
use Rattle.qh_spec.proofs.PartLaws.{end_of_part, no_packet_here}
use Rattle.qh_spec.specs.Datagram.{HasPacket, IsInitialForm, Packet, one_rtt, initial, later}
use Rattle.qh_spec.specs.Lists.{In}
use Rattle.qh_spec.specs.Parted.{IsInitialAlone, IsShort}
use Rattle.qh_spec.specs.Parted.EndsWith.{here}
use Rattle.qh_spec.specs.Tag.{IsTag}
use Rattle.qh_spec.specs.Transcript.{Act, HandedIn, HandedOut, Wrote, Finished, Reset, Stopped, ReadBytes, ReadEnd, ReadReset, handed_out}
use Rattle.qh_spec.specs.declared.sides.Side.{Side}
use Rattle.qh_spec.specs.declared.sides.Space.{Space}
use Rattle.qh_spec.specs.declared.sides.Space.TheVariants.{Data}

-- it ends with a tag
pub record EndsTagged (datagram : List ℕ) : Type 0 where
  pub tag : List ℕ
  pub sender : Side
  pub space : Space
  pub number : ℕ
  pub is_tag : IsTag tag sender space number
  pub ends : EndsIn tag datagram

-- ---- one Initial packet

pub nothing_behind : (d front more : List ℕ) (m n : ℕ) (x y : List ℕ) → IsInitialForm d m x → IsInitialForm front n y → d ≡ front ++ more → more ≡ []
nothing_behind d front more m n x y i j e = sym (forms_agree d [] front more m n x y i j (append-nil d ∙ e)).2

form_ends : (bytes : List ℕ) (first : ℕ) (body tail : List ℕ) → IsInitialForm bytes first body → EndsIn tail body → EndsIn tail bytes
form_ends bytes first body tail f e =
    let behind = ends_more tail f.token_length (f.token ++ (f.body_length ++ body)) (ends_more tail f.token (f.body_length ++ body) (ends_more tail f.body_length body e)) in
    let whole = ends_more tail (first ∷ 0 ∷ 0 ∷ 0 ∷ 1 ∷ length f.destination ∷ []) (f.destination ++ (length f.source ∷ (f.source ++ (f.token_length ++ (f.token ++ (f.body_length ++ body))))))
    (ends_more tail f.destination (length f.source ∷ (f.source ++ (f.token_length ++ (f.token ++ (f.body_length ++ body)))))
    (ends_more tail (length f.source ∷ []) (f.source ++ (f.token_length ++ (f.token ++ (f.body_length ++ body)))) (ends_more tail f.source (f.token_length ++ (f.token ++ (f.body_length ++ body))) behind))) in
    subst (λ (z : List ℕ). EndsIn tail z) (sym f.whole) whole

packet_tagged : (k : ℕ) (p : Packet) (d : List ℕ) → IsInitialAlone d → HasPacket k p d → EndsTagged d
packet_tagged k p d alone (one_rtt b h) = record {
  tag = h.short.tag;
  sender = p.sender;
  space = Data;
  number = p.number;
  is_tag = h.content.tagged;
  ends = subst (λ (z : List ℕ). EndsIn h.short.tag z) (sym h.whole)
      (ends_more h.short.tag ((63 + length h.short.number) ∷ []) (h.short.destination ++ (h.short.number ++ (h.short.frames ++ h.short.tag)))
      (ends_more h.short.tag h.short.destination (h.short.number ++ (h.short.frames ++ h.short.tag))
      (ends_more h.short.tag h.short.number (h.short.frames ++ h.short.tag) (ends_more h.short.tag h.short.frames h.short.tag (ends_all h.short.tag)))));
}
packet_tagged k p d alone (initial front rest b e i) =
    let none = nothing_behind d front rest alone.first (191 + length i.number_bytes) alone.body (i.number_bytes ++ (i.frame_bytes ++ i.tag)) alone.is i.form e in
    let all : front ≡ d = sym (append-nil front) ∙ ap (λ (z : List ℕ). front ++ z) (sym none) ∙ sym e in
    record {
      tag = i.tag;
      sender = p.sender;
      space = _;
      number = p.number;
      is_tag = i.content.tagged;
      ends = subst (λ (z : List ℕ). EndsIn i.tag z) all (form_ends front (191 + length i.number_bytes) (i.number_bytes ++ (i.frame_bytes ++ i.tag)) i.tag i.form
          (ends_more i.tag i.number_bytes (i.frame_bytes ++ i.tag) (ends_more i.tag i.frame_bytes i.tag (ends_all i.tag))));
    }
packet_tagged k p d alone (later front rest b first body e i has) =
    absurd (no_packet_here k p rest (nothing_behind d front rest alone.first first alone.body body alone.is i e) has)

-- ---- where a datagram was handed out

front_act : (a : Act) (t : List Act) (d : List ℕ) → (before : List Act) × (after : List Act) × (t ≡ before ++ HandedOut d ∷ after) → (before : List Act) × (after : List Act) × (a ∷ t ≡ before ++ HandedOut d ∷ after)
front_act a t d p = (a ∷ p.0, p.1, ap (λ (z : List Act). a ∷ z) p.2)

pub where_out : (t : List Act) (d : List ℕ) → In d (handed_out t) → (before : List Act) × (after : List Act) × (t ≡ before ++ HandedOut d ∷ after)
where_out [] d among = absurd among
where_out (HandedOut e ∷ t) d (inl same) = ([], t, ap (λ (z : List ℕ). HandedOut z ∷ t) same)
where_out (HandedOut e ∷ t) d (inr more) = front_act (HandedOut e) t d (where_out t d more)
where_out (HandedIn e ∷ t) d among = front_act (HandedIn e) t d (where_out t d among)
where_out (Wrote s b ∷ t) d among = front_act (Wrote s b) t d (where_out t d among)
where_out (Finished s ∷ t) d among = front_act (Finished s) t d (where_out t d among)
where_out (Reset s code ∷ t) d among = front_act (Reset s code) t d (where_out t d among)
where_out (Stopped s code ∷ t) d among = front_act (Stopped s code) t d (where_out t d among)
where_out (ReadBytes s o b ∷ t) d among = front_act (ReadBytes s o b) t d (where_out t d among)
where_out (ReadEnd s ∷ t) d among = front_act (ReadEnd s) t d (where_out t d among)
where_out (ReadReset s code ∷ t) d among = front_act (ReadReset s code) t d (where_out t d among)

sealed_ends : (sealed : SealsTag) (sender : Side) (destination d : List ℕ) → MakesTags sealed → IsSealed sealed sender destination d → EndsTagged d
sealed_ends sealed sender destination d makes s =
    let tag = sealed sender Data s.number in
    record {
      tag = tag;
      sender = sender;
      space = Data;
      number = s.number;
      is_tag = makes sender Data s.number s.is_number;
      ends = subst (λ (z : List ℕ). EndsIn tag z) (sym s.is) (ends_more tag (header_bytes destination s.number) (s.frames ++ tag) (ends_more tag s.frames tag (ends_all tag)));
    }

pub greeted_or : (o : Option TransportParameters) → (is_some o ≡ true) ⊎ (o ≡ None)
greeted_or None = inr refl
greeted_or (Some p) = inl refl

module _ {S : Type 0} (accepts : AcceptsTags S) (sealed : MakesTagsOf S) (key : S → List ℕ) (hello : List ℕ) (q : Connection S) (t : List Act) (e : IsHonestEnd accepts sealed hello q t) where
  -- one Initial packet, or what begins with a short header and concerns the end of the 1-RTT packets
  abbrev pub IsOfAKind : List ℕ → Type 0
  IsOfAKind d = (IsInitialAlone d × In d (handed_out e.stands.shake)) ⊎ (IsShort d × In d (handed_out e.stands.part))

  pub kind : (d : List ℕ) → In d (handed_out t) → IsOfAKind d
  kind d i = elim (shake_out e.stands.shake t e.stands.is_shake d i) [
    | inl h ↦ let at = where_out e.stands.shake d h in inl (honest_alone hello _ q.handshake d (e.stands.sends.each at.0 at.1 d at.2), h)
    | inr s ↦ inr (s, end_of_part e.stands.part t d d e.stands.is_part e.stands.begun.short i (here d refl) s)
  ]

  pub own_accords : AreTags (accepts q.core.session) (sealed q.core.session) → Accords (accepts q.core.session) (sealed q.core.session) q.core e.stands.part
  own_accords tags = e.stands.begun.accords (accepts q.core.session) (sealed q.core.session) (λ _. (refl, refl)) tags

  pub tagged : AreTags (accepts q.core.session) (sealed q.core.session) → (d : List ℕ) → In d (handed_out t) → EndsTagged d
  tagged tags d i = elim (kind d i) [
    | inl (alone, h) ↦
        let at = where_out e.stands.shake d h in
        let one = (e.stands.sends.each at.0 at.1 d at.2).has_one 0 in
        packet_tagged 0 one.0 d alone one.1
    | inr (s, h) ↦ let it = (own_accords tags).tagged d h in sealed_ends (sealed q.core.session) q.core.side it.0 d tags.makes it.2
  ]

  -- an end that handed out a 1-RTT packet was greeted
  pub greeted_out : (d : List ℕ) → In d (handed_out e.stands.part) → is_some q.handshake.peer ≡ true
  greeted_out d i = elim (greeted_or q.handshake.peer) [
    | inl some ↦ some
    | inr none ↦ absurd (subst (λ (z : List Act). In d (handed_out z)) (e.stands.begun.not_yet none) i)
  ]
