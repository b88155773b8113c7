-- How what a handshake sends stands once one datagram more was handed in: each number that is to be acknowledged came.
use Rattle.std.proofs.Common.{◌≡◌, ℕ, ◌==◌, Bool, true, ◌&&◌, ◌||◌, nat_le, List, [], ◌∷◌, ◌++◌, length, Option, Some, None, refl, sym, ap, subst, ◌∙◌, inl, inr}
use Rattle.std.proofs.lemmas.Bool.{and_parts, eqb-true, or_cases}
use Rattle.std.proofs.lemmas.Option.{none-some, same_Some}
use Rattle.qh_base.specs.declared.connection_error.ConnectionClose.{ConnectionClose}
use Rattle.qh_base.specs.declared.connection_error.ConnectionError.{ConnectionError}
use Rattle.qh_base.specs.declared.time.Moment.{Moment}
use Rattle.qh_buffers.specs.Ranges.{has}
use Rattle.qh_frame.specs.declared.frame.Frame.{Frame}
use Rattle.qh_handshake.proofs.SendsOn.{AcksCame, IsSameEnd, loss_acks, same_acks, sends_on}
use Rattle.qh_handshake.specs.Follows.{HasInitial}
use Rattle.qh_handshake.specs.Handshake.{dropping}
use Rattle.qh_handshake.specs.Incoming.{AreFramesTaken, ArePacketsTaken, Form, IsAccepted, IsDatagramTaken, IsHelloRead, IsInitialTaken, IsOpenedBy, IsPacketHandled, knowing, received, restarted}
use Rattle.qh_handshake.specs.Incoming.AreFramesTaken.{none as none_taken, more as more_taken, closed as closed_taken, refused as refused_taken}
use Rattle.qh_handshake.specs.Incoming.ArePacketsTaken.{done, more as one_more, ended as ended_by}
use Rattle.qh_handshake.specs.Incoming.IsDatagramTaken.{retry, mismatch, packets}
use Rattle.qh_handshake.specs.Incoming.IsHelloRead.{gone as gone_before, known, cut, refused, at_client, at_server}
use Rattle.qh_handshake.specs.Incoming.IsInitialTaken.{gone, dropped, ended, handled}
use Rattle.qh_handshake.specs.Incoming.IsPacketHandled.{repeated, empty, faulty, unnoted, taken}
use Rattle.qh_handshake.specs.Lost.{AreBegun, IsLost}
use Rattle.qh_handshake.specs.Lost.AreBegun.{here as here_begun, more as one_begun}
use Rattle.qh_handshake.specs.Lost.IsLost.{initials, retry as retry_lost}
use Rattle.qh_handshake.specs.Receiving.{IsFrameTaken}
use Rattle.qh_handshake.specs.Receiving.IsFrameTaken.{padding, ping, ack, crypto, close}
use Rattle.qh_handshake.specs.Sends.{Sends}
use Rattle.qh_handshake.specs.declared.handshake.Handshake.{Handshake}
use Rattle.qh_handshake.specs.declared.initial_space.InitialSpace.{InitialSpace}
use Rattle.qh_packet.specs.Initial.{BeginsWithInitial}
use Rattle.qh_packet.specs.Session.{AcceptsTag, NamesTags}
use Rattle.qh_spec.proofs.Members.{in_left, in_last}
use Rattle.qh_spec.proofs.PartLaws.{last_or_before}
use Rattle.qh_spec.proofs.TranscriptLaws.{handed_in-append}
use Rattle.qh_spec.specs.Datagram.{Packet, HasPacket, IsInitialForm, IsInitialPacket, initial, later}
use Rattle.qh_spec.specs.Link.{other}
use Rattle.qh_spec.specs.Lists.{In}
use Rattle.qh_spec.specs.QuicFrames.{QuicFrame, AreQuicFrames}
use Rattle.qh_spec.specs.Transcript.{Act, HandedIn, HandedOut, handed_in}
use Rattle.qh_spec.specs.declared.sides.Side.{Side}
use Rattle.qh_spec.specs.declared.sides.Space.TheVariants.{Initial}

-- ---- a datagram came

one_in : (t : List Act) (d : List ℕ) → handed_in (t ++ HandedIn d ∷ []) ≡ handed_in t ++ d ∷ []
one_in t d = handed_in-append t (HandedIn d ∷ [])

in_last_act : (t : List Act) (d : List ℕ) → In d (handed_in (t ++ HandedIn d ∷ []))
in_last_act t d = subst (λ (z : List (List ℕ)). In d z) (sym (one_in t d)) (in_last d (handed_in t))

not_out : (d e : List ℕ) → HandedIn d ≡ HandedOut e → ⊥
not_out d e same = cc

heard_sends : (hello : List ℕ) (h : Handshake) (t : List Act) (d : List ℕ) → Sends hello h t → Sends hello h (t ++ HandedIn d ∷ [])
heard_sends hello h t d p = record {
  each = λ front back datagram e. elim (last_or_before t front back (HandedIn d) (HandedOut datagram) e) [
    | inl last ↦ absurd (not_out d datagram last.1)
    | inr earlier ↦ p.each front earlier.0 datagram earlier.1
  ];
  acked = λ s number id_length is there.
      let it = p.acked s number id_length is there in
      record {
        datagram = it.datagram;
        among = subst (λ (z : List (List ℕ)). In it.datagram z) (sym (one_in t d)) (in_left it.datagram (handed_in t) (d ∷ []) it.among);
        packet = it.packet;
        has = it.has;
        space_is = it.space_is;
        sender_is = it.sender_is;
        number_is = it.number_is;
      };
}

-- ---- a packet

frame_acks : (now : ℕ) (old new : InitialSpace) (f : Frame) (closed : Option ConnectionClose) → IsFrameTaken now old new f closed → new.acks.ranges ≡ old.acks.ranges
frame_acks now old new f closed (padding e) = ap (λ (z : InitialSpace). z.acks.ranges) e
frame_acks now old new f closed (ping e) = ap (λ (z : InitialSpace). z.acks.ranges) e
frame_acks now old new f closed (ack a r) = loss_acks _ now r.mid new r.lost ∙ ap (λ (z : InitialSpace). z.acks.ranges) r.mid_is
frame_acks now old new f closed (crypto _ piece is t) = ap (λ (z : InitialSpace). z.acks.ranges) t.rest_is
frame_acks now old new f closed (close _ code kind reason said is says e) = ap (λ (z : InitialSpace). z.acks.ranges) e

frames_acks : (now : ℕ) (bytes : List ℕ) (old new : InitialSpace) (end : Option ConnectionError) → AreFramesTaken now bytes old new end → new.acks.ranges ≡ old.acks.ranges
frames_acks now bytes old new end (none_taken _) = refl
frames_acks now bytes old new end (more_taken _ rest f _ mid _ _ begins fits one behind) = frames_acks now rest mid new end behind ∙ frame_acks now old mid f None one
frames_acks now bytes old new end (closed_taken _ rest f _ _ said begins fits one) = frame_acks now old new f (Some said) one
frames_acks now bytes old new end (refused_taken _ rest f _ error begins named refusal) = refl

module _ (side : Side) (u : List Act) where
  accepted_in : (now : Moment) (number : ℕ) (is_eliciting : Bool) (old new : InitialSpace) → IsAccepted now number is_eliciting old new
      → ((id_length : ℕ) → HasInitial id_length (handed_in u) (other side) number) → AcksCame side old u → AcksCame side new u
  accepted_in now number is_eliciting old new a came p = λ k id_length there.
      let both : (nat_le a.bound k && (k == number || has old.acks.ranges k)) ≡ true = sym (a.acks.numbers k) ∙ there in
      elim (or_cases (k == number) (has old.acks.ranges k) (and_parts (nat_le a.bound k) (k == number || has old.acks.ranges k) both).1) [
        | inl same ↦ subst (λ (n : ℕ). HasInitial id_length (handed_in u) (other side) n) (sym (eqb-true k number same)) (came id_length)
        | inr before ↦ p k id_length before
      ]

  -- a packet of the peer's with this number and these frames
  abbrev packet_of : (number : ℕ) → List QuicFrame → Packet
  packet_of number fs = record { space = Initial; sender = other side; number = number; frames = fs }

  packet_in : (now : Moment) (number : ℕ) (frames datagram : List ℕ) (old new : InitialSpace) (end : Option ConnectionError) → IsPacketHandled now number frames old new end
      → ((fs : List QuicFrame) → AreQuicFrames frames fs → (id_length : ℕ) → HasPacket id_length (packet_of number fs) datagram) → In datagram (handed_in u) → AcksCame side old u
      → AcksCame side new u
  packet_in now number frames datagram old new end (repeated none e) there among p = same_acks side old new u (ap (λ (z : InitialSpace). z.acks.ranges) e) p
  packet_in now number frames datagram old new end (empty _ is_new none fault e) there among p = same_acks side old new u (ap (λ (z : InitialSpace). z.acks.ranges) e) p
  packet_in now number frames datagram old new end (faulty _ kind is_new fault code e) there among p = same_acks side old new u (ap (λ (z : InitialSpace). z.acks.ranges) e) p
  packet_in now number frames datagram old new end (unnoted _ is_eliciting is_new valid t e) there among p = same_acks side old new u (ap (λ (z : InitialSpace). z.acks.ranges) e) p
  packet_in now number frames datagram old new end (taken mid is_eliciting _ is_new valid a t) there among p =
      same_acks side mid new u (frames_acks now.0 frames mid new end t)
      (accepted_in now number is_eliciting old mid a
      (λ id_length. record { datagram = datagram; among = among; packet = _; has = there valid.frames valid.are id_length; space_is = refl; sender_is = refl; number_is = refl }) p)

-- ---- an Initial packet

-- with another space, if there is one, and at the same end
next_sends : (hello : List ℕ) (old new : Handshake) (s : InitialSpace) (u : List Act) → IsSameEnd old new → new.space ≡ Some s → AcksCame old.side s u → Sends hello old u → Sends hello new u
next_sends hello old new s u same is came p =
    let of : AcksCame new.side s u = subst (λ (side : Side). AcksCame side s u) (sym same.side) came in
    sends_on hello old new u same (λ x there. subst (λ (z : InitialSpace). AcksCame new.side z u) (same_Some s x (sym is ∙ there)) of) p

hello_in : (hello : List ℕ) (old new : Handshake) (learned : Option (List ℕ)) (end : Option ConnectionError) (u : List Act) → IsHelloRead old new learned end → Sends hello old u → Sends hello new u
hello_in hello old new learned end u (gone_before none e) p = subst (λ (z : Handshake). Sends hello z u) (sym e) p
hello_in hello old new learned end u (known _ is e) p = subst (λ (z : Handshake). Sends hello z u) (sym e) p
hello_in hello old new learned end u (cut s is none e) p = subst (λ (z : Handshake). Sends hello z u) (sym e) p
hello_in hello old new learned end u (refused s front rest fault error is unread whole form has code e) p = subst (λ (z : Handshake). Sends hello z u) (sym e) p
hello_in hello old new learned end u (at_client name q there client e) p =
    subst (λ (z : Handshake). Sends hello z u) (sym e)
    (sends_on hello old (record (dropping old) { peer = Some q }) u (record { side = refl; id = refl }) (λ s is. absurd (none-some s is)) p)
hello_in hello old new learned end u (at_server s name q there server is e) p =
    subst (λ (z : Handshake). Sends hello z u) (sym e)
    (next_sends hello old _ _ u (record { side = refl; id = refl }) refl (λ number id_length at. p.acked s number id_length is at) p)

opened_is : (accepts : AcceptsTag) (h : Handshake) (s : InitialSpace) (f : Form) (number : ℕ) (front frames : List ℕ) (fs : List QuicFrame) → NamesTags accepts → IsOpenedBy accepts h s f number frames
    → IsInitialForm front f.first f.body → AreQuicFrames frames fs → IsInitialPacket front (record { space = Initial; sender = other h.side; number = number; frames = fs })
opened_is accepts h s f number front frames fs names by form are =
    let o = by.opened in
    record {
      number_bytes = o.number_bytes;
      frame_bytes = frames;
      tag = o.tag;
      form = subst (λ (n : ℕ). IsInitialForm front n (o.number_bytes ++ (frames ++ o.tag))) o.first_is (subst (λ (z : List ℕ). IsInitialForm front f.first z) o.whole form);
      some_number = o.some_number;
      short_number = o.short_number;
      content = record { space_is = refl; tagged = names (other h.side) Initial number o.tag o.is_number o.accepted; low = sym o.expanded.candidate.same_low; frames = are };
    }

module _ (hello : List ℕ) (accepts : AcceptsTag) (names : NamesTags accepts) (now : Moment) (datagram : List ℕ) (u : List Act) (among : In datagram (handed_in u)) where
  -- what these bytes have the datagram has
  abbrev IsRest : List ℕ → Type 0
  IsRest bytes = (id_length : ℕ) (p : Packet) → HasPacket id_length p bytes → HasPacket id_length p datagram

  known_in : (f : Form) (old : Handshake) (s mid : InitialSpace) (number : ℕ) (frames bytes destination behind : List ℕ) (end : Option ConnectionError)
      → BeginsWithInitial bytes f.first destination f.source f.token f.body behind → IsRest bytes → old.space ≡ Some s → IsOpenedBy accepts old s f number frames
      → IsPacketHandled now number frames s mid end → Sends hello old u → Sends hello (knowing old f.source mid) u
  known_in f old s mid number frames bytes destination behind end b rest is opened h p =
      next_sends hello old (knowing old f.source mid) mid u (record { side = refl; id = refl }) refl
      (packet_in old.side u now number frames datagram s mid end h
      (λ fs are id_length. rest id_length _ (initial b.front behind bytes b.whole (opened_is accepts old s f number b.front frames fs names opened b.form are))) among
      (λ k id_length there. p.acked s k id_length is there)) p

  initial_in : (f : Form) (old new : Handshake) (bytes destination behind : List ℕ) (learned : Option (List ℕ)) (end : Option ConnectionError)
      → BeginsWithInitial bytes f.first destination f.source f.token f.body behind → IsRest bytes → IsInitialTaken accepts now f old new learned end → Sends hello old u → Sends hello new u
  initial_in f old new bytes destination behind learned end b rest (gone none e) p = subst (λ (z : Handshake). Sends hello z u) (sym e) p
  initial_in f old new bytes destination behind learned end b rest (dropped s is none e) p = subst (λ (z : Handshake). Sends hello z u) (sym e) p
  initial_in f old new bytes destination behind learned end b rest (ended s mid number frames error is opened h e) p =
      subst (λ (z : Handshake). Sends hello z u) (sym e) (known_in f old s mid number frames bytes destination behind (Some error) b rest is opened h p)
  initial_in f old new bytes destination behind learned end b rest (handled s mid number frames _ _ is opened h read) p =
      hello_in hello (knowing old f.source mid) new learned end u read (known_in f old s mid number frames bytes destination behind None b rest is opened h p)

  packets_in : (bytes left : List ℕ) (old new : Handshake) (learned : Option (List ℕ)) (end : Option ConnectionError) → IsRest bytes → ArePacketsTaken accepts now bytes left old new learned end
      → Sends hello old u → Sends hello new u
  packets_in bytes left old new learned end rest (done _ _ none) p = p
  packets_in bytes left old new learned end rest (one_more _ destination behind _ f _ mid _ first others _ b one t) p =
      packets_in behind left mid new others end (λ id_length q has. rest id_length q (later b.front behind bytes f.first f.body b.whole b.form has)) t
      (initial_in f old mid bytes destination behind first None b rest one p)
  packets_in bytes left old new learned end rest (ended_by _ destination behind f _ _ _ error b one) p = initial_in f old new bytes destination behind learned (Some error) b rest one p

  begun_in : (bytes left : List ℕ) (old new : Handshake) (learned : Option (List ℕ)) → IsRest bytes → AreBegun accepts now bytes left old new learned → Sends hello old u → Sends hello new u
  begun_in bytes left old new learned rest (here_begun _ _) p = p
  begun_in bytes left old new learned rest (one_begun _ destination behind _ f _ mid _ first others b one begun) p =
      begun_in behind left mid new others (λ id_length q has. rest id_length q (later b.front behind bytes f.first f.body b.whole b.form has)) begun
      (initial_in f old mid bytes destination behind first None b rest one p)

-- ---- the datagram

-- its size is counted
received_sends : (hello : List ℕ) (h : Handshake) (t : List Act) (d : List ℕ) → Sends hello h t → Sends hello (received (length d) h) (t ++ HandedIn d ∷ [])
received_sends hello h t d p =
    let heard = heard_sends hello h t d p in
    sends_on hello h (received (length d) h) (t ++ HandedIn d ∷ []) (record { side = refl; id = refl }) (λ s is number id_length there. heard.acked s number id_length is there) heard

pub taken_sends : (accepts : AcceptsTag) (now : Moment) (datagram rest hello : List ℕ) (old new : Handshake) (retried learned : Option (List ℕ)) (end : Option ConnectionError) (t : List Act)
    → NamesTags accepts → IsDatagramTaken accepts now datagram old new rest retried learned end → Sends hello old t → Sends hello new (t ++ HandedIn datagram ∷ [])
taken_sends accepts now datagram rest hello old new retried learned end t names (retry s source token may is e) p =
    let u = t ++ HandedIn datagram ∷ [] in
    let h = received (length datagram) old in
    let heard = received_sends hello old t datagram p in
    subst (λ (z : Handshake). Sends hello z u) (sym e)
    (next_sends hello h (restarted now h s source token) _ u (record { side = refl; id = refl }) refl (λ number id_length there. heard.acked s number id_length may.space there) heard)
taken_sends accepts now datagram rest hello old new retried learned end t names (mismatch is e) p =
    subst (λ (z : Handshake). Sends hello z (t ++ HandedIn datagram ∷ [])) (sym e) (received_sends hello old t datagram p)
taken_sends accepts now datagram rest hello old new retried learned end t names (packets _ _ _ no_retry no_mismatch taken_all) p =
    let u = t ++ HandedIn datagram ∷ [] in
    packets_in hello accepts names now datagram u (in_last_act t datagram) datagram rest
    (received (length datagram) old) new learned end (λ id_length q has. has) taken_all (received_sends hello old t datagram p)

-- the space isn't used any more
gone_sends : (hello : List ℕ) (old new : Handshake) (u : List Act) → IsSameEnd old new → Sends hello old u → Sends hello (dropping new) u
gone_sends hello old new u same p = sends_on hello old (dropping new) u (record { side = same.side; id = same.id }) (λ s is. absurd (none-some s is)) p

-- memory is wanting for it
pub lost_sends : (accepts : AcceptsTag) (now : Moment) (datagram hello : List ℕ) (old new : Handshake) (learned : Option (List ℕ)) (t : List Act) → NamesTags accepts
    → IsLost accepts now datagram old new learned → Sends hello old t → Sends hello (dropping new) (t ++ HandedIn datagram ∷ [])
lost_sends accepts now datagram hello old new learned t names (retry_lost s source token may is e) p =
    gone_sends hello (received (length datagram) old) new (t ++ HandedIn datagram ∷ []) (record { side = ap (λ (z : Handshake). z.side) e; id = ap (λ (z : Handshake). z.local_id) e }) (received_sends hello old t datagram p)
lost_sends accepts now datagram hello old new learned t names (initials _ no_retry no_mismatch lost) p =
    let u = t ++ HandedIn datagram ∷ [] in
    let e = lost.left.rest_is in
    gone_sends hello lost.mid new u (record { side = ap (λ (z : Handshake). z.side) e; id = ap (λ (z : Handshake). z.local_id) e })
    (begun_in hello accepts names now datagram u (in_last_act t datagram) datagram lost.rest (received (length datagram) old) lost.mid learned (λ id_length q has. has) lost.begun (received_sends hello old t datagram p))
