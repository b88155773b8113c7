-- A packet that is made: it is out where it asks for an acknowledgement, and then none came of it.
use Rattle.std.proofs.Common.{◌≡◌, ◌⊎◌, ℕ, zero, suc, ◌+◌, ◌-◌, nat_lt, nat_cmp, cond, Bool, true, false, List, [], ◌∷◌, ◌++◌, length, Option, Some, None, unwrap_or, refl, sym, ap, subst, ◌∙◌, inl, inr, arith}
use Rattle.std.specs.List.{list_any}
use Rattle.std.specs.Prelude.{MatchBool, slice_get}
use Rattle.std.specs.BTreeMap.{is_at}
use Rattle.std.proofs.lemmas.Bool.{both_ways, cases_Bool}
use Rattle.std.proofs.lemmas.List.{append_cancel_left, length-append}
use Rattle.qh_base.specs.declared.path.Transmit.{Transmit}
use Rattle.qh_base.specs.declared.time.Moment.{Moment}
use Rattle.qh_core.proofs.ControlFrames.{bare_next, bare_rest, bare_sent, control_frames, control_wants}
use Rattle.qh_core.proofs.FramesMade.{AreFramesOf, frames_made}
use Rattle.qh_core.specs.Inner.{is_open}
use Rattle.qh_core.specs.Progress.{AreAllAcknowledged, HasAckOf, IsAwaiting, NumberedPacket, Progress}
use Rattle.qh_core.specs.Control.{IsControlMade}
use Rattle.qh_core.specs.Sending.{AreFramesMade, IsDatagramMade, overhead}
use Rattle.qh_core.specs.Sending.AreFramesMade.{packet as packet_made, control as control_made, close as close_made}
use Rattle.qh_core.specs.declared.inner.Inner.{Inner}
use Rattle.qh_buffers.specs.Ranges.{has}
use Rattle.qh_packet.specs.Frames.{is_ack_eliciting}
use Rattle.qh_packet.specs.Packet.{header_bytes}
use Rattle.qh_recovery.specs.PendingAcks.{PlainPendingAcks}
use Rattle.qh_recovery.specs.SentPackets.{packet_at}
use Rattle.qh_recovery.specs.declared.sent_packets.SentPacket.{SentPacket}
use Rattle.qh_space.specs.Sending.{AreElicitingPut, IsPacketMade, may_elicit, with_sent}
use Rattle.qh_space.specs.declared.data_space.DataSpace.{DataSpace}
use Rattle.qh_spec.proofs.Members.{in_last, in_left}
use Rattle.qh_spec.specs.Acknowledged.{Covers}
use Rattle.qh_spec.specs.Lists.{In}
use Rattle.qh_spec.specs.QuicFrames.{QuicFrame, AreQuicFrames}
use Rattle.qh_spec.specs.declared.sides.Side.{Side}
use Rattle.qh_spec.specs.declared.sides.Space.{Space}
use Rattle.qh_streams.specs.declared.frames.SentFrame.{SentFrame}

abbrev Packets : Type 0
Packets = List (ℕ × SentPacket SentFrame)

-- ---- packets that are out

same_number : (n k : ℕ) → is_at (nat_cmp n) k ≡ true → k ≡ n
same_number n k h = grind (arith, h)

-- what is out is the last packet, or was out before
last_or_before : (es : Packets) (number k : ℕ) (packet q : SentPacket SentFrame) → packet_at (es ++ (number, packet) ∷ []) k ≡ Some q → (packet_at es k ≡ Some q) ⊎ ((number ≡ k) × (packet ≡ q))
last_or_before [] number k packet q there = elim (cases_Bool (is_at (nat_cmp k) number)) [
  | inl here ↦ inr (same_number k number here, ap (λ (o : Option (SentPacket SentFrame)). unwrap_or o packet) (sym (ap (λ (b : Bool). cond b (Some packet) None) here) ∙ there))
  | inr apart ↦ let none : None ≡ Some q = sym (ap (λ (b : Bool). cond b (Some packet) None) apart) ∙ there in cc
]
last_or_before (e ∷ es) number k packet q there = elim (cases_Bool (is_at (nat_cmp k) e.0)) [
  | inl here ↦ inl (ap (λ (b : Bool). cond b (Some e.1) (packet_at es k)) here ∙ (sym (ap (λ (b : Bool). cond b (Some e.1) (packet_at (es ++ (number, packet) ∷ []) k)) here) ∙ there))
  | inr apart ↦ elim (last_or_before es number k packet q (sym (ap (λ (b : Bool). cond b (Some e.1) (packet_at (es ++ (number, packet) ∷ []) k)) apart) ∙ there)) [
    | inl before ↦ inl (ap (λ (b : Bool). cond b (Some e.1) (packet_at es k)) apart ∙ before)
    | inr last ↦ inr last
  ]
]

-- What the space has out behind a packet that was made: the packet, where something stands behind its ACK, and what was out.
record IsOutBehind (old new : DataSpace) (packet : SentPacket SentFrame) (is_eliciting : Bool) : Type 0 where
  next : new.next_number ≡ old.next_number + 1
  acks : new.acks ≡ record old.acks { is_due = false }
  out : (k : ℕ) (q : SentPacket SentFrame) → packet_at new.sent k ≡ Some q → (packet_at old.sent k ≡ Some q) ⊎ ((is_eliciting ≡ true) × (old.next_number ≡ k) × (packet ≡ q))

sent_behind : (s : DataSpace) (packet : SentPacket SentFrame) (is_eliciting : Bool) (acks : PlainPendingAcks) → acks ≡ record s.acks { is_due = false }
    → IsOutBehind s (record (with_sent s packet is_eliciting) { acks = acks }) packet is_eliciting
sent_behind s packet true acks e = record {
  next = refl;
  acks = e;
  out = λ k q there. elim (last_or_before s.sent s.next_number k packet q there) [ inl before ↦ inl before | inr last ↦ inr (refl, last.0, last.1) ];
}
sent_behind s packet false acks e = record { next = refl; acks = e; out = λ k q there. inl there }

-- putting frames leaves this as it is
kept_behind : (may : Bool) (room : ℕ) (old mid : DataSpace) (out_mid after : List ℕ) (packet : SentPacket SentFrame) (is_eliciting : Bool)
    → MatchBool may (AreElicitingPut room old mid out_mid after packet.frames.items) ((mid ≡ old) × (after ≡ out_mid))
    → IsOutBehind old (record (with_sent mid packet is_eliciting) { acks = record old.acks { is_due = false } }) packet is_eliciting
kept_behind true room old mid out_mid after packet is_eliciting put =
    let before : DataSpace = record old { streams = mid.streams; is_ping_due = false; path_response = None } in
    let b = sent_behind before packet is_eliciting (record old.acks { is_due = false }) refl in
    subst (λ (s : DataSpace). IsOutBehind old (record (with_sent s packet is_eliciting) { acks = record old.acks { is_due = false } }) packet is_eliciting) (sym put.rest_is)
    (record { next = b.next; acks = b.acks; out = b.out })
kept_behind false room old mid out_mid after packet is_eliciting none =
    subst (λ (s : DataSpace). IsOutBehind old (record (with_sent s packet is_eliciting) { acks = record old.acks { is_due = false } }) packet is_eliciting) (sym none.0)
    (sent_behind old packet is_eliciting (record old.acks { is_due = false }) refl)

out_behind : (now overhead room : ℕ) (old new : DataSpace) (before after : List ℕ) (made : IsPacketMade now overhead room old new before after)
    → IsOutBehind old new made.packet (nat_lt (length made.out_mid) (length after))
out_behind now overhead room old new before after made =
    subst (λ (s : DataSpace). IsOutBehind old s made.packet (nat_lt (length made.out_mid) (length after))) (sym made.new_is)
    (kept_behind (may_elicit old) (room - (length made.out_mid - length before)) old made.mid made.out_mid after made.packet (nat_lt (length made.out_mid) (length after)) made.eliciting)

-- a packet of the connection's own frames is out, where no ACK was due
control_behind : (now overhead : ℕ) (side : Side) (most : Option ℕ) (old new : DataSpace) (bytes : List ℕ) (made : IsControlMade now overhead side most old new bytes) → IsOutBehind old new made.sent.packet true
control_behind now overhead side most old new bytes made =
    let b = made.sent in record {
      next = bare_next _ _ old new b;
      acks = (bare_rest _ _ old new b).acks ∙ ap (λ (x : Bool). let a : PlainPendingAcks = record old.acks { is_due = x } in a) made.quiet;
      out = λ k q there. elim (last_or_before old.sent old.next_number k b.packet q (subst (λ (es : Packets). packet_at es k ≡ Some q) (bare_sent _ _ old new b) there)) [
        | inl before ↦ inl before
        | inr last ↦ inr (refl, last.0, last.1)
      ];
    }

-- ---- what was sent, with one packet more

ack_before : (packets : List NumberedPacket) (p : NumberedPacket) (n : ℕ) → HasAckOf packets n → HasAckOf (packets ++ p ∷ []) n
ack_before packets p n h = record { packet = h.packet; among = in_left h.packet packets (p ∷ []) h.among; frame = h.frame; frame_among = h.frame_among; covers = h.covers }

ack_last : (packets : List NumberedPacket) (p : NumberedPacket) (n : ℕ) → (f : QuicFrame) × In f p.frames × Covers f n → HasAckOf (packets ++ p ∷ []) n
ack_last packets p n h = record { packet = p; among = in_last p packets; frame = h.0; frame_among = h.1; covers = h.2 }

numbers_more : (sent : List NumberedPacket) (first : ℕ) (p : NumberedPacket) → ((k : ℕ) (x : NumberedPacket) → slice_get sent k ≡ Some x → x.number ≡ first + k) → p.number ≡ first + length sent
    → (k : ℕ) (x : NumberedPacket) → slice_get (sent ++ p ∷ []) k ≡ Some x → x.number ≡ first + k
numbers_more [] first p numbers is zero x there = let same : p ≡ x = cc in sym (ap (λ (y : NumberedPacket). y.number) same) ∙ is
numbers_more [] first p numbers is (suc k) x there = absurd (cc)
numbers_more (y ∷ sent) first p numbers is zero x there = numbers zero x there
numbers_more (y ∷ sent) first p numbers is (suc k) x there =
    let rest = numbers_more sent (first + 1) p (λ j z at. let e = numbers (suc j) z at in omega (arith, e)) (omega (arith, is)) k x there in
    omega (arith, rest)

same_moment : (a b : Moment) → a.0 ≡ b.0 → a ≡ b
same_moment a b e = ap (λ (k : ℕ). let m : Moment = record { 0 = k } in m) e

-- ---- the datagram

module _ {S : Type 0} where
  -- While the connection is open a packet was made: of frames, of which one covers all that is to be acknowledged, where an ACK is due,
  -- and which is out where they ask for an acknowledgement.
  record IsMadeOpen (now : Moment) (old new : Inner S) (bytes : List ℕ) : Type 0 where
    frames : List QuicFrame
    are : AreQuicFrames bytes frames
    acknowledge : old.space.acks.is_due ≡ true → (n : ℕ) → has old.space.acks.ranges n ≡ true → (f : QuicFrame) × In f frames × Covers f n
    packet : SentPacket SentFrame
    is_eliciting : Bool
    ask : is_eliciting ≡ true → list_any is_ack_eliciting frames ≡ true
    time_is : packet.time_sent.0 ≡ now.0
    behind : IsOutBehind old.space new.space packet is_eliciting

  made_open : (now : Moment) (old new : Inner S) (before bytes : List ℕ) → AreFramesMade now old new before bytes → is_open old.state ≡ true → IsMadeOpen now old new bytes
  made_open now old new before bytes (packet_made here made rest) here_open =
      let f : AreFramesOf old.space.acks before made.out_mid (before ++ bytes) = frames_made _ _ _ old.space new.space before (before ++ bytes) made in
      record {
        frames = f.frames;
        are = subst (λ (z : List ℕ). AreQuicFrames z f.frames) (sym (append_cancel_left before bytes f.bytes f.appended)) f.are;
        acknowledge = f.acknowledge;
        packet = made.packet;
        is_eliciting = nat_lt (length made.out_mid) (length (before ++ bytes));
        ask = f.ask;
        time_is = made.time_is;
        behind = out_behind _ _ _ old.space new.space before (before ++ bytes) made;
      }
  made_open now old new before bytes (control_made here made rest) here_open =
      let f = control_frames old.side old.config.peer_datagram bytes made.control in
      record {
        frames = f.frames;
        are = f.are;
        acknowledge = λ due n there. absurd (both_ways old.space.acks.is_due made.quiet due);
        packet = made.sent.packet;
        is_eliciting = true;
        ask = λ _. control_wants old.side old.config.peer_datagram bytes f;
        time_is = made.sent.time_is;
        behind = control_behind _ _ old.side old.config.peer_datagram old.space new.space bytes made;
      }
  made_open now old new before bytes (close_made reason until is are rest) here_open = absurd (both_ways (is_open old.state) (ap is_open is) here_open)

  module _ (now : Moment) (old new : Inner S) (bytes : List ℕ) (sent accepted : List NumberedPacket) (f : IsMadeOpen now old new bytes) (p : Progress old sent accepted) where
    b : IsOutBehind old.space new.space f.packet f.is_eliciting
    b = f.behind

    abbrev made_packet : NumberedPacket
    made_packet = record { number = old.space.next_number; at = now; frames = f.frames }

    abbrev sent_now : List NumberedPacket
    sent_now = sent ++ made_packet ∷ []

    acknowledged : AreAllAcknowledged sent_now accepted
    acknowledged q among wants = elim (p.owes q among wants) [
      | inl before ↦ inl (ack_before sent made_packet q.number before)
      | inr (inl due) ↦ inl (ack_last sent made_packet q.number (f.acknowledge due.0 q.number due.1))
      | inr (inr scattered) ↦ inr scattered
    ]

    awaiting : (n : ℕ) (q : SentPacket SentFrame) → packet_at new.space.sent n ≡ Some q → IsAwaiting sent_now accepted n q
    awaiting n q there = elim (b.out n q there) [
      | inl before ↦
          let w = p.out n q before in
          record { packet = w.packet; among = in_left w.packet sent (made_packet ∷ []) w.among; number_is = w.number_is; at_is = w.at_is; wants = w.wants; unacknowledged = w.unacknowledged }
      | inr last ↦ record {
        packet = made_packet;
        among = in_last made_packet sent;
        number_is = last.1;
        at_is = same_moment now q.time_sent (sym f.time_is ∙ ap (λ (s : SentPacket SentFrame). s.time_sent.0) last.2);
        wants = f.ask last.0;
        unacknowledged = λ h. let below = p.acks_below n h in omega (arith, below, last.1, p.next);
      }
    ]

    one_more : length sent_now ≡ length sent + 1
    one_more = length-append sent (made_packet ∷ [])

    made_progress : Progress new sent_now accepted
    made_progress = record {
      next = omega (arith, b.next, p.next, one_more);
      numbers = λ k x there.
          let is = numbers_more sent 0 made_packet (λ j y at. let e = p.numbers j y at in omega (arith, e)) (omega (arith, p.next)) k x there in
          omega (arith, is);
      out = awaiting;
      acks_below = λ n h. let below = p.acks_below n h in omega (arith, below, one_more);
      owes = λ q among wants. elim (acknowledged q among wants) [ inl h ↦ inl h | inr scattered ↦ inr (inr scattered) ];
      kept = rw (b.acks) p.kept;
      apart = rw (b.acks) p.apart;
    }

    packet_progress : (fs : List QuicFrame) × AreQuicFrames bytes fs × Progress new (sent ++ record { number = old.space.next_number; at = now; frames = fs } ∷ []) accepted
        × AreAllAcknowledged (sent ++ record { number = old.space.next_number; at = now; frames = fs } ∷ []) accepted
    packet_progress = (f.frames, f.are, made_progress, acknowledged)

  pub datagram_made : (sealed : Side → Space → ℕ → List ℕ) (now : Moment) (old new : Inner S) (before after : List ℕ) (transmit : Transmit) (sent accepted : List NumberedPacket)
      (made : IsDatagramMade sealed now old new before after transmit) → is_open old.state ≡ true → Progress old sent accepted
      → (fs : List QuicFrame) × AreQuicFrames made.bytes.frames fs × Progress new (sent ++ record { number = old.space.next_number; at = now; frames = fs } ∷ []) accepted
      × AreAllAcknowledged (sent ++ record { number = old.space.next_number; at = now; frames = fs } ∷ []) accepted
  datagram_made sealed now old new before after transmit sent accepted made here_open p =
      let header = header_bytes old.remote_id old.space.next_number in
      packet_progress now old new made.bytes.frames sent accepted (made_open now old new header made.bytes.frames made.bytes.made here_open) p
