-- A packet that is accepted: it is to be acknowledged, and what it acknowledges is out no more.
use Rattle.std.proofs.Common.{◌≡◌, ◌⊎◌, ℕ, ◌<◌, ◌≤◌, ◌==◌, nat_le, Bool, true, List, [], ◌∷◌, ◌++◌, Option, Some, refl, sym, ap, subst, ◌∙◌, inl, inr, arith, append_assoc}
use Rattle.std.specs.Prelude.{◌↔◌, ◌||◌}
use Rattle.std.specs.List.{list_any}
use Rattle.std.proofs.lemmas.Bool.{and_from, and_parts, cases_lt, eq-eqb, eqb-true, le-leb, or_cases, or_left, or_right}
use Rattle.std.proofs.lemmas.List.{append-nil}
use borrow.Author.Tests.{leb-true}
use Rattle.qh_base.specs.declared.connection_error.ConnectionError.{ConnectionError}
use Rattle.qh_base.specs.declared.time.Moment.{Moment}
use Rattle.qh_buffers.specs.Ranges.{PlainRange, has}
use Rattle.qh_core.proofs.Ends.{goes_on_open}
use Rattle.qh_core.proofs.AcksTaken.{AreSettled, acks_taken}
use Rattle.qh_core.specs.Inner.{is_open}
use Rattle.qh_core.specs.Progress.{AreNumbersOf, HasAckOf, IsAmong, IsAwaiting, IsScattered, NumberedPacket, Progress, wants_ack}
use Rattle.qh_core.specs.Receiving.{AreFramesTaken, IsAccepted, IsPacketTaken}
use Rattle.qh_core.specs.Timers.{restarted}
use Rattle.qh_core.specs.declared.inner.Inner.{Inner}
use Rattle.qh_packet.specs.Frames.{is_ack_eliciting}
use Rattle.qh_recovery.specs.PendingAcks.{IsJoined, PlainPendingAcks}
use Rattle.qh_recovery.specs.SentPackets.{packet_at}
use Rattle.qh_recovery.specs.declared.sent_packets.SentPacket.{SentPacket}
use Rattle.qh_space.specs.declared.data_space.DataSpace.{DataSpace}
use Rattle.qh_spec.proofs.FrameLaws.{quic_frames_agree}
use Rattle.qh_spec.proofs.Members.{in_last, in_left, in_more}
use Rattle.qh_spec.specs.Acknowledged.{Covers}
use Rattle.qh_spec.specs.Lists.{In}
use Rattle.qh_spec.specs.QuicFrames.{QuicFrame, AreQuicFrames}
use Rattle.qh_streams.specs.declared.frames.SentFrame.{SentFrame}

-- ---- packets, with one more

scattered_more : (packets : List NumberedPacket) (p : NumberedPacket) → IsScattered packets → IsScattered (packets ++ p ∷ [])
scattered_more packets p s = record {
  before = s.before;
  after = s.after ++ p ∷ [];
  whole = ap (λ (l : List NumberedPacket). l ++ p ∷ []) s.whole ∙ append_assoc s.before s.after (p ∷ []);
  bound = s.bound;
  ranges = s.ranges;
  full = s.full;
  apart = s.apart;
  are = s.are;
}

among_more : (n : ℕ) (packets : List NumberedPacket) (p : NumberedPacket) → IsAmong n packets → IsAmong n (packets ++ p ∷ [])
among_more n packets p a = record { packet = a.packet; among = in_left a.packet packets (p ∷ []) a.among; number_is = a.number_is }

among_last : (n : ℕ) (packets : List NumberedPacket) (p : NumberedPacket) → p.number ≡ n → IsAmong n (packets ++ p ∷ [])
among_last n packets p is = record { packet = p; among = in_last p packets; number_is = is }

among_split : (n : ℕ) (packets : List NumberedPacket) (p : NumberedPacket) → IsAmong n (packets ++ p ∷ []) → IsAmong n packets ⊎ (p.number ≡ n)
among_split n packets p a = elim (in_more a.packet p packets a.among) [
  | inl before ↦ inl (record { packet = a.packet; among = before; number_is = a.number_is })
  | inr last ↦ inr (ap (λ (x : NumberedPacket). x.number) last ∙ a.number_is)
]

ack_split : (packets : List NumberedPacket) (p : NumberedPacket) (n : ℕ) → HasAckOf (packets ++ p ∷ []) n → HasAckOf packets n ⊎ ((f : QuicFrame) × In f p.frames × Covers f n)
ack_split packets p n h = elim (in_more h.packet p packets h.among) [
  | inl before ↦ inl (record { packet = h.packet; among = before; frame = h.frame; frame_among = h.frame_among; covers = h.covers })
  | inr last ↦ inr (h.frame, subst (λ (x : NumberedPacket). In h.frame x.frames) (sym last) h.frame_among, h.covers)
]

-- ---- the numbers that are kept

module _ (old new : List PlainRange) (bound : ℕ) (packets : List NumberedPacket) (p : NumberedPacket) (joined : IsJoined old new p.number bound) (were : AreNumbersOf old packets) where
  -- they are those of the packets from the bound on
  joined_are : (n : ℕ) → (has new n ≡ true) ↔ ((bound ≤ n) × IsAmong n (packets ++ p ∷ []))
  joined_are n = (
    λ h.
        let parts = and_parts (nat_le bound n) (n == p.number || has old n) (sym (joined.numbers n) ∙ h) in (
          leb-true bound n parts.0,
          elim (or_cases (n == p.number) (has old n) parts.1) [
            | inl last ↦ among_last n packets p (sym (eqb-true n p.number last))
            | inr before ↦ among_more n packets p ((were n).0 before)
          ],
        ),
    λ h. joined.numbers n ∙ and_from (nat_le bound n) (n == p.number || has old n) (le-leb bound n h.0) (elim (among_split n packets p h.1) [
      | inl before ↦ or_right (n == p.number) (has old n) ((were n).1 before)
      | inr last ↦ or_left (n == p.number) (has old n) (eq-eqb n p.number (sym last))
    ]),
  )

  joined_kept : IsScattered (packets ++ p ∷ []) ⊎ AreNumbersOf new (packets ++ p ∷ [])
  joined_kept = elim (cases_lt 0 bound) [
    | inl some ↦ inl (record {
      before = packets ++ p ∷ [];
      after = [];
      whole = sym (append-nil (packets ++ p ∷ []));
      bound = bound;
      ranges = new;
      full = joined.needed some;
      apart = joined.apart;
      are = joined_are;
    })
    | inr none ↦ inr (λ n. (λ h. ((joined_are n).0 h).1, λ h. (joined_are n).1 (omega (arith, none), h)))
  ]

-- ---- the packet

-- What the space keeps behind a packet with these frames: its number waits to be acknowledged, and what it acknowledges is out
-- no more.
record IsTakenBy (p : NumberedPacket) (old new : DataSpace) : Type 0 where
  bound : ℕ
  joined : IsJoined old.acks.ranges new.acks.ranges p.number bound
  due : new.acks.is_due ≡ (old.acks.is_due || wants_ack p)
  next : new.next_number ≡ old.next_number
  out : (k : ℕ) (q : SentPacket SentFrame) → packet_at new.sent k ≡ Some q → packet_at old.sent k ≡ Some q
  below : (f : QuicFrame) (n : ℕ) → In f p.frames → Covers f n → n < old.next_number
  gone : (f : QuicFrame) (n : ℕ) → In f p.frames → Covers f n → (q : SentPacket SentFrame) → packet_at new.sent n ≡ Some q → ⊥

taken_by : (p : NumberedPacket) (is_eliciting : Bool) (old mid new : DataSpace) → is_eliciting ≡ wants_ack p → IsAccepted p.number is_eliciting old mid → AreSettled mid new p.frames → IsTakenBy p old new
taken_by p is_eliciting old mid new wants a s =
    let next : mid.next_number ≡ old.next_number = ap (λ (x : DataSpace). x.next_number) a.rest_is in
    let sent : mid.sent ≡ old.sent = ap (λ (x : DataSpace). x.sent) a.rest_is in
    record {
      bound = a.bound;
      joined = subst (λ (acks : PlainPendingAcks). IsJoined old.acks.ranges acks.ranges p.number a.bound) (sym s.fewer.acks) a.joined;
      due = ap (λ (acks : PlainPendingAcks). acks.is_due) s.fewer.acks ∙ (a.due ∙ ap (λ (b : Bool). old.acks.is_due || b) wants);
      next = s.fewer.next ∙ next;
      out = λ k q there. subst (λ (l : List (ℕ × SentPacket SentFrame)). packet_at l k ≡ Some q) sent (s.fewer.out k q there);
      below = λ f n among h. let less = s.below f n among h in omega (arith, less, next);
      gone = s.gone;
    }

module _ {S : Type 0} (old new : Inner S) (sent accepted : List NumberedPacket) (p : NumberedPacket) (t : IsTakenBy p old.space new.space) (progress : Progress old sent accepted) where
  kept_now : IsScattered (accepted ++ p ∷ []) ⊎ AreNumbersOf new.space.acks.ranges (accepted ++ p ∷ [])
  kept_now = elim progress.kept [
    | inl scattered ↦ inl (scattered_more accepted p scattered)
    | inr were ↦ joined_kept old.space.acks.ranges new.space.acks.ranges t.bound accepted p t.joined were
  ]

  abbrev Owes : NumberedPacket → Type 0
  Owes q = HasAckOf sent q.number ⊎ (((new.space.acks.is_due ≡ true) × (has new.space.acks.ranges q.number ≡ true)) ⊎ IsScattered (accepted ++ p ∷ []))

  owes_where : (q : NumberedPacket) → AreNumbersOf new.space.acks.ranges (accepted ++ p ∷ []) → In q accepted ⊎ (p ≡ q) → wants_ack q ≡ true → Owes q
  owes_where q are (inl before) wants = elim (progress.owes q before wants) [
    | inl acked ↦ inl acked
    | inr (inl due) ↦ inr (inl (t.due ∙ or_left old.space.acks.is_due (wants_ack p) due.0, (are q.number).1 (record { packet = q; among = in_left q accepted (p ∷ []) before; number_is = refl })))
    | inr (inr scattered) ↦ inr (inr (scattered_more accepted p scattered))
  ]
  owes_where q are (inr last) wants =
      let asks : wants_ack p ≡ true = ap wants_ack last ∙ wants in
      inr (inl (t.due ∙ or_right old.space.acks.is_due (wants_ack p) asks, (are q.number).1 (among_last q.number accepted p (ap (λ (x : NumberedPacket). x.number) last))))

  owes_now : (q : NumberedPacket) → In q (accepted ++ p ∷ []) → wants_ack q ≡ true → Owes q
  owes_now q among wants = elim kept_now [
    | inl scattered ↦ inr (inr scattered)
    | inr are ↦ owes_where q are (in_more q p accepted among) wants
  ]

  awaits_still : (n : ℕ) (q : SentPacket SentFrame) → packet_at new.space.sent n ≡ Some q → IsAwaiting sent (accepted ++ p ∷ []) n q
  awaits_still n q there =
      let w = progress.out n q (t.out n q there) in
      record {
        packet = w.packet;
        among = w.among;
        number_is = w.number_is;
        at_is = w.at_is;
        wants = w.wants;
        unacknowledged = λ h. elim (ack_split accepted p n h) [ inl before ↦ w.unacknowledged before | inr (f, among, covers) ↦ t.gone f n among covers q there ];
      }

  accepted_more : Progress new sent (accepted ++ p ∷ [])
  accepted_more = record {
    next = t.next ∙ progress.next;
    numbers = progress.numbers;
    out = awaits_still;
    acks_below = λ n h. elim (ack_split accepted p n h) [
      | inl before ↦ progress.acks_below n before
      | inr (f, among, covers) ↦ let less = t.below f n among covers in let count = progress.next in omega (arith, less, count)
    ];
    owes = owes_now;
    kept = kept_now;
    apart = t.joined.apart;
  }

module _ {S : Type 0} where
  pub packet_accepted : (now : Moment) (number : ℕ) (frames : List ℕ) (old new : Inner S) (fs : List QuicFrame) (sent accepted : List NumberedPacket) → IsPacketTaken now number frames old new
      → is_open new.state ≡ true → AreQuicFrames frames fs → Progress old sent accepted → Progress new sent (accepted ++ record { number = number; at = now; frames = fs } ∷ [])
  packet_accepted now number frames old new fs sent accepted t is_still reading progress =
      let p : NumberedPacket = record { number = number; at = now; frames = fs } in
      let on = goes_on_open now t.end (record old { space = t.space; idle = restarted now old.idle }) new t.goes_on is_still in
      let wants : t.is_eliciting ≡ wants_ack p = t.surveyed.eliciting_is ∙ ap (list_any is_ack_eliciting) (quic_frames_agree frames t.surveyed.frames fs t.surveyed.are reading) in
      let settled = acks_taken now.0 frames t.mid t.space t.taken fs (subst (λ (end : Option ConnectionError). AreFramesTaken now.0 frames t.mid t.space t.taken end) on.0 t.are_taken) reading in
      accepted_more old new sent accepted p
      (subst (λ (s : DataSpace). IsTakenBy p old.space s) (sym (ap (λ (c : Inner S). c.space) on.1)) (taken_by p t.is_eliciting old.space t.mid t.space wants t.accepted settled)) progress
