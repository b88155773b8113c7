-- An ACK, the loss rules, probes and the frames of a packet that is accepted: what is owed is kept.
use Rattle.std.proofs.Common.{◌≡◌, ℕ, ◌+◌, ◌/◌, ◌==◌, Bool, true, false, List, [], ◌∷◌, Option, Some, None, refl, sym, ap, subst, ◌∙◌, inl, inr, arith}
use Rattle.std.specs.Prelude.{if◌then◌else◌}
use Rattle.std.specs.List.{All}
use Rattle.std.proofs.lemmas.Bool.{cases_Bool, eqb-true}
use Rattle.std.proofs.lemmas.List.Elements.{All-head, All-tail}
use Rattle.qh_base.specs.declared.connection_error.ConnectionError.{ConnectionError}
use Rattle.qh_core.specs.Receiving.{AreFramesTaken}
use Rattle.qh_core.specs.Receiving.AreFramesTaken.{none as none_taken, more as more_taken, closed as closed_by, refused as refused_at}
use Rattle.qh_core.specs.Timers.{AreLostByAge, IsProbed}
use Rattle.qh_core.specs.Timers.AreLostByAge.{due as due_lost, not_yet as none_lost}
use Rattle.qh_core.specs.Timers.IsProbed.{due as due_probe, not_yet as no_probe}
use Rattle.qh_core.proofs.PacketsOut.{IsFewer, lost_fewer}
use Rattle.qh_frame.specs.Plain.{ack_of, plain_of}
use Rattle.qh_frame.specs.WrittenForm.{ack_values, or_frame, written_form}
use Rattle.qh_frame.specs.declared.ack.Ack.{Ack}
use Rattle.qh_frame.specs.declared.frame.Frame.{Frame}
use Rattle.qh_history.proofs.Carried.{by_loss, by_probe}
use Rattle.qh_history.proofs.Speaking.{speaks}
use Rattle.qh_transcript.proofs.ReceivingLists.{none_some, some_is}
use Rattle.qh_loss.specs.Owed.{frames_out}
use Rattle.qh_loss.specs.declared.probe.Probe.{Probe}
use Rattle.qh_loss.specs.declared.probe.Probe.TheVariants as probe
use Rattle.qh_owing.proofs.InPackets.{acked_leave, kept_in, lost_leave, no_more, taken_in}
use Rattle.qh_owing.proofs.KeptArrivals.{received}
use Rattle.qh_recovery.specs.Rtt.{loss_delay}
use Rattle.qh_streams.proofs.StreamsTrackedCalls.{received_keeps}
use Rattle.qh_streams.proofs.StreamsTrackedSettled.{lost_drops}
use Rattle.qh_owing.proofs.KeptStreams.{IsPaid, again, all_acked}
use Rattle.qh_owing.specs.Owing.{AreInPackets, AreKept, AreOutCarried, IsByteAcknowledged, IsEndAcknowledged, IsFrameCarried, IsOwing}
use Rattle.qh_recovery.specs.SentPackets.{IsLost, packet_at}
use Rattle.qh_recovery.specs.declared.sent_packets.SentPacket.{SentPacket}
use Rattle.qh_space.specs.Receiving.{IsAckReceived, IsFrameTaken, IsLossTaken, coming_of, frame_refusal, greatest_of}
use Rattle.qh_space.specs.Receiving.IsFrameTaken.{passive, streams as of_streams, ack as of_ack, challenge, close}
use Rattle.qh_space.specs.Timers.{IsProbeDue, pings_after}
use Rattle.qh_space.specs.declared.data_space.DataSpace.{DataSpace}
use Rattle.qh_spec.proofs.FrameLaws.{quic_frames_agree}
use Rattle.qh_spec.proofs.Members.{in_split}
use Rattle.qh_spec.specs.Acknowledged.{Covers, ValuesCover}
use Rattle.qh_spec.specs.Carried.{IsAcknowledged}
use Rattle.qh_spec.specs.Datagram.{Packet}
use Rattle.qh_spec.specs.FrameViews.{stream_values}
use Rattle.qh_spec.specs.Lists.{In}
use Rattle.qh_spec.specs.QuicFrame.{StreamFrame as Run, has_bit}
use Rattle.qh_spec.specs.QuicFrames.{QuicFrame, AreQuicFrames, Value, Num, Nums}
use Rattle.qh_spec.specs.Transcript.{Act, handed_out}
use Rattle.qh_spec.specs.declared.sides.Side.{Side}
use Rattle.qh_spec.specs.declared.sides.Space.TheVariants.{Data}
use Rattle.qh_streams.specs.Streams.{refusal_of}
use Rattle.qh_streams.specs.declared.frames.SentFrame.{SentFrame}
use Rattle.qh_streams.specs.declared.frames.SentFrame.TheVariants as sent
use Rattle.qh_streams.specs.declared.frames.StreamFrame.{StreamFrame}

-- ---- frames of packets

abbrev Packets : Type 0
Packets = List (ℕ × SentPacket SentFrame)

all_at : (R : ℕ × SentPacket SentFrame → Type 0) (es : Packets) → All R es → (e : ℕ × SentPacket SentFrame) → In e es → R e
all_at R [] all e there = absurd there
all_at R (d ∷ es) all e (inl same) = subst R same (All-head R d es all)
all_at R (d ∷ es) all e (inr there) = all_at R es (All-tail R d es all) e there

-- a frame in packets is in one of them
in_frames : (es : Packets) (f : SentFrame) → In f (frames_out es) → (e : ℕ × SentPacket SentFrame) × In e es × In f e.1.frames.items
in_frames [] f h = absurd h
in_frames (e ∷ es) f h = elim (in_split f e.1.frames.items (frames_out es) h) [
  | inl here ↦ (e, inl refl, here)
  | inr later ↦ let r = in_frames es f later in (r.0, inr r.1, r.2)
]

-- ---- the frame that an ACK is read from acknowledges what the ACK does

three_covered : (a b c : Value) (more : List Value) (n : ℕ) → ValuesCover (a ∷ b ∷ c ∷ []) n → ValuesCover (a ∷ b ∷ c ∷ more) n
three_covered (Num greatest) (Num delay) (Nums ranges) more n h = h
three_covered a b c more n h = search

values_covered : (vs : List Value) (n : ℕ) → ValuesCover (ack_values vs) n → ValuesCover vs n
values_covered [] n h = h
values_covered (a ∷ []) n h = h
values_covered (a ∷ b ∷ []) n h = h
values_covered (a ∷ b ∷ c ∷ more) n h = three_covered a b c more n h

ten_more : (zero fin : Bool) → (10 + (if zero then 0 else 4) + (if fin then 1 else 0)) / 2 ≡ 1 → ⊥
ten_more true true e = omega (arith, e)
ten_more true false e = omega (arith, e)
ten_more false true e = omega (arith, e)
ten_more false false e = omega (arith, e)

stream_covers_none : (o : Option Run) (f : QuicFrame) (n : ℕ) → f.kind / 8 ≡ 1 → Covers (or_frame o f) n → ⊥
stream_covers_none None f n eight h = let half = h.0 in omega (arith, eight, half)
stream_covers_none (Some run) f n eight h = ten_more (run.offset == 0) run.fin h.0

covered_form : (f : QuicFrame) (n : ℕ) → Covers (written_form f) n → Covers f n
covered_form f n h = elim (cases_Bool (f.kind / 8 == 1)) [
  | inl eight ↦
      let form : written_form f ≡ or_frame (stream_values (has_bit 1 f.kind) f.values) f = rw eight refl in
      absurd (stream_covers_none (stream_values (has_bit 1 f.kind) f.values) f n (eqb-true (f.kind / 8) 1 eight) (subst (λ (g : QuicFrame). Covers g n) form h))
  | inr not_eight ↦ elim (cases_Bool (f.kind == 3)) [
    | inl three ↦
        let form : written_form f ≡ record { kind = 2; values = ack_values f.values } = rw (not_eight, three) refl in
        let covers = subst (λ (g : QuicFrame). Covers g n) form h in
        let is = eqb-true f.kind 3 three in
        (ap (λ (k : ℕ). k / 2) is, values_covered f.values n covers.1)
    | inr not_three ↦ elim (cases_Bool (f.kind == 48)) [
      | inl datagram ↦
          let form : written_form f ≡ record { kind = 49; values = f.values } = rw (not_eight, not_three, datagram) refl in
          let half : 49 / 2 ≡ 1 = (subst (λ (g : QuicFrame). Covers g n) form h).0 in
          absurd (omega (arith, half))
      | inr plain ↦
          let form : written_form f ≡ f = rw (not_eight, not_three, plain) refl in
          subst (λ (g : QuicFrame). Covers g n) form h
    ]
  ]
]

module _ (id_length : ℕ) (side : Side) (t : List Act) where
  carried_fewer : (old new : DataSpace) → IsFewer old new → AreOutCarried id_length side t old.sent → AreOutCarried id_length side t new.sent
  carried_fewer old new fewer out number q f there among = out number q f (fewer.out number q there) among

  module _ (accepted : List Packet) where
    abbrev Byte : ℕ → ℕ → Type 0
    Byte = IsByteAcknowledged id_length (handed_out t) accepted side

    abbrev End : ℕ → Type 0
    End = IsEndAcknowledged id_length (handed_out t) accepted side

    abbrev Owing : DataSpace → Type 0
    Owing s = IsOwing id_length side accepted t s

    -- ---- loss and probes

    pub loss_owing : (largest now : ℕ) (old new : DataSpace) → IsLossTaken largest now old new → Owing old → Owing new
    loss_owing largest now old new l p = record {
      kept = by_loss (λ s. AreKept Byte End t s) (λ was s f lost. again Byte End t was s f lost) largest now old new l p.kept;
      in_packets = subst (λ (n : ℕ). AreInPackets new.streams new.sent n) (sym (ap (λ (s : DataSpace). s.next_number) l.rest_is))
          (taken_in (IsLost largest now (loss_delay old.rtt)) old.sent new.sent l.lost.taken old.streams new.streams old.next_number l.lost.packets (lost_leave old.streams new.streams (frames_out l.lost.taken) l.lost.frames) p.in_packets);
      out = carried_fewer old new (lost_fewer largest now old new l) p.out;
    }

    pings_next : (p : Probe) (s : DataSpace) → (pings_after p s).next_number ≡ s.next_number
    pings_next probe.Stream s = refl
    pings_next probe.Others s = refl
    pings_next probe.Ping s = refl

    pings_same : (p : Probe) (s : DataSpace) → (pings_after p s).sent ≡ s.sent
    pings_same probe.Stream s = refl
    pings_same probe.Others s = refl
    pings_same probe.Ping s = refl

    pub probe_owing : (old new : DataSpace) → IsProbeDue old new → Owing old → Owing new
    probe_owing old new due p =
        let same : new.sent ≡ old.sent = ap (λ (s : DataSpace). s.sent) due.rest_is ∙ pings_same due.probe (record old { streams = new.streams; is_probe_due = true }) in
        let next_same : new.next_number ≡ old.next_number = ap (λ (s : DataSpace). s.next_number) due.rest_is ∙ pings_next due.probe (record old { streams = new.streams; is_probe_due = true }) in
        record {
          kept = by_probe (λ s. AreKept Byte End t s) (λ was s f lost. again Byte End t was s f lost) old new due p.kept;
          in_packets = rw (same, next_same) (by_probe (λ s. AreInPackets s old.sent old.next_number)
              (λ was s f lost q. kept_in was s old.sent old.next_number (no_more was s (λ o w. (lost_drops was s f lost o w).0)) q) old new due p.in_packets);
          out = subst (λ (l : Packets). AreOutCarried id_length side t l) (sym same) p.out;
        }

    pub aged_owing : (now : ℕ) (old new : DataSpace) → AreLostByAge now old new → Owing old → Owing new
    aged_owing now old new (due_lost moment largest is before acked lost) p = loss_owing largest now old new lost p
    aged_owing now old new (none_lost later e) p = subst Owing (sym e) p

    pub probed_owing : (now : ℕ) (old new : DataSpace) → IsProbed now old new → Owing old → Owing new
    probed_owing now old new (due_probe moment is before due) p = probe_owing old new due p
    probed_owing now old new (no_probe later e) p = subst Owing (sym e) p

    -- ---- a packet that was accepted

    module _ (packet : Packet) (among : In packet accepted) (space_is : packet.space ≡ Data) where
      acknowledges : (f : QuicFrame) (n : ℕ) → In f packet.frames → Covers f n → IsAcknowledged accepted n
      acknowledges f n is covers = record { packet = packet; among = among; space_is = space_is; frame = f; frame_among = is; covers = covers }

      -- a frame is paid whose packet it acknowledges
      paid : (n : ℕ) (f : SentFrame) → IsAcknowledged accepted n → IsFrameCarried id_length side t n f → IsPaid Byte End t f
      paid n (sent.Stream id piece) acked c =
          let r = c.1 in
          let first = r.from in
          let last = r.to in (
            c.0,
            (λ k low high. record { number = n; run = r.run; has = r.has; stream_is = r.stream_is; from = omega (arith, first, low); to = omega (arith, last, high); acknowledged = acked }),
            (λ fin. record { number = n; run = r.run; has = r.has; stream_is = r.stream_is; fin = r.fin ∙ fin; acknowledged = acked }),
          )
      paid n (sent.ResetStream id reset_frame) acked c = c
      paid n (sent.StopSending id code) acked c = c
      paid n (sent.MaxData limit) acked c = c
      paid n (sent.MaxStreamData id limit) acked c = c
      paid n (sent.MaxStreams dir count) acked c = c

      acks_owing : (now : ℕ) (old new : DataSpace) (a : Ack) (frame : QuicFrame) → written_form frame ≡ ack_of a → In frame packet.frames → IsAckReceived now old new a → Owing old → Owing new
      acks_owing now old new a frame form is r p = loss_owing (greatest_of old.largest_acked a.greatest) now r.mid new r.lost (record {
        kept = all_acked Byte End t old.streams r.mid.streams (frames_out r.taken.taken) r.taken.frames all_paid p.kept;
        in_packets = subst (λ (n : ℕ). AreInPackets r.mid.streams r.mid.sent n) (sym (ap (λ (s : DataSpace). s.next_number) r.mid_is))
            (taken_in (λ k q. Covers (ack_of a) k) old.sent r.mid.sent r.taken.taken old.streams r.mid.streams old.next_number r.taken.packets (acked_leave old.streams r.mid.streams (frames_out r.taken.taken) r.taken.frames) p.in_packets);
        out = λ n q f there within. p.out n q f (((r.taken.packets.left n q).0 there).0) within;
      }) where
        all_paid : (f : SentFrame) → In f (frames_out r.taken.taken) → IsPaid Byte End t f
        all_paid f within =
            let e = in_frames r.taken.taken f within in
            let so = all_at (λ e. (packet_at old.sent e.0 ≡ Some e.1) × Covers (ack_of a) e.0) r.taken.taken r.taken.packets.are_so e.0 e.1 in
            paid e.0.0 f (acknowledges frame e.0.0 is (covered_form frame e.0.0 (subst (λ (g : QuicFrame). Covers g e.0.0) (sym form) so.1))) (p.out e.0.0 e.0.1 f so.0 e.2)

      coming_free : (s : DataSpace) (f : Frame) (c : StreamFrame) → coming_of f ≡ Some c → frame_refusal s f ≡ None → refusal_of s.streams c ≡ None
      coming_free s f c is free = elim (speaks f) [
        | inl (d, of) ↦ subst (λ (x : StreamFrame). refusal_of s.streams x ≡ None) (some_is d c (sym of.is ∙ is)) (sym (of.refusal s) ∙ free)
        | inr none ↦ none_some _ (coming_of f) c none.none is
      ]

      frame_owing : (now : ℕ) (old new : DataSpace) (f : Frame) (frame : QuicFrame) (closed : Option ConnectionError) → closed ≡ None → written_form frame ≡ plain_of f → In frame packet.frames
          → frame_refusal old f ≡ None → IsFrameTaken now old new f closed → Owing old → Owing new
      frame_owing now old new f frame closed still form is free (passive _ idle e) p = subst Owing (sym e) p
      frame_owing now old new f frame closed still form is free (of_streams _ c speaks r e) p =
          subst Owing (sym e) (record { kept = received Byte End t old.streams new.streams c (coming_free old f c speaks free) r p.kept; in_packets = kept_in old.streams new.streams old.sent old.next_number (no_more old.streams new.streams (received_keeps old.streams new.streams c r)) p.in_packets; out = p.out })
      frame_owing now old new f frame closed still form is free (of_ack a r) p = acks_owing now old new a frame form is r p
      frame_owing now old new f frame closed still form is free (challenge bytes e) p = subst Owing (sym e) (record { kept = p.kept; in_packets = p.in_packets; out = p.out })
      frame_owing now old new f frame closed still form is free (close _ error by e) p = absurd (cc)

      -- the frames of the bytes, and what taking them leaves
      record AreTakenOver (bytes : List ℕ) (old new : DataSpace) : Type 0 where
        frames : List QuicFrame
        are : AreQuicFrames bytes frames
        owing : ((f : QuicFrame) → In f frames → In f packet.frames) → Owing old → Owing new

      taken_over : (now : ℕ) (bytes : List ℕ) (old new : DataSpace) (taken : List Frame) (end : Option ConnectionError) → AreFramesTaken now bytes old new taken end → end ≡ None → AreTakenOver bytes old new
      taken_over now bytes old new taken end (none_taken _) still = record { frames = []; are = refl; owing = λ part p. p }
      taken_over now bytes old new taken end (more_taken _ rest f _ mid _ others _ begins free step behind) still =
          let r = taken_over now rest mid new others end behind still in
          record {
            frames = begins.frame ∷ r.frames;
            are = (rest, begins.is, r.are);
            owing = λ part p. r.owing (λ g within. part g (inr within)) (frame_owing now old mid f begins.frame None refl begins.form_is (part begins.frame (inl refl)) free step p);
          }
      taken_over now bytes old new taken end (closed_by _ rest f _ _ e begins free step) still = absurd (cc)
      taken_over now bytes old new taken end (refused_at _ rest f _ e begins named fault) still = absurd (cc)

      pub frames_owing : (now : ℕ) (bytes : List ℕ) (old new : DataSpace) (taken : List Frame) → AreFramesTaken now bytes old new taken None → AreQuicFrames bytes packet.frames → Owing old → Owing new
      frames_owing now bytes old new taken are reading p =
          let r = taken_over now bytes old new taken None are refl in
          let same = quic_frames_agree bytes r.frames packet.frames r.are reading in
          r.owing (λ f within. subst (λ (fs : List QuicFrame). In f fs) same within) p
