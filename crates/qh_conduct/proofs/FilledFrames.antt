-- The STREAM frames of a datagram that is made have a byte, or the end.
use Rattle.std.proofs.Common.{◌≡◌, ◌⊎◌, ℕ, ◌-◌, ◌<◌, ◌^◌, ◌==◌, Bool, true, false, List, [], ◌∷◌, ◌++◌, length, Option, Some, None, if◌then◌else◌, refl, sym, ap, subst, ◌∙◌, inl, inr, arith, append_assoc}
use Rattle.std.specs.Prelude.{MatchBool, Ok, drop}
use Rattle.std.proofs.Math.Seq.{drop-append_seam}
use Rattle.std.proofs.lemmas.Bool.{both_ways, eq-eqb}
use Rattle.std.proofs.lemmas.List.{append-nil, append_cancel_left}
use Rattle.std.proofs.lemmas.Option.{same_Some}
use Rattle.qh_base.specs.declared.path.Transmit.{Transmit}
use Rattle.qh_base.specs.declared.time.Moment.{Moment}
use Rattle.qh_conduct.specs.Announced.{MakesTags}
use Rattle.qh_conduct.specs.Filled.{AreFilled}
use Rattle.qh_core.proofs.ControlFrames.{control_frames, control_silent, of_each}
use Rattle.qh_core.specs.Control.{control_frame}
use Rattle.qh_core.specs.Follows.{HasSomething, transmit_acts}
use Rattle.qh_core.specs.Inner.{IsSameEnd, is_open}
use Rattle.qh_core.specs.Sending.{AreFramesMade, ClosesReadBack, IsDatagramMade, close_frame, datagram_of, overhead}
use Rattle.qh_core.specs.Sending.AreFramesMade.{packet as packet_made, control as control_made, close as close_made}
use Rattle.qh_core.specs.declared.inner.Inner.{Inner}
use Rattle.qh_core.specs.declared.state.Close.{Close}
use Rattle.qh_core.specs.declared.state.Close.TheVariants.{Application, Connection}
use Rattle.qh_core.specs.declared.state.State.{State}
use Rattle.qh_frame.proofs.FramesWritten.{ping_put}
use Rattle.qh_frame.specs.AckWritten.{ack_frame}
use Rattle.qh_frame.specs.FrameBytes.{frame_bytes, numbers_bytes}
use Rattle.qh_frame.specs.Plain.{frame}
use Rattle.qh_frame.specs.declared.ack.AckRange.{AckRange}
use Rattle.qh_half.specs.Send.{PlainSend}
use Rattle.qh_halves.specs.SendHalves.{PlainSendHalves, GivesPiece, IsStep, send_at}
use Rattle.qh_packet.proofs.Packets.{only_content}
use Rattle.qh_buffers.specs.Ranges.{PlainRange}
use Rattle.qh_recovery.specs.PendingAcks.{IsAckPut}
use Rattle.qh_space.specs.Sending.{AreElicitingPut, IsPacketMade, ReadsBack, bytes_if, may_elicit, ping_bytes, response_bytes}
use Rattle.qh_space.specs.declared.data_space.DataSpace.{DataSpace}
use Rattle.qh_spec.proofs.FrameLaws.{quic_frames_agree}
use Rattle.qh_spec.proofs.Members.{in_more}
use Rattle.qh_spec.proofs.PacketLaws.{tag_length}
use Rattle.qh_spec.proofs.TranscriptLaws.{handed_out-append}
use Rattle.qh_spec.specs.Carried.{HasRun}
use Rattle.qh_spec.specs.FrameViews.{stream_of}
use Rattle.qh_spec.specs.Lists.{In}
use Rattle.qh_spec.specs.QuicFrame.{StreamFrame as Run}
use Rattle.qh_spec.specs.QuicFrames.{QuicFrame, AreQuicFrames, Text}
use Rattle.qh_spec.specs.Transcript.{Act, HandedOut, handed_out}
use Rattle.qh_spec.specs.declared.sides.Dir.TheVariants.{Bi, Uni}
use Rattle.qh_spec.specs.declared.sides.Side.{Side}
use Rattle.qh_spec.specs.declared.sides.Space.{Space}
use Rattle.qh_spec.specs.declared.sides.Space.TheVariants.{Data}
use Rattle.qh_streams.proofs.StreamsWritten.{piece_length}
use Rattle.qh_streams.specs.Streams.{PlainStreams, AreWritten, IsHandedOver, IsReadBack, half_bytes, max_frame_header, written_frame}
use Rattle.qh_streams.specs.Streams.AreWritten.{none as none_written, more as more_written}
use Rattle.qh_streams.specs.Streams.IsHandedOver.{stream as stream_handed, reset as reset_handed, stop as stop_handed, max_stream_data as max_stream_data_handed, max_data as max_data_handed, max_streams as max_streams_handed}
use Rattle.qh_streams.specs.declared.frames.SentFrame.{SentFrame}
use Rattle.qh_streams.specs.declared.frames.SentFrame.TheVariants as sent
use Rattle.qh_half.specs.declared.send.Outgoing.{Outgoing}
use Rattle.qh_transcript.proofs.SendingFrames.{form_carries}

-- ---- its frames

-- a STREAM frame has something
abbrev IsFilled : QuicFrame → Type 0
IsFilled q = (run : Run) → stream_of q ≡ Some run → HasSomething run

no_stream : (q : QuicFrame) → stream_of q ≡ None → IsFilled q
no_stream q none run is = let both : ◌≡◌ {A = Option Run} None (Some run) = sym none ∙ is in absurd (cc)

step_next : {P : PlainSend → PlainSend → Type 0} (old new : PlainSendHalves) (id n : ℕ) → (s : IsStep P old new id n) → send_at new id ≡ Some s.next
step_next old new id n s = s.is.halves_are id ∙ ap (λ (b : Bool). if b then Some s.next else send_at old id) (eq-eqb id id refl)

gives_filled : (room : ℕ) (piece : Outgoing) (h next : PlainSend) → GivesPiece room piece h next → (0 < length (half_bytes (Some next) piece)) ⊎ (piece.fin ≡ true)
gives_filled room piece h next (inl p) =
    let long = piece_length (Some next) piece p.held in
    let some = p.bytes_are.some in
    inl (omega (arith, long, some))
gives_filled room piece h next (inr p) = inr p.fin_is

handed_filled : (old mid : PlainStreams) (room : ℕ) (f : SentFrame) → IsHandedOver old mid room f → IsFilled (written_frame mid f)
handed_filled old mid room f (stream_handed id piece next rest) = λ run is.
    let s = next.step in
    let carries = form_carries (piece.offsets.start == 0) piece.fin id.0 piece.offsets.start (half_bytes (send_at mid.send id.0) piece) refl in
    let same : record { id = id.0; offset = piece.offsets.start; payload = half_bytes (send_at mid.send id.0) piece; fin = piece.fin } ≡ run = same_Some _ run (sym carries ∙ is) in
    let half = step_next old.send mid.send id.0 0 s in
    let something : (0 < length (half_bytes (send_at mid.send id.0) piece)) ⊎ (piece.fin ≡ true) = rw half (gives_filled (room - max_frame_header) piece s.half s.next s.step) in
    subst (λ (r : Run). HasSomething r) same something
handed_filled old mid room f (reset_handed id frame_of next rest) = no_stream (written_frame mid (sent.ResetStream id frame_of)) refl
handed_filled old mid room f (stop_handed id code step rest) = no_stream (written_frame mid (sent.StopSending id code)) refl
handed_filled old mid room f (max_stream_data_handed id limit step rest) = no_stream (written_frame mid (sent.MaxStreamData id limit)) refl
handed_filled old mid room f (max_data_handed limit is due rest) = no_stream (written_frame mid (sent.MaxData limit)) refl
handed_filled old mid room f (max_streams_handed Bi count is due rest) = no_stream (written_frame mid (sent.MaxStreams Bi count)) refl
handed_filled old mid room f (max_streams_handed Uni count is due rest) = no_stream (written_frame mid (sent.MaxStreams Uni count)) refl

ack_filled : (ranges : List AckRange) → IsFilled (ack_frame 0 ranges)
ack_filled [] = no_stream (ack_frame 0 []) refl
ack_filled (r ∷ more) = no_stream (ack_frame 0 (r ∷ more)) refl

close_filled : (reason : Close) → IsFilled (close_frame reason)
close_filled (Connection c) = no_stream (close_frame (Connection c)) refl
close_filled (Application a) = no_stream (close_frame (Application a)) refl

-- the bytes are frames that are so
record Filled (bytes : List ℕ) : Type 0 where
  frames : List QuicFrame
  are : AreQuicFrames bytes frames
  all : (q : QuicFrame) → In q frames → IsFilled q

none_filled : Filled []
none_filled = record { frames = []; are = refl; all = λ q among. absurd among }

one_filled : (q : QuicFrame) (more : List ℕ) → IsReadBack q → IsFilled q → Filled more → Filled (frame_bytes q ++ more)
one_filled q more back is b = record {
  frames = q ∷ b.frames;
  are = (more, back more, b.are);
  all = λ g among. elim among [ inl same ↦ subst (λ (h : QuicFrame). IsFilled h) same is | inr later ↦ b.all g later ];
}

ping_filled : (due : Bool) (more : List ℕ) → Filled more → Filled (bytes_if due ping_bytes ++ more)
ping_filled true more b = one_filled (frame 1 []) more (ping_put [] (numbers_bytes (1 ∷ [])) refl).is (no_stream (frame 1 []) refl) b
ping_filled false more b = b

response_filled : (due : Option (List ℕ)) (more : List ℕ) → ReadsBack due → Filled more → Filled (response_bytes due ++ more)
response_filled None more back b = b
response_filled (Some echoed) more back b = one_filled (frame 27 (Text echoed ∷ [])) more back (no_stream (frame 27 (Text echoed ∷ [])) refl) b

written_filled : (room : ℕ) (old new : PlainStreams) (fs : List SentFrame) (bytes : List ℕ) → AreWritten room old new fs bytes → Filled bytes
written_filled room old new fs bytes (none_written _ _) = none_filled
written_filled room old new fs bytes (more_written _ _ mid _ f gs rest handed fits back others) =
    one_filled (written_frame mid f) rest back (handed_filled old mid room f handed) (written_filled _ mid new gs rest others)

record FilledBehind (mid after : List ℕ) : Type 0 where
  bytes : List ℕ
  appended : after ≡ mid ++ bytes
  filled : Filled bytes

put_filled : (may : Bool) (room : ℕ) (old new : DataSpace) (mid after : List ℕ) (frames : List SentFrame) → MatchBool may (AreElicitingPut room old new mid after frames) ((new ≡ old) × (after ≡ mid))
    → FilledBehind mid after
put_filled true room old new mid after frames put =
    let w = put.streams in
    let pings = bytes_if old.is_ping_due ping_bytes in
    let due = response_bytes old.path_response in
    record {
      bytes = pings ++ (due ++ w.bytes);
      appended = w.out_is ∙ append_assoc mid (pings ++ due) w.bytes ∙ ap (λ (z : List ℕ). mid ++ z) (append_assoc pings due w.bytes);
      filled = ping_filled old.is_ping_due (due ++ w.bytes) (response_filled old.path_response w.bytes put.reads_back (written_filled _ old.streams new.streams w.frames w.bytes w.written));
    }
put_filled false room old new mid after frames none = record { bytes = []; appended = none.1 ∙ sym (append-nil mid); filled = none_filled }

acks_filled : (due : Bool) (ranges : List PlainRange) (before mid after : List ℕ) → MatchBool due (IsAckPut ranges before mid) (mid ≡ before) → FilledBehind mid after → FilledBehind before after
acks_filled true ranges before mid after put b = record {
  bytes = frame_bytes (ack_frame 0 put.ranges) ++ b.bytes;
  appended = b.appended ∙ (ap (λ (z : List ℕ). z ++ b.bytes) put.is_put.whole ∙ append_assoc before (frame_bytes (ack_frame 0 put.ranges)) b.bytes);
  filled = one_filled (ack_frame 0 put.ranges) b.bytes put.is_put.is (ack_filled put.ranges) b.filled;
}
acks_filled false ranges before mid after same b = record { bytes = b.bytes; appended = b.appended ∙ ap (λ (z : List ℕ). z ++ b.bytes) same; filled = b.filled }

packet_filled : (now around room : ℕ) (old new : DataSpace) (before after : List ℕ) → IsPacketMade now around room old new before after → FilledBehind before after
packet_filled now around room old new before after made =
    acks_filled old.acks.is_due old.acks.ranges before made.out_mid after made.ack
    (put_filled (may_elicit old) (room - (length made.out_mid - length before)) old made.mid made.out_mid after made.packet.frames.items made.eliciting)

open_reads_back : (state : State) → (is_open state ≡ true) ⊎ ClosesReadBack state → ClosesReadBack state
open_reads_back state (inl up) = λ reason until is. absurd (both_ways (is_open state) (ap is_open is) up)
open_reads_back state (inr back) = back

-- ---- the datagram

run_by : (own : ℕ) (xs ys : List (List ℕ)) (side : Side) (run : Run) → (q : HasRun own xs side run) → In q.datagram ys → HasRun own ys side run
run_by own xs ys side run q there = record { datagram = q.datagram; among = there; packet = q.packet; has = q.has; space_is = q.space_is; sender_is = q.sender_is; frame = q.frame; frame_among = q.frame_among; is = q.is }

module _ {S : Type 0} where
  record SameSender (old new : Inner S) : Type 0 where
    side : new.side ≡ old.side
    remote_length : length new.remote_id ≡ length old.remote_id

  frames_sender : (now : Moment) (old new : Inner S) (before frames : List ℕ) → AreFramesMade now old new before frames → SameSender old new
  frames_sender now old new before frames (packet_made up m e) = record { side = ap (λ (c : Inner S). c.side) e; remote_length = ap (λ (c : Inner S). length c.remote_id) e }
  frames_sender now old new before frames (control_made up m e) = record { side = ap (λ (c : Inner S). c.side) e; remote_length = ap (λ (c : Inner S). length c.remote_id) e }
  frames_sender now old new before frames (close_made reason until is bytes_are e) = record { side = ap (λ (c : Inner S). c.side) e; remote_length = ap (λ (c : Inner S). length c.remote_id) e }

  frames_filled : (now : Moment) (old new : Inner S) (before frames : List ℕ) → AreFramesMade now old new before frames → ClosesReadBack old.state → Filled frames
  frames_filled now old new before frames (packet_made up m e) back =
      let b = packet_filled now.0 (overhead old) (1200 - overhead old) old.space new.space before (before ++ frames) m in
      subst (λ (z : List ℕ). Filled z) (sym (append_cancel_left before frames b.bytes b.appended)) b.filled
  frames_filled now old new before frames (control_made up m e) back =
      let r = control_frames old.side old.config.peer_datagram frames m.control in
      record { frames = r.frames; are = r.are; all = of_each (λ (q : QuicFrame). IsFilled q) old.side old.config.peer_datagram frames r (λ g. no_stream (control_frame g) (control_silent g)) }
  frames_filled now old new before frames (close_made reason until is bytes_are e) back =
      subst (λ (z : List ℕ). Filled z) (append-nil (frame_bytes (close_frame reason)) ∙ sym bytes_are) (one_filled (close_frame reason) [] (back reason until is) (close_filled reason) none_filled)

  one_more : (sealed : Side → Space → ℕ → List ℕ) → MakesTags sealed → (old new : Inner S) (frames : List ℕ) (t : List Act) → old.space.next_number < 2 ^ 62 → SameSender old new → Filled frames → AreFilled old t
      → AreFilled new (t ++ HandedOut (datagram_of sealed old frames) ∷ [])
  one_more sealed tags old new frames t below same b before run has =
      let d = datagram_of sealed old frames in
      let q : HasRun (length old.remote_id) (handed_out (t ++ HandedOut d ∷ [])) old.side run =
      subst (λ (i : ℕ). HasRun i (handed_out (t ++ HandedOut d ∷ [])) old.side run) same.remote_length (subst (λ (x : Side). HasRun (length new.remote_id) (handed_out (t ++ HandedOut d ∷ [])) x run) same.side has) in
      elim (in_more q.datagram d (handed_out t) (subst (λ (l : List (List ℕ)). In q.datagram l) (handed_out-append t (HandedOut d ∷ [])) q.among)) [
        | inl earlier ↦ before run (run_by (length old.remote_id) (handed_out (t ++ HandedOut d ∷ [])) (handed_out t) old.side run q earlier)
        | inr last ↦
            let tag = sealed old.side Data old.space.next_number in
            let long = tag_length tag old.side Data old.space.next_number (tags old.side old.space.next_number below) in
            let only = only_content (length old.remote_id) old.space.next_number old.remote_id frames tag q.datagram q.packet refl long (sym last) q.has in
            let same_frames = quic_frames_agree frames q.packet.frames b.frames only.1 b.are in
            b.all q.frame (subst (λ (fs : List QuicFrame). In q.frame fs) same_frames q.frame_among) run q.is
      ]

  pub fresh_filled : (c : Inner S) → AreFilled c []
  fresh_filled c run has = absurd has.among

  pub quiet_filled : (old new : Inner S) (t u : List Act) → IsSameEnd old new → handed_out u ≡ [] → AreFilled old t → AreFilled new (t ++ u)
  quiet_filled old new t u same none before run has =
      let out : handed_out (t ++ u) ≡ handed_out t = handed_out-append t u ∙ ap (λ (l : List (List ℕ)). handed_out t ++ l) none ∙ append-nil (handed_out t) in
      before run (rw (← same.side, ← same.remote_length, ← out) has)

  pub made_filled : (sealed : Side → Space → ℕ → List ℕ) → MakesTags sealed → (now : Moment) (old new : Inner S) (before after : List ℕ) (transmit : Transmit) (t : List Act)
      → IsDatagramMade sealed now old new before after transmit → (is_open old.state ≡ true) ⊎ ClosesReadBack old.state → AreFilled old t
      → AreFilled new (t ++ transmit_acts before after (Ok (Some transmit)))
  made_filled sealed tags now old new before after transmit t m back p =
      let d = datagram_of sealed old m.bytes.frames in
      let behind : drop (length before) after ≡ d = ap (λ (z : List ℕ). drop (length before) z) m.bytes.after_is ∙ drop-append_seam before d in
      subst (λ (d : List ℕ). AreFilled new (t ++ HandedOut d ∷ [])) (sym behind)
      (one_more sealed tags old new m.bytes.frames t m.bytes.number (frames_sender now old new _ m.bytes.frames m.bytes.made) (frames_filled now old new _ m.bytes.frames m.bytes.made (open_reads_back old.state back)) p)
