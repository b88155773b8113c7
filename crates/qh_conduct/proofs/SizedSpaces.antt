-- What a step of the space leaves of how many bytes were taken of each writer, and what the frames of a packet say of that.
use Rattle.std.proofs.Common.{◌≡◌, ℕ, ◌-◌, ◌≤◌, nat_lt, Bool, true, false, List, [], ◌∷◌, ◌++◌, length, Option, Some, None, refl, sym, ap, subst, ◌∙◌, inl, inr, append_assoc, arith}
use Rattle.std.specs.Prelude.{MatchBool}
use Rattle.std.proofs.lemmas.Bool.{cases_Bool, eq-eqb}
use Rattle.std.proofs.lemmas.List.{append-nil}
use Rattle.qh_base.specs.declared.connection_error.ConnectionError.{ConnectionError}
use Rattle.qh_base.specs.declared.stream_id.StreamId.{StreamId}
use Rattle.qh_buffers.specs.Ranges.{PlainRange}
use Rattle.qh_buffers.specs.declared.send_buffer.Mark.{Mark}
use Rattle.qh_buffers.specs.declared.send_buffer.Mark.TheVariants.{Sent}
use Rattle.qh_conduct.proofs.FramesSay.{Between, ack_kind, close_kind, count_kind, form_kind, front_number, number_of, rest_of}
use Rattle.qh_conduct.proofs.StreamsGoOn.{handed_goes}
use Rattle.qh_conduct.proofs.TakenOn.{TakenOn, acked_taken_on, closed_after, handed_taken_on, lost_taken_on, received_taken, self_taken, taken_after, taken_on}
use Rattle.qh_conduct.specs.Sized.{AreTaken, IsClosedAt, reset_frame}
use Rattle.qh_core.specs.Control.{control_frame}
use Rattle.qh_core.specs.Receiving.{AreFramesTaken}
use Rattle.qh_core.specs.Receiving.AreFramesTaken.{none as none_taken, more as more_taken, closed as closed_by, refused as refused_at}
use Rattle.qh_core.specs.Timers.{AreLostByAge, IsProbed}
use Rattle.qh_core.specs.Timers.AreLostByAge.{due as age_due, not_yet as age_not_yet}
use Rattle.qh_core.specs.Timers.IsProbed.{due as probe_due, not_yet as probe_not_yet}
use Rattle.qh_core.specs.Sending.{close_frame}
use Rattle.qh_core.specs.declared.control.ControlFrame.{ControlFrame}
use Rattle.qh_core.specs.declared.control.ControlFrame.TheVariants.{NewToken, NewConnectionId, RetireConnectionId, Datagram}
use Rattle.qh_core.specs.declared.state.Close.{Close}
use Rattle.qh_frame.proofs.FramesWritten.{ping_put}
use Rattle.qh_frame.specs.AckWritten.{ack_frame}
use Rattle.qh_frame.specs.FrameBytes.{frame_bytes, numbers_bytes}
use Rattle.qh_frame.specs.Plain.{frame, by_dir}
use Rattle.qh_frame.specs.declared.frame.Frame.{Frame}
use Rattle.qh_half.specs.Send.{PlainSend, is_reset, with_reset_mark}
use Rattle.qh_half.specs.declared.send.SendState.{SendState}
use Rattle.qh_half.specs.declared.send.SendState.TheVariants.{ResetSent}
use Rattle.qh_half.specs.declared.send.ResetFrame.{ResetFrame}
use Rattle.qh_halves.specs.SendHalves.{IsSentNext, send_at}
use Rattle.qh_halves.specs.declared.send_halves.Transmission.TheVariants.{Reset}
use Rattle.qh_history.proofs.Carried.{by_frame, by_loss, by_packet, by_probe}
use Rattle.qh_recovery.specs.PendingAcks.{IsAckPut}
use Rattle.qh_recovery.specs.declared.sent_packets.SentPacket.{SentPacket}
use Rattle.qh_space.specs.Receiving.{IsFrameTaken, frame_refusal}
use Rattle.qh_space.specs.Sending.{AreElicitingPut, IsPacketMade, ReadsBack, bytes_if, may_elicit, ping_bytes, response_bytes, with_sent}
use Rattle.qh_space.specs.declared.data_space.DataSpace.{DataSpace}
use Rattle.qh_spec.specs.Lists.{In}
use Rattle.qh_spec.specs.QuicFrames.{QuicFrame, Value, AreQuicFrames, Num, Text}
use Rattle.qh_spec.specs.Transcript.{Act}
use Rattle.qh_streams.proofs.StreamsKept.{still_opened}
use Rattle.qh_streams.proofs.StreamsTracked.{step_goes}
use Rattle.qh_streams.specs.Streams.{PlainStreams, AreWritten, IsHandedOver, IsLostFrame, IsReadBack, half_bytes, max_frame_header, was_opened, written_frame}
use Rattle.qh_streams.specs.Streams.AreWritten.{none as none_written, more as more_written}
use Rattle.qh_streams.specs.Streams.IsHandedOver.{stream as stream_handed, reset as reset_handed, stop as stop_handed, max_stream_data as max_stream_data_handed, max_data as max_data_handed, max_streams as max_streams_handed}
use Rattle.qh_streams.specs.declared.frames.SentFrame.{SentFrame}

lost_on : (first old new : PlainStreams) (f : SentFrame) → IsLostFrame old new f → TakenOn first old → TakenOn first new
lost_on first old new f lost p = taken_on first old new (lost_taken_on old new f lost) p

handed_on : (first old new : PlainStreams) (room : ℕ) (f : SentFrame) → IsHandedOver old new room f → TakenOn first old → TakenOn first new
handed_on first old new room f handed p = taken_on first old new (handed_taken_on old new room f handed) p

-- ---- frames that come

frame_on : (now : ℕ) (old new : DataSpace) (f : Frame) (end : Option ConnectionError) → frame_refusal old f ≡ None → IsFrameTaken now old new f end → TakenOn old.streams new.streams
frame_on now old new f end free taken = by_frame (λ s. TakenOn old.streams s) (lost_on old.streams) (λ was s g a p. taken_on old.streams was s (acked_taken_on was s g a) p) now old new f end
    (λ c of r. received_taken old.streams new.streams c (sym (of.refusal old) ∙ free) r) (λ none. self_taken old.streams) taken

pub frames_on : (now : ℕ) (bytes : List ℕ) (old new : DataSpace) (taken : List Frame) (end : Option ConnectionError) → AreFramesTaken now bytes old new taken end → TakenOn old.streams new.streams
frames_on now bytes old new taken end (none_taken _) = self_taken old.streams
frames_on now bytes old new taken end (more_taken _ rest f _ mid _ later _ b free step t) =
    taken_on old.streams mid.streams new.streams (frames_on now rest mid new later end t) (frame_on now old mid f None free step)
frames_on now bytes old new taken end (closed_by _ rest f _ _ e b free step) = frame_on now old new f (Some e) free step
frames_on now bytes old new taken end (refused_at _ rest f _ e b n r) = self_taken old.streams

-- ---- what is due, and what is handed out

pub aged_on : (now : ℕ) (old new : DataSpace) → AreLostByAge now old new → TakenOn old.streams new.streams
aged_on now old new (age_due moment largest is by_now acked lost) = by_loss (λ s. TakenOn old.streams s) (lost_on old.streams) largest now old new lost (self_taken old.streams)
aged_on now old new (age_not_yet later e) = subst (λ (s : DataSpace). TakenOn old.streams s.streams) (sym e) (self_taken old.streams)

pub probed_on : (now : ℕ) (old new : DataSpace) → IsProbed now old new → TakenOn old.streams new.streams
probed_on now old new (probe_due moment is by_now due) = by_probe (λ s. TakenOn old.streams s) (lost_on old.streams) old new due (self_taken old.streams)
probed_on now old new (probe_not_yet later e) = subst (λ (s : DataSpace). TakenOn old.streams s.streams) (sym e) (self_taken old.streams)

pub made_on : (now around room : ℕ) (old new : DataSpace) (before after : List ℕ) → IsPacketMade now around room old new before after → TakenOn old.streams new.streams
made_on now around room old new before after made =
    by_packet (λ s. TakenOn old.streams s) (lost_on old.streams) (handed_on old.streams) now around room old new before after made (self_taken old.streams)

written_on : (room : ℕ) (old new : PlainStreams) (fs : List SentFrame) (bytes : List ℕ) → AreWritten room old new fs bytes → TakenOn old new
written_on room old new fs bytes (none_written _ _) = self_taken old
written_on room old new fs bytes (more_written _ _ mid _ f gs rest handed fits back others) = taken_on old mid new (written_on _ mid new gs rest others) (handed_taken_on old mid room f handed)

-- ---- a reset that is handed over

third_number : {kind a b m c d n : ℕ} → frame kind (Num a ∷ Num b ∷ Num m ∷ []) ≡ frame kind (Num c ∷ Num d ∷ Num n ∷ []) → m ≡ n
third_number e = ap (λ (g : QuicFrame). number_of (rest_of (rest_of g.values))) e

no_none : {X : Type 0} (o : Option X) (x : X) → o ≡ Some x → o ≡ None → ⊥
no_none o x some none = cc

opened_here : (s : PlainStreams) (t : List Act) (id : ℕ) (half : PlainSend) → AreTaken s t → send_at s.send id ≡ Some half → was_opened s id ≡ true
opened_here s t id half p is = elim (cases_Bool (was_opened s id)) [
  | inl opened ↦ opened
  | inr closed ↦ absurd (no_none (send_at s.send id) half is (p.unopened id closed).0)
]

reset_still : (state : SendState) (code : ℕ) (mark : Mark) → state ≡ ResetSent code mark → is_reset (with_reset_mark Sent state) ≡ true
reset_still state code mark is = ap (λ (s : SendState). is_reset (with_reset_mark Sent s)) is

module _ (s : PlainStreams) (t : List Act) where
  -- a frame that is a RESET_STREAM is right
  abbrev pub IsSaid : QuicFrame → Type 0
  IsSaid f = (stream code size : ℕ) → f ≡ reset_frame stream code size → IsClosedAt s t stream size

  other_kind : (f : QuicFrame) (low high : ℕ) → Between low high f.kind → (low ≤ 4 → 4 ≤ high → ⊥) → IsSaid f
  other_kind f low high between none stream code size e =
      let kind : f.kind ≡ 4 = ap (λ (g : QuicFrame). g.kind) e in
      let above = between.0 in
      let below = between.1 in
      absurd (none (omega (arith, above, kind)) (omega (arith, below, kind)))

  other_frame : (kind : ℕ) (values : List Value) → (kind ≡ 4 → ⊥) → IsSaid (frame kind values)
  other_frame kind values none stream code size e = absurd (none (ap (λ (g : QuicFrame). g.kind) e))

  reset_said : (old mid : PlainStreams) (room : ℕ) (id : StreamId) (r : ResetFrame) → AreTaken old t → IsSentNext old.send mid.send (room - max_frame_header) id.0 (Reset r) → mid ≡ record old { send = mid.send } → TakenOn mid s
      → IsSaid (reset_frame id.0 r.code r.final_size)
  reset_said old mid room id r p next rest go stream code size e =
      let id_is : id.0 ≡ stream = front_number e in
      let size_is : r.final_size ≡ size = third_number e in
      let later = (handed_goes old mid room _ (reset_handed id r next rest)).later in
      let at : IsClosedAt mid t id.0 r.final_size = record {
        size_is = next.step.step.1 ∙ p.halves id.0 next.step.half next.step.was;
        opened = still_opened later id.0 (opened_here old t id.0 next.step.half p next.step.was);
        reset = λ h is.
            let b = (step_goes next.step).here id.0 h (eq-eqb id.0 id.0 refl) is in
            ap (λ (h : PlainSend). is_reset h.state) b.step.2 ∙ reset_still b.half.state _ _ b.step.0;
      } in
      subst (λ (n : ℕ). IsClosedAt s t n size) id_is (subst (λ (n : ℕ). IsClosedAt s t id.0 n) size_is (closed_after mid s t id.0 r.final_size go at))

  handed_said : (old mid : PlainStreams) (room : ℕ) (f : SentFrame) → AreTaken old t → IsHandedOver old mid room f → TakenOn mid s → IsSaid (written_frame mid f)
  handed_said old mid room f p (stream_handed id piece next rest) go =
      other_kind _ 10 15 (form_kind _ (record { id = id.0; offset = piece.offsets.start; payload = half_bytes (send_at mid.send id.0) piece; fin = piece.fin }) refl) (λ low high. absurd (omega (arith, low)))
  handed_said old mid room f p (reset_handed id r next rest) go = reset_said old mid room id r p next rest go
  handed_said old mid room f p (stop_handed id code step rest) go = other_frame 5 (Num id.0 ∷ Num code ∷ []) (λ same. omega (arith, same))
  handed_said old mid room f p (max_stream_data_handed id limit step rest) go = other_frame 17 (Num id.0 ∷ Num limit ∷ []) (λ same. omega (arith, same))
  handed_said old mid room f p (max_data_handed limit is due rest) go = other_frame 16 (Num limit ∷ []) (λ same. omega (arith, same))
  handed_said old mid room f p (max_streams_handed dir count is due rest) go = other_kind (frame (by_dir dir 18 19) (Num count ∷ [])) 18 19 (count_kind (frame (by_dir dir 18 19) (Num count ∷ [])) dir count refl) (λ low high. absurd (omega (arith, low)))

  -- ---- the frames of a packet

  -- the bytes are frames that are right
  pub record AreSaid (bytes : List ℕ) : Type 0 where
    pub frames : List QuicFrame
    pub are : AreQuicFrames bytes frames
    pub said : (f : QuicFrame) → In f frames → IsSaid f

  pub close_said : (reason : Close) → IsSaid (close_frame reason)
  close_said reason = other_kind (close_frame reason) 28 29 (close_kind (close_frame reason) reason refl) (λ low high. absurd (omega (arith, low)))

  pub control_said : (g : ControlFrame) → IsSaid (control_frame g)
  control_said (NewToken token) = other_frame 7 (Text token ∷ []) (λ same. omega (arith, same))
  control_said (NewConnectionId sequence prior id reset_token) = other_frame 24 (Num sequence ∷ Num prior ∷ Text id ∷ Text reset_token.0 ∷ []) (λ same. omega (arith, same))
  control_said (RetireConnectionId sequence) = other_frame 25 (Num sequence ∷ []) (λ same. omega (arith, same))
  control_said (Datagram payload) = other_frame 49 (Text payload ∷ []) (λ same. omega (arith, same))

  none_said : AreSaid []
  none_said = record { frames = []; are = refl; said = λ f among. absurd among }

  one_said : (f : QuicFrame) (more : List ℕ) → IsReadBack f → IsSaid f → AreSaid more → AreSaid (frame_bytes f ++ more)
  one_said f more back is b = record {
    frames = f ∷ b.frames;
    are = (more, back more, b.are);
    said = λ g among. elim among [ inl same ↦ subst (λ (h : QuicFrame). IsSaid h) same is | inr later ↦ b.said g later ];
  }

  ping_said : (due : Bool) (more : List ℕ) → AreSaid more → AreSaid (bytes_if due ping_bytes ++ more)
  ping_said true more b = one_said (frame 1 []) more (ping_put [] (numbers_bytes (1 ∷ [])) refl).is (other_frame 1 [] (λ same. omega (arith, same))) b
  ping_said false more b = b

  response_said : (due : Option (List ℕ)) (more : List ℕ) → ReadsBack due → AreSaid more → AreSaid (response_bytes due ++ more)
  response_said None more back b = b
  response_said (Some echoed) more back b = one_said (frame 27 (Text echoed ∷ [])) more back (other_frame 27 (Text echoed ∷ []) (λ same. omega (arith, same))) b

  written_said : (room : ℕ) (old new : PlainStreams) (fs : List SentFrame) (bytes : List ℕ) → AreWritten room old new fs bytes → AreTaken old t → TakenOn new s → AreSaid bytes
  written_said room old new fs bytes (none_written _ _) p go = none_said
  written_said room old new fs bytes (more_written _ _ mid _ f gs rest handed fits back others) p go =
      one_said (written_frame mid f) rest back (handed_said old mid room f p handed (taken_on mid new s go (written_on _ mid new gs rest others)))
      (written_said _ mid new gs rest others (taken_after old mid t (handed_taken_on old mid room f handed) p) go)

  -- what is appended behind the ACK
  pub record AreBehind (mid after : List ℕ) : Type 0 where
    pub bytes : List ℕ
    pub appended : after ≡ mid ++ bytes
    pub said : AreSaid bytes

  put_said : (may : Bool) (room : ℕ) (old new : DataSpace) (mid after : List ℕ) (frames : List SentFrame) → MatchBool may (AreElicitingPut room old new mid after frames) ((new ≡ old) × (after ≡ mid))
      → AreTaken old.streams t → new.streams ≡ s → AreBehind mid after
  put_said true room old new mid after frames put p same =
      let w = put.streams in
      let pings = bytes_if old.is_ping_due ping_bytes in
      let due = response_bytes old.path_response in
      record {
        bytes = pings ++ (due ++ w.bytes);
        appended = w.out_is ∙ append_assoc mid (pings ++ due) w.bytes ∙ ap (λ (z : List ℕ). mid ++ z) (append_assoc pings due w.bytes);
        said = ping_said old.is_ping_due (due ++ w.bytes) (response_said old.path_response w.bytes put.reads_back
            (written_said _ old.streams new.streams w.frames w.bytes w.written p (subst (λ (x : PlainStreams). TakenOn new.streams x) same (self_taken new.streams))));
      }
  put_said false room old new mid after frames none p same = record { bytes = []; appended = none.1 ∙ sym (append-nil mid); said = none_said }

  ack_said : (due : Bool) (ranges : List PlainRange) (before mid after : List ℕ) → MatchBool due (IsAckPut ranges before mid) (mid ≡ before) → AreBehind mid after → AreBehind before after
  ack_said true ranges before mid after put b = record {
    bytes = frame_bytes (ack_frame 0 put.ranges) ++ b.bytes;
    appended = b.appended ∙ (ap (λ (z : List ℕ). z ++ b.bytes) put.is_put.whole ∙ append_assoc before (frame_bytes (ack_frame 0 put.ranges)) b.bytes);
    said = one_said (ack_frame 0 put.ranges) b.bytes put.is_put.is (other_kind (ack_frame 0 put.ranges) 2 2 (ack_kind (ack_frame 0 put.ranges) put.ranges refl) (λ low high. absurd (omega (arith, high)))) b.said;
  }
  ack_said false ranges before mid after same b = record { bytes = b.bytes; appended = b.appended ∙ ap (λ (z : List ℕ). z ++ b.bytes) same; said = b.said }

sent_streams : (s : DataSpace) (packet : SentPacket SentFrame) (is_eliciting : Bool) → (with_sent s packet is_eliciting).streams ≡ s.streams
sent_streams s packet true = refl
sent_streams s packet false = refl

-- the frames of a packet that is made
pub packet_said : (t : List Act) (now around room : ℕ) (old new : DataSpace) (before after : List ℕ) → IsPacketMade now around room old new before after → AreTaken old.streams t → AreBehind new.streams t before after
packet_said t now around room old new before after made p =
    let same : new.streams ≡ made.mid.streams = ap (λ (s : DataSpace). s.streams) made.new_is ∙ sent_streams made.mid made.packet (nat_lt (length made.out_mid) (length after)) in
    ack_said new.streams t old.acks.is_due old.acks.ranges before made.out_mid after made.ack
    (put_said new.streams t (may_elicit old) (room - (length made.out_mid - length before)) old made.mid made.out_mid after made.packet.frames.items made.eliciting p (sym same))
