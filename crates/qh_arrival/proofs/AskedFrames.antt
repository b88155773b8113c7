-- What the frames of a packet say of streams that are reset or stopped: each RESET_STREAM and STOP_SENDING was asked for.
use Rattle.std.proofs.Common.{◌≡◌, ℕ, ◌-◌, ◌≤◌, Bool, true, false, List, [], ◌∷◌, ◌++◌, length, Option, Some, None, refl, sym, ap, subst, ◌∙◌, inl, inr, append_assoc, arith}
use Rattle.std.specs.Prelude.{MatchBool}
use Rattle.std.proofs.lemmas.List.{append-nil}
use Rattle.qh_arrival.proofs.AsksNoMore.{AsksNoMore, handed_asks}
use Rattle.qh_arrival.specs.Asked.{AreAsked, stop_frame}
use Rattle.qh_buffers.specs.Ranges.{PlainRange}
use Rattle.qh_buffers.specs.declared.send_buffer.Mark.TheVariants.{Queued}
use Rattle.qh_conduct.proofs.FramesSay.{Between, ack_kind, close_kind, count_kind, exact_kind, form_kind, front_number, number_of, rest_of}
use Rattle.qh_conduct.specs.Sized.{reset_frame}
use Rattle.qh_core.proofs.ControlFrames.{control_frames, of_each}
use Rattle.qh_core.specs.Control.{AreControl, control_frame}
use Rattle.qh_core.specs.Sending.{close_frame}
use Rattle.qh_core.specs.declared.control.ControlFrame.{ControlFrame}
use Rattle.qh_core.specs.declared.control.ControlFrame.TheVariants.{NewToken, NewConnectionId, RetireConnectionId, Datagram}
use Rattle.qh_core.specs.declared.state.Close.{Close}
use Rattle.qh_frame.proofs.FramesWritten.{ping_put}
use Rattle.qh_frame.specs.AckWritten.{ack_frame}
use Rattle.qh_frame.specs.FrameBytes.{frame_bytes, numbers_bytes}
use Rattle.qh_frame.specs.Plain.{frame, by_dir}
use Rattle.qh_halves.specs.SendHalves.{send_at}
use Rattle.qh_recovery.specs.PendingAcks.{IsAckPut}
use Rattle.qh_space.specs.Sending.{AreElicitingPut, IsPacketMade, ReadsBack, bytes_if, may_elicit, ping_bytes, response_bytes}
use Rattle.qh_space.specs.declared.data_space.DataSpace.{DataSpace}
use Rattle.qh_spec.specs.Lists.{In}
use Rattle.qh_spec.specs.QuicFrames.{QuicFrame, Value, AreQuicFrames, Num, Text}
use Rattle.qh_spec.specs.Transcript.{Act, Reset, Stopped}
use Rattle.qh_spec.specs.declared.sides.Side.{Side}
use Rattle.qh_streams.specs.Streams.{PlainStreams, AreWritten, IsHandedOver, IsReadBack, half_bytes, written_frame}
use Rattle.qh_streams.specs.Streams.AreWritten.{none as none_written, more as more_written}
use Rattle.qh_streams.specs.Streams.IsHandedOver.{stream as stream_handed, reset as reset_handed, stop as stop_handed, max_stream_data as max_stream_data_handed, max_data as max_data_handed, max_streams as max_streams_handed}
use Rattle.qh_streams.specs.declared.frames.SentFrame.{SentFrame}

second_number : {kind a b m n : ℕ} {more others : List Value} → frame kind (Num a ∷ Num b ∷ more) ≡ frame kind (Num m ∷ Num n ∷ others) → b ≡ n
second_number e = ap (λ (g : QuicFrame). number_of (rest_of g.values)) e

pub asked_after : (old new : PlainStreams) (t : List Act) → AsksNoMore old new → AreAsked old t → AreAsked new t
asked_after old new t less p = record {
  resets = λ stream code is. p.resets stream code (less.resets stream code is);
  stops = λ stream code is. p.stops stream code (less.stops stream code is);
}

module _ (t : List Act) where
  -- a frame that resets or stops was asked for
  pub record IsSaid (f : QuicFrame) : Type 0 where
    pub resets : (stream code size : ℕ) → f ≡ reset_frame stream code size → In (Reset stream code) t
    pub stops : (stream code : ℕ) → f ≡ stop_frame stream code → In (Stopped stream code) t

  -- one of another kind is neither
  other_kind : (f : QuicFrame) (low high : ℕ) → Between low high f.kind → (low ≤ 5 → 4 ≤ high → ⊥) → IsSaid f
  other_kind f low high between none =
      let above = between.0 in
      let below = between.1 in
      record {
        resets = λ stream code size e. let kind : f.kind ≡ 4 = ap (λ (g : QuicFrame). g.kind) e in absurd (none (omega (arith, above, kind)) (omega (arith, below, kind)));
        stops = λ stream code e. let kind : f.kind ≡ 5 = ap (λ (g : QuicFrame). g.kind) e in absurd (none (omega (arith, above, kind)) (omega (arith, below, kind)));
      }

  later_kind : (f : QuicFrame) (low high : ℕ) → Between low high f.kind → 6 ≤ low → IsSaid f
  later_kind f low high between far = other_kind f low high between (λ below above. absurd (omega (arith, far, below)))

  later_frame : (kind : ℕ) (values : List Value) → 6 ≤ kind → IsSaid (frame kind values)
  later_frame kind values far = later_kind (frame kind values) kind kind (exact_kind (frame kind values) kind values refl) far

  first_kind : (f : QuicFrame) (low high : ℕ) → Between low high f.kind → high ≤ 3 → IsSaid f
  first_kind f low high between near = other_kind f low high between (λ below above. absurd (omega (arith, near, above)))

  -- ---- a frame that is handed over

  reset_said : (id code size : ℕ) → In (Reset id code) t → IsSaid (reset_frame id code size)
  reset_said id code size asked = record {
    resets = λ stream other last e.
        let id_is : id ≡ stream = front_number e in
        let code_is : code ≡ other = second_number e in
        subst (λ (n : ℕ). In (Reset n other) t) id_is (subst (λ (n : ℕ). In (Reset id n) t) code_is asked);
    stops = λ stream other e. let kind : 4 ≡ 5 = ap (λ (g : QuicFrame). g.kind) e in absurd (omega (arith, kind));
  }

  stop_said : (id code : ℕ) → In (Stopped id code) t → IsSaid (stop_frame id code)
  stop_said id code asked = record {
    resets = λ stream other last e. let kind : 5 ≡ 4 = ap (λ (g : QuicFrame). g.kind) e in absurd (omega (arith, kind));
    stops = λ stream other e.
        let id_is : id ≡ stream = front_number e in
        let code_is : code ≡ other = second_number e in
        subst (λ (n : ℕ). In (Stopped n other) t) id_is (subst (λ (n : ℕ). In (Stopped id n) t) code_is asked);
  }

  handed_said : (old mid : PlainStreams) (room : ℕ) (f : SentFrame) → AreAsked old t → IsHandedOver old mid room f → IsSaid (written_frame mid f)
  handed_said old mid room f p (stream_handed id piece next rest) =
      later_kind _ 10 15 (form_kind _ (record { id = id.0; offset = piece.offsets.start; payload = half_bytes (send_at mid.send id.0) piece; fin = piece.fin }) refl) (omega arith)
  handed_said old mid room f p (reset_handed id r next rest) =
      reset_said id.0 r.code r.final_size (p.resets id.0 r.code (record { half = next.step.half; is = next.step.was; mark = Queued; state = next.step.step.0 }))
  handed_said old mid room f p (stop_handed id code step rest) =
      stop_said id.0 code (p.stops id.0 code (record { half = step.half; is = step.was; frame = record { code = code; mark = Queued }; frame_is = step.step.1; code_is = refl }))
  handed_said old mid room f p (max_stream_data_handed id limit step rest) = later_frame 17 (Num id.0 ∷ Num limit ∷ []) (omega arith)
  handed_said old mid room f p (max_data_handed limit is due rest) = later_frame 16 (Num limit ∷ []) (omega arith)
  handed_said old mid room f p (max_streams_handed dir count is due rest) =
      later_kind (frame (by_dir dir 18 19) (Num count ∷ [])) 18 19 (count_kind (frame (by_dir dir 18 19) (Num count ∷ [])) dir count refl) (omega arith)

  -- ---- the frames of a packet

  -- the bytes are frames that were asked for
  pub record AreSaid (bytes : List ℕ) : Type 0 where
    pub frames : List QuicFrame
    pub are : AreQuicFrames bytes frames
    pub said : (f : QuicFrame) → In f frames → IsSaid f

  pub close_said : (reason : Close) → IsSaid (close_frame reason)
  close_said reason = later_kind (close_frame reason) 28 29 (close_kind (close_frame reason) reason refl) (omega arith)

  control_said : (g : ControlFrame) → IsSaid (control_frame g)
  control_said (NewToken token) = later_frame 7 _ (omega arith)
  control_said (NewConnectionId sequence prior id reset_token) = later_frame 24 _ (omega arith)
  control_said (RetireConnectionId sequence) = later_frame 25 _ (omega arith)
  control_said (Datagram payload) = later_frame 49 _ (omega arith)

  -- frames of the connection's own neither reset nor stop
  pub controls_said : (side : Side) (peer_datagram : Option ℕ) (bytes : List ℕ) → AreControl side peer_datagram bytes → AreSaid bytes
  controls_said side peer_datagram bytes control =
      let c = control_frames side peer_datagram bytes control in
      record { frames = c.frames; are = c.are; said = of_each IsSaid side peer_datagram bytes c control_said }

  none_said : AreSaid []
  none_said = record { frames = []; are = refl; said = λ f among. absurd among }

  one_said : (f : QuicFrame) (more : List ℕ) → IsReadBack f → IsSaid f → AreSaid more → AreSaid (frame_bytes f ++ more)
  one_said f more back is b = record {
    frames = f ∷ b.frames;
    are = (more, back more, b.are);
    said = λ g among. elim among [ inl same ↦ subst (λ (h : QuicFrame). IsSaid h) same is | inr later ↦ b.said g later ];
  }

  ping_said : (due : Bool) (more : List ℕ) → AreSaid more → AreSaid (bytes_if due ping_bytes ++ more)
  ping_said true more b = one_said (frame 1 []) more (ping_put [] (numbers_bytes (1 ∷ [])) refl).is (first_kind (frame 1 []) 1 1 (exact_kind (frame 1 []) 1 [] refl) (omega arith)) b
  ping_said false more b = b

  response_said : (due : Option (List ℕ)) (more : List ℕ) → ReadsBack due → AreSaid more → AreSaid (response_bytes due ++ more)
  response_said None more back b = b
  response_said (Some echoed) more back b = one_said (frame 27 (Text echoed ∷ [])) more back (later_frame 27 (Text echoed ∷ []) (omega arith)) b

  written_said : (room : ℕ) (old new : PlainStreams) (fs : List SentFrame) (bytes : List ℕ) → AreWritten room old new fs bytes → AreAsked old t → AreSaid bytes
  written_said room old new fs bytes (none_written _ _) p = none_said
  written_said room old new fs bytes (more_written _ _ mid _ f gs rest handed fits back others) p =
      one_said (written_frame mid f) rest back (handed_said old mid room f p handed)
      (written_said _ mid new gs rest others (asked_after old mid t (handed_asks old mid room f handed) p))

  -- what is appended behind the ACK
  pub record AreBehind (mid after : List ℕ) : Type 0 where
    pub bytes : List ℕ
    pub appended : after ≡ mid ++ bytes
    pub said : AreSaid bytes

  put_said : (may : Bool) (room : ℕ) (old new : DataSpace) (mid after : List ℕ) (frames : List SentFrame) → MatchBool may (AreElicitingPut room old new mid after frames) ((new ≡ old) × (after ≡ mid))
      → AreAsked old.streams t → AreBehind mid after
  put_said true room old new mid after frames put p =
      let w = put.streams in
      let pings = bytes_if old.is_ping_due ping_bytes in
      let due = response_bytes old.path_response in
      record {
        bytes = pings ++ (due ++ w.bytes);
        appended = w.out_is ∙ append_assoc mid (pings ++ due) w.bytes ∙ ap (λ (z : List ℕ). mid ++ z) (append_assoc pings due w.bytes);
        said = ping_said old.is_ping_due (due ++ w.bytes) (response_said old.path_response w.bytes put.reads_back (written_said _ old.streams new.streams w.frames w.bytes w.written p));
      }
  put_said false room old new mid after frames none p = record { bytes = []; appended = none.1 ∙ sym (append-nil mid); said = none_said }

  ack_said : (due : Bool) (ranges : List PlainRange) (before mid after : List ℕ) → MatchBool due (IsAckPut ranges before mid) (mid ≡ before) → AreBehind mid after → AreBehind before after
  ack_said true ranges before mid after put b = record {
    bytes = frame_bytes (ack_frame 0 put.ranges) ++ b.bytes;
    appended = b.appended ∙ (ap (λ (z : List ℕ). z ++ b.bytes) put.is_put.whole ∙ append_assoc before (frame_bytes (ack_frame 0 put.ranges)) b.bytes);
    said = one_said (ack_frame 0 put.ranges) b.bytes put.is_put.is (first_kind (ack_frame 0 put.ranges) 2 2 (ack_kind (ack_frame 0 put.ranges) put.ranges refl) (omega arith)) b.said;
  }
  ack_said false ranges before mid after same b = record { bytes = b.bytes; appended = b.appended ∙ ap (λ (z : List ℕ). z ++ b.bytes) same; said = b.said }

  -- the frames of a packet that is made
  pub packet_said : (now around room : ℕ) (old new : DataSpace) (before after : List ℕ) → IsPacketMade now around room old new before after → AreAsked old.streams t → AreBehind before after
  packet_said now around room old new before after made p =
      ack_said old.acks.is_due old.acks.ranges before made.out_mid after made.ack
      (put_said (may_elicit old) (room - (length made.out_mid - length before)) old made.mid made.out_mid after made.packet.frames.items made.eliciting p)
