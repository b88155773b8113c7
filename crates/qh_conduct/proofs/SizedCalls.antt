-- Each final size that was said stays right, whatever is done with the connection.
use Rattle.std.proofs.Common.{◌≡◌, ◌⊎◌, ℕ, ◌+◌, ◌-◌, ◌<◌, ◌^◌, Bool, true, false, List, [], ◌∷◌, ◌++◌, length, Option, Some, None, refl, sym, ap, subst, ◌∙◌, inl, inr, arith}
use Rattle.std.specs.Prelude.{MatchBool, Ok, drop}
use Rattle.std.proofs.Math.Seq.{drop-append_seam}
use Rattle.std.proofs.lemmas.List.{append-nil, append_cancel_left, length-append, nil_from_length}
use Rattle.qh_base.specs.declared.connection_error.ConnectionError.{ConnectionError}
use Rattle.qh_base.specs.declared.connection_error.ConnectionError.TheVariants.{LocallyClosed}
use Rattle.qh_base.specs.declared.path.Transmit.{Transmit}
use Rattle.qh_base.specs.declared.time.Moment.{Moment}
use Rattle.qh_conduct.proofs.AnnouncedCalls.{aside_step, IsQuietStep, closes_step, drained_open, drained_step, polled_step, timed_step, with_step}
use Rattle.qh_conduct.proofs.DatagramsKept.{open_reads_back}
use Rattle.qh_conduct.proofs.PacketsKept.{only_packet}
use Rattle.qh_conduct.proofs.SizedSpaces.{AreSaid, aged_on, close_said, control_said, frames_on, made_on, packet_said, probed_on}
use Rattle.qh_conduct.proofs.SpaceGoesOn.{bare_streams}
use Rattle.qh_conduct.proofs.StreamsReceive.{call_go}
use Rattle.qh_conduct.proofs.TakenOn.{TakenOn, IsWriting, call_view, closed_after, polled_taken, self_taken, taken_after, taken_on, written_closed, written_taken}
use Rattle.qh_conduct.proofs.TurnedAside.{IsAside}
use Rattle.qh_conduct.specs.Announced.{IsOver, MakesTags}
use Rattle.qh_conduct.specs.Calls.{IsCall}
use Rattle.qh_conduct.specs.Sized.{AreRight, AreTaken, HasReset, HasSized, IsClosedAt, MayWrite, Sized, WereRight, reset_frame, written_by}
use Rattle.qh_core.proofs.Acts.{last_or_before, one_datagram}
use Rattle.qh_core.proofs.ControlFrames.{control_frames, of_each}
use Rattle.qh_core.proofs.Ends.{ended_with, goes_on_space}
use Rattle.qh_core.proofs.Handed.{before_those, never_empty, same_out}
use Rattle.qh_core.specs.Event.{IsDrainedTold, IsPolledEvent}
use Rattle.qh_core.specs.Event.IsDrainedTold.{drained as drain_told, none as no_drain_told}
use Rattle.qh_core.specs.Event.IsPolledEvent.{stream, lost, none as nothing}
use Rattle.qh_core.specs.Follows.{HasFrame, event_acts, transmit_acts}
use Rattle.qh_core.specs.Inner.{IsFailedBy, IsNewSpace, is_open, with_streams}
use Rattle.qh_core.specs.Receiving.{GoesOnWith, IsClosedWith, IsDatagramTaken, IsEventTaken, IsPacketHandled, IsPacketTaken, received}
use Rattle.qh_core.specs.Receiving.IsDatagramTaken.{dropped, handled, told_again, closed_too, draining, drained}
use Rattle.qh_core.specs.Receiving.IsPacketHandled.{repeated, empty, faulty, unnoted, taken}
use Rattle.qh_core.specs.Sending.{AreFramesMade, ClosesReadBack, IsDatagramMade, NothingIsSent, close_frame, datagram_of, overhead}
use Rattle.qh_core.specs.Sending.AreFramesMade.{packet as packet_made, control as control_made, close as close_made}
use Rattle.qh_core.specs.Timers.{IsTimedOut, restarted}
use Rattle.qh_core.specs.Timers.IsTimedOut.{idle, recovery, closed, draining as draining_over, waits, drained as drained_still}
use Rattle.qh_core.specs.declared.event.ConnectionEvent.{ConnectionEvent}
use Rattle.qh_core.specs.declared.event.ConnectionEvent.TheVariants.{Datagram, Close}
use Rattle.qh_core.specs.declared.event.EndpointEvent.{EndpointEvent}
use Rattle.qh_core.specs.declared.event.Event.{Event}
use Rattle.qh_core.specs.declared.inner.Inner.{Inner}
use Rattle.qh_core.specs.declared.state.Close.{Close as CloseReason}
use Rattle.qh_core.specs.declared.state.State.{State}
use Rattle.qh_core.specs.declared.state.State.TheVariants.{Closed, Draining, Drained}
use Rattle.qh_frame.specs.FrameBytes.{frame_bytes}
use Rattle.qh_half.specs.Send.{PlainSend}
use Rattle.qh_halves.specs.SendHalves.{half_in}
use Rattle.qh_packet.specs.Packet.{header_bytes}
use Rattle.qh_space.specs.declared.data_space.DataSpace.{DataSpace}
use Rattle.qh_spec.proofs.Members.{in_more, in_right}
use Rattle.qh_spec.proofs.TranscriptLaws.{handed_out-append, written-append}
use Rattle.qh_spec.specs.Datagram.{Packet, HasPacket}
use Rattle.qh_spec.specs.Lists.{In}
use Rattle.qh_spec.specs.QuicFrames.{QuicFrame, IsQuicFrame}
use Rattle.qh_spec.specs.Tag.{IsTag}
use Rattle.qh_spec.specs.Transcript.{Act, HandedIn, HandedOut, handed_out, written}
use Rattle.qh_spec.specs.declared.sides.Side.{Side}
use Rattle.qh_spec.specs.declared.sides.Space.{Space}
use Rattle.qh_spec.specs.declared.sides.Space.TheVariants.{Data}
use Rattle.qh_streams.specs.Streams.{PlainStreams}

-- ---- what was written reads the same

taken_restated : (s : PlainStreams) (t u : List Act) → ((k : ℕ) → written u k ≡ written t k) → AreTaken s t → AreTaken s u
taken_restated s t u same p = record {
  halves = λ k h is. p.halves k h is ∙ ap length (sym (same k));
  unopened = λ k closed. let was = p.unopened k closed in (was.0, same k ∙ was.1);
}

closed_restated : (s : PlainStreams) (t u : List Act) (id size : ℕ) → ((k : ℕ) → written u k ≡ written t k) → IsClosedAt s t id size → IsClosedAt s u id size
closed_restated s t u id size same p = record { size_is = p.size_is ∙ ap length (sym (same id)); opened = p.opened; reset = p.reset }

same_written : (t u : List Act) → ((k : ℕ) → written u k ≡ []) → (k : ℕ) → written (t ++ u) k ≡ written t k
same_written t u none k = written-append t u k ∙ (ap (λ (l : List ℕ). written t k ++ l) (none k) ∙ append-nil (written t k))

no_half_taken : (s : PlainStreams) → s.send.halves ≡ [] → AreTaken s []
no_half_taken s none = record {
  halves = λ id h is. let there : half_in [] id ≡ Some h = subst (λ (l : List (ℕ × PlainSend)). half_in l id ≡ Some h) none is in absurd (cc);
  unopened = λ id closed. (rw none refl, refl);
}

-- the datagram was handed out
out_there : (t before after : List Act) (d x : List ℕ) → t ≡ before ++ HandedOut d ∷ after → In x (d ∷ []) → In x (handed_out t)
out_there t before after d x e is =
    let same : handed_out t ≡ handed_out before ++ d ∷ handed_out after = ap handed_out e ∙ handed_out-append before (HandedOut d ∷ after) in
    subst (λ (l : List (List ℕ)). In x l) (sym same) (in_right x (handed_out before) (d ∷ handed_out after) (elim is [ inl it ↦ inl it | inr none ↦ absurd none ]))

module _ {S : Type 0} where
  abbrev Stands : Inner S → List Act → Type 0
  Stands c t = Sized c t ⊎ (IsOver c × AreRight c t)

  abbrev Holds : Inner S → List Act → Type 0
  Holds c t = Stands c t × WereRight c t

  -- a frame that was handed out before, of the same end
  frame_before : (old new : Inner S) (before after : List (List ℕ)) (f : QuicFrame) → new.side ≡ old.side → length new.remote_id ≡ length old.remote_id → (h : HasFrame (length new.remote_id) after new.side f) → In h.datagram before
      → HasFrame (length old.remote_id) before old.side f
  frame_before old new before after f side remote h among = record {
    datagram = h.datagram;
    among = among;
    packet = h.packet;
    has = subst (λ (id : ℕ). HasPacket id h.packet h.datagram) remote h.has;
    space_is = h.space_is;
    sender_is = h.sender_is ∙ side;
    frame_among = h.frame_among;
  }

  reset_before : (old new : Inner S) (t u : List Act) (id code size : ℕ) → new.side ≡ old.side → length new.remote_id ≡ length old.remote_id → handed_out u ≡ handed_out t → HasReset new u id code size → HasReset old t id code size
  reset_before old new t u id code size side remote out h = frame_before old new (handed_out t) (handed_out u) (reset_frame id code size) side remote h (subst (λ (l : List (List ℕ)). In h.datagram l) out h.among)

  right : (c : Inner S) (t : List Act) → Stands c t → AreRight c t
  right c t (inl p) id code size h = (p.resets id code size h).size_is
  right c t (inr over) id code size h = over.1 id code size h

  -- ---- what matters here of a step

  record IsSizeStep (old new : Inner S) : Type 0 where
    side : new.side ≡ old.side
    remote_length : length new.remote_id ≡ length old.remote_id
    streams : TakenOn old.space.streams new.space.streams
    over : IsOver old → IsOver new

  stands_on : (old new : Inner S) (t u : List Act) → IsSizeStep old new → handed_out u ≡ handed_out t → ((k : ℕ) → written u k ≡ written t k) → Stands old t → Stands new u
  stands_on old new t u step out same (inl p) = inl (record {
    taken = taken_restated new.space.streams t u same (taken_after old.space.streams new.space.streams t step.streams p.taken);
    resets = λ id code size h.
        closed_restated new.space.streams t u id size same
        (closed_after old.space.streams new.space.streams t id size step.streams (p.resets id code size (reset_before old new t u id code size step.side step.remote_length out h)));
  })
  stands_on old new t u step out same (inr over) = inr (step.over over.0, λ id code size h. over.1 id code size (reset_before old new t u id code size step.side step.remote_length out h) ∙ ap length (sym (same id)))

  -- each that was handed out before was right then
  were_on : (old new : Inner S) (t more : List Act) → new.side ≡ old.side → length new.remote_id ≡ length old.remote_id → handed_out more ≡ [] → WereRight old t → WereRight new (t ++ more)
  were_on old new t more side remote none p before after d id code size e h =
      let r = before_those t more before after d none e in
      p before r.0 d id code size r.1 (frame_before old new (d ∷ []) (d ∷ []) (reset_frame id code size) side remote h h.among)

  holds_on : (old new : Inner S) (t more : List Act) → IsSizeStep old new → handed_out more ≡ [] → ((k : ℕ) → written more k ≡ []) → Holds old t → Holds new (t ++ more)
  holds_on old new t more step out none p =
      (stands_on old new t (t ++ more) step (same_out t more out) (same_written t more none) p.0, were_on old new t more step.side step.remote_length out p.1)

  quiet_step : (old new : Inner S) → IsQuietStep old new → TakenOn old.space.streams new.space.streams → IsSizeStep old new
  quiet_step old new q go = record { side = q.side; remote_length = q.remote_length; streams = go; over = q.over }

  stays : (old new : Inner S) (t : List Act) → IsSizeStep old new → Holds old t → Holds new t
  stays old new t step p = subst (λ (u : List Act). Holds new u) (append-nil t) (holds_on old new t [] step refl (λ k. refl) p)

  same_holds : (old new : Inner S) (t : List Act) → new ≡ old → Holds old t → Holds new t
  same_holds old new t e p = subst (λ (c : Inner S). Holds c t) (sym e) p

  -- ---- calls, and what is told

  after_call : (old new : Inner S) (t u : List Act) (call : IsCall old.space.streams new.space.streams) → new ≡ with_streams old new.space.streams → ((k : ℕ) → written u k ≡ written_by call k) → handed_out u ≡ []
      → ((TakenOn old.space.streams new.space.streams) × ((k : ℕ) → written_by call k ≡ [])) ⊎ IsWriting (is_open old.state) call → Holds old t → Holds new (t ++ u)
  after_call old new t u call e wrote out (inl (go, none)) p = holds_on old new t u (quiet_step old new (with_step old new (call_go old.space.streams new.space.streams call) e) go) out (λ k. wrote k ∙ none k) p
  after_call old new t u call e wrote out (inr w) (inr over, were) = absurd (drained_open old.state over.0.1 w.up)
  after_call old new t u call e wrote out (inr w) (inl p, were) =
      let side = ap (λ (c : Inner S). c.side) e in
      let remote = ap (λ (c : Inner S). length c.remote_id) e in
      let all : (k : ℕ) → _ = λ k. wrote k ∙ w.bytes_are k in (
        inl (record {
          taken = written_taken old.space.streams new.space.streams t u w.id w.count w.bytes w.step w.rest all p.taken;
          resets = λ id code size h.
              written_closed old.space.streams new.space.streams t u w.id w.count w.bytes w.step w.rest all id size w.free
              (p.resets id code size (reset_before old new t (t ++ u) id code size side remote (same_out t u out) h));
        }),
        were_on old new t u side remote out were,
      )

  pub called_sized : (old new : Inner S) (t u : List Act) → (call : IsCall old.space.streams new.space.streams) → MayWrite (is_open old.state) call → new ≡ with_streams old new.space.streams
      → ((k : ℕ) → written u k ≡ written_by call k) → handed_out u ≡ [] → HasSized old t → HasSized new (t ++ u)
  unfolding HasSized
  called_sized old new t u call may e wrote out p = after_call old new t u call e wrote out (call_view old.space.streams new.space.streams (is_open old.state) call may) p

  polled_on : (old new : Inner S) (o : Option Event) → IsPolledEvent old new o → TakenOn old.space.streams new.space.streams
  polled_on old new _ (stream e polled rest) = polled_taken old.space.streams new.space.streams (Some e) polled
  polled_on old new _ (lost mid error polled is untold rest) = subst (λ (c : Inner S). TakenOn old.space.streams c.space.streams) (sym rest) (polled_taken old.space.streams mid None polled)
  polled_on old new _ (nothing polled why rest) = polled_taken old.space.streams new.space.streams None polled

  pub polled_sized : (old new : Inner S) (o : Option Event) (t : List Act) → IsPolledEvent old new o → HasSized old t → HasSized new t
  unfolding HasSized
  polled_sized old new o t is p = stays old new t (quiet_step old new (polled_step old new o is) (polled_on old new o is)) p

  -- the streams are as they were
  same_streams : (old new c : Inner S) → new ≡ c → c.space.streams ≡ old.space.streams → TakenOn old.space.streams new.space.streams
  same_streams old new c e same = subst (λ (s : PlainStreams). TakenOn old.space.streams s) (sym (ap (λ (c : Inner S). c.space.streams) e ∙ same)) (self_taken old.space.streams)

  drained_on : (old new : Inner S) (o : Option EndpointEvent) → IsDrainedTold old new o → TakenOn old.space.streams new.space.streams
  drained_on old new _ (drain_told is untold rest) = same_streams old new _ rest refl
  drained_on old new _ (no_drain_told why rest) = same_streams old new _ rest refl

  pub drained_sized : (old new : Inner S) (o : Option EndpointEvent) (t : List Act) → IsDrainedTold old new o → HasSized old t → HasSized new t
  unfolding HasSized
  drained_sized old new o t is p = stays old new t (quiet_step old new (drained_step old new o is) (drained_on old new o is)) p

  -- ---- nothing is sent, and what is due

  pub none_sized : (old new : Inner S) (t : List Act) → NothingIsSent old new → HasSized old t → HasSized new t
  none_sized old new t is p = subst (λ (c : Inner S). HasSized c t) (sym is.0) p

  timed_on : (now : ℕ) (old new : Inner S) → IsTimedOut now old new → TakenOn old.space.streams new.space.streams
  timed_on now old new (idle up due e) = same_streams old new _ e refl
  timed_on now old new (recovery mid up not_due aged probed e) = taken_on old.space.streams mid.streams new.space.streams (probed_on now mid new.space probed) (aged_on now old.space mid aged)
  timed_on now old new (closed reason is_due until is by_now e) = same_streams old new _ e refl
  timed_on now old new (draining_over until is by_now e) = same_streams old new _ e refl
  timed_on now old new (waits moment is before e) = same_streams old new _ e refl
  timed_on now old new (drained_still is e) = same_streams old new _ e refl

  pub timed_sized : (now : ℕ) (old new : Inner S) (t : List Act) → IsTimedOut now old new → HasSized old t → HasSized new t
  unfolding HasSized
  timed_sized now old new t is p = stays old new t (quiet_step old new (timed_step now old new is) (timed_on now old new is)) p

  pub aside_sized : (old new : Inner S) (t : List Act) → IsAside old new → HasSized old t → HasSized new t
  unfolding HasSized
  aside_sized old new t a p =
      stays old new t (quiet_step old new (aside_step old new a) (subst (λ (s : DataSpace). TakenOn old.space.streams s.streams) (sym a.space) (self_taken old.space.streams))) p

  -- ---- what comes

  side_behind : (now : Moment) (end : Option ConnectionError) (old new : Inner S) → GoesOnWith now end old new → new.side ≡ old.side
  side_behind now None old new e = ap (λ (c : Inner S). c.side) e
  side_behind now (Some e) old new on = ap (λ (c : Inner S). c.side) (ended_with now e old new on).rest_is

  remote_behind : (now : Moment) (end : Option ConnectionError) (old new : Inner S) → GoesOnWith now end old new → length new.remote_id ≡ length old.remote_id
  remote_behind now None old new e = ap (λ (c : Inner S). length c.remote_id) e
  remote_behind now (Some e) old new on = ap (λ (c : Inner S). length c.remote_id) (ended_with now e old new on).rest_is

  packet_step : (now : Moment) (number : ℕ) (bytes : List ℕ) (old new : Inner S) → is_open old.state ≡ true → IsPacketTaken now number bytes old new → IsSizeStep old new
  packet_step now number bytes old new up a =
      let behind : Inner S = record old { space = a.space; idle = restarted now old.idle } in
      let same : a.mid.streams ≡ old.space.streams = ap (λ (s : DataSpace). s.streams) a.accepted.rest_is in
      record {
        side = side_behind now a.end behind new a.goes_on;
        remote_length = remote_behind now a.end behind new a.goes_on;
        streams = subst (λ (s : DataSpace). TakenOn old.space.streams s.streams) (sym (goes_on_space now a.end behind new a.goes_on))
            (subst (λ (s : PlainStreams). TakenOn s a.space.streams) same (frames_on now.0 bytes a.mid a.space a.taken a.end a.are_taken));
        over = λ over. absurd (drained_open old.state over.1 up);
      }

  closes_holds : (now : Moment) (reason : CloseReason) (error : ConnectionError) (old new : Inner S) (t : List Act) → is_open old.state ≡ true → IsClosedWith now reason error old new → Holds old t → Holds new t
  closes_holds now reason error old new t up c p = stays old new t (quiet_step old new (closes_step now reason error old new up c) (same_streams old new _ c.rest_is refl)) p

  handled_holds : (now : Moment) (number : ℕ) (bytes : List ℕ) (old new : Inner S) (t : List Act) → is_open old.state ≡ true → IsPacketHandled now number bytes old new → Holds old t → Holds new t
  handled_holds now number bytes old new t up (repeated is e) p = same_holds old new t e p
  handled_holds now number bytes old new t up (empty fault is no_byte says f) p = closes_holds now f.reason _ old new t up f.closed p
  handled_holds now number bytes old new t up (faulty fault kind is at says f) p = closes_holds now f.reason _ old new t up f.closed p
  handled_holds now number bytes old new t up (unnoted fault eliciting is read at f) p = closes_holds now f.reason _ old new t up f.closed p
  handled_holds now number bytes old new t up (taken is a) p = stays old new t (packet_step now number bytes old new up a) p

  -- the connection was closed, and goes on so
  closed_holds : (old new : Inner S) (t : List Act) (before after : State) → old.state ≡ before → (before ≡ Drained → ⊥) → new ≡ record old { state = after } → Holds old t → Holds new t
  closed_holds old new t before after is other e p = stays old new t (record {
    side = ap (λ (c : Inner S). c.side) e;
    remote_length = ap (λ (c : Inner S). length c.remote_id) e;
    streams = same_streams old new _ e refl;
    over = λ over. absurd (other (sym is ∙ over.1));
  }) p

  datagram_holds : (accepts : Side → Space → ℕ → List ℕ → Bool) (now : Moment) (d : List ℕ) (old new : Inner S) (t : List Act) → IsDatagramTaken accepts now d old new → Holds old t → Holds new t
  datagram_holds accepts now d old new t (dropped up none e) p = same_holds old new t e p
  datagram_holds accepts now d old new t (handled number bytes up opened h) p = handled_holds now number bytes old new t up h p
  datagram_holds accepts now d old new t (told_again reason is_due until is none e) p = closed_holds old new t (Closed reason is_due until) (Closed reason true until) is (λ same. cc) e p
  datagram_holds accepts now d old new t (closed_too reason is_due until is brings e) p = closed_holds old new t (Closed reason is_due until) (Draining until) is (λ same. cc) e p
  datagram_holds accepts now d old new t (draining until is e) p = same_holds old new t e p
  datagram_holds accepts now d old new t (drained is e) p = same_holds old new t e p

  maybe_closes : (up : Bool) (now : Moment) (reason : CloseReason) (old new : Inner S) (t : List Act) → is_open old.state ≡ up → MatchBool up (IsClosedWith now reason LocallyClosed old new) (new ≡ old) → Holds old t → Holds new t
  maybe_closes true now reason old new t up c p = closes_holds now reason LocallyClosed old new t up c p
  maybe_closes false now reason old new t up e p = same_holds old new t e p

  came_holds : (event : ConnectionEvent) (old : Inner S) (t : List Act) → Holds old t → Holds (received event old) (t ++ event_acts event)
  came_holds (Datagram now remote payload) old t p =
      holds_on old (received (Datagram now remote payload) old) t (HandedIn payload ∷ []) (record { side = refl; remote_length = refl; streams = self_taken old.space.streams; over = λ is. is }) refl (λ k. refl) p
  came_holds (Close now code reason) old t p = subst (λ (u : List Act). Holds old u) (sym (append-nil t)) p

  pub came_sized : (event : ConnectionEvent) (old : Inner S) (t : List Act) → HasSized old t → HasSized (received event old) (t ++ event_acts event)
  unfolding HasSized
  came_sized event old t p = came_holds event old t p

  pub event_sized : (accepts : Side → Space → ℕ → List ℕ → Bool) (event : ConnectionEvent) (old new : Inner S) (t : List Act) → IsEventTaken accepts event old new → HasSized old t → HasSized new (t ++ event_acts event)
  unfolding HasSized
  event_sized accepts (Datagram now remote payload) old new t came p =
      let e : ConnectionEvent = Datagram now remote payload in
      datagram_holds accepts now payload (received e old) new (t ++ HandedIn payload ∷ []) came (came_holds e old t p)
  event_sized accepts (Close now code reason) old new t came p = maybe_closes (is_open old.state) now _ old new (t ++ []) refl came (came_holds (Close now code reason) old t p)

  -- ---- what is handed out

  -- what a frame says that stands in the datagram with these frames
  said_there : (old new : Inner S) (t : List Act) (frames tag : List ℕ) (among : List (List ℕ)) (id code size : ℕ) → length new.remote_id ≡ length old.remote_id → IsTag tag old.side Data old.space.next_number → AreSaid new.space.streams t frames
      → (h : HasFrame (length new.remote_id) among new.side (reset_frame id code size)) → header_bytes old.remote_id old.space.next_number ++ (frames ++ tag) ≡ h.datagram → IsClosedAt new.space.streams t id size
  said_there old new t frames tag among id code size remote tagged k h it =
      let has : HasPacket (length old.remote_id) h.packet (header_bytes old.remote_id old.space.next_number ++ (frames ++ tag)) = subst (λ (x : List ℕ). HasPacket (length old.remote_id) h.packet x) (sym it)
      (subst (λ (r : ℕ). HasPacket r h.packet h.datagram) remote h.has) in
      let one = only_packet old.remote_id old.side old.space.next_number frames tag k.frames tagged k.are h.packet has in
      k.said (reset_frame id code size) (subst (λ (x : Packet). In (reset_frame id code size) x.frames) one h.frame_among) id code size refl

  -- one datagram more was handed out, whose frames are right
  one_more : (old new : Inner S) (t : List Act) (frames tag : List ℕ) → new.side ≡ old.side → length new.remote_id ≡ length old.remote_id → TakenOn old.space.streams new.space.streams
      → IsTag tag old.side Data old.space.next_number → AreSaid new.space.streams t frames → Sized old t × WereRight old t
      → Holds new (t ++ HandedOut (header_bytes old.remote_id old.space.next_number ++ (frames ++ tag)) ∷ [])
  one_more old new t frames tag side remote go tagged k (p, were) =
      let d = header_bytes old.remote_id old.space.next_number ++ (frames ++ tag) in
      let u = t ++ HandedOut d ∷ [] in
      let same : (n : ℕ) → written u n ≡ written t n = same_written t (HandedOut d ∷ []) (λ n. refl) in (
        inl (record {
          taken = taken_restated new.space.streams t u same (taken_after old.space.streams new.space.streams t go p.taken);
          resets = λ id code size h.
              closed_restated new.space.streams t u id size same
              (elim (in_more h.datagram d (handed_out t) (subst (λ (l : List (List ℕ)). In h.datagram l) (handed_out-append t (HandedOut d ∷ [])) h.among)) [
                | inl before ↦
                    closed_after old.space.streams new.space.streams t id size go
                    (p.resets id code size (frame_before old new (handed_out t) (handed_out u) (reset_frame id code size) side remote h before))
                | inr last ↦ said_there old new t frames tag (handed_out u) id code size remote tagged k h last
              ]);
        }),
        λ before after x id code size e h. elim (last_or_before t before after (HandedOut d) (HandedOut x) e) [
          | inl last ↦
              let it : x ≡ h.datagram = elim h.among [ inl same ↦ same | inr none ↦ absurd none ] in
              (said_there old new t frames tag (x ∷ []) id code size remote tagged k h (one_datagram d x last.1 ∙ it)).size_is ∙ ap (λ (z : List Act). length (written z id)) (sym last.0)
          | inr rest ↦ were before rest.0 x id code size rest.1 (frame_before old new (x ∷ []) (x ∷ []) (reset_frame id code size) side remote h h.among)
        ],
      )

  frames_sized : (sealed : Side → Space → ℕ → List ℕ) → MakesTags sealed → (now : Moment) (old new : Inner S) (frames : List ℕ) (t : List Act) → AreFramesMade now old new (header_bytes old.remote_id old.space.next_number) frames
      → old.space.next_number < 2 ^ 62 → ClosesReadBack old.state → Holds old t → Holds new (t ++ HandedOut (datagram_of sealed old frames) ∷ [])
  frames_sized sealed tags now old new frames t (packet_made up m e) below back (inr over, were) = absurd (drained_open old.state over.0.1 up)
  frames_sized sealed tags now old new frames t (packet_made up m e) below back (inl p, were) =
      let header = header_bytes old.remote_id old.space.next_number in
      let go = made_on now.0 (overhead old) (1200 - overhead old) old.space new.space header (header ++ frames) m in
      let b = packet_said t now.0 (overhead old) (1200 - overhead old) old.space new.space header (header ++ frames) m p.taken in
      let same : b.bytes ≡ frames = sym (append_cancel_left header frames b.bytes b.appended) in
      one_more old new t frames (sealed old.side Data old.space.next_number) (ap (λ (c : Inner S). c.side) e) (ap (λ (c : Inner S). length c.remote_id) e) go (tags old.side old.space.next_number below)
      (subst (λ (z : List ℕ). AreSaid new.space.streams t z) same b.said) (p, were)
  frames_sized sealed tags now old new frames t (control_made up m e) below back (inr over, were) = absurd (drained_open old.state over.0.1 up)
  frames_sized sealed tags now old new frames t (control_made up m e) below back (inl p, were) =
      let r = control_frames old.side old.config.peer_datagram frames m.control in
      let k : AreSaid new.space.streams t frames = record {
        frames = r.frames;
        are = r.are;
        said = of_each (λ (q : QuicFrame). (id code size : ℕ) → q ≡ reset_frame id code size → IsClosedAt new.space.streams t id size) old.side old.config.peer_datagram frames r (control_said new.space.streams t);
      } in
      one_more old new t frames (sealed old.side Data old.space.next_number) (ap (λ (c : Inner S). c.side) e) (ap (λ (c : Inner S). length c.remote_id) e) (same_streams old new new refl (bare_streams now.0 (overhead old + length frames) old.space new.space m.sent))
      (tags old.side old.space.next_number below) k (p, were)
  frames_sized sealed tags now old new frames t (close_made reason until is bytes_are e) below back (inr over, were) = let same : Closed reason true until ≡ Drained = sym is ∙ over.0.1 in absurd (cc)
  frames_sized sealed tags now old new frames t (close_made reason until is bytes_are e) below back (inl p, were) =
      let read = back reason until is in
      let one : IsQuicFrame frames (close_frame reason) [] = subst (λ (z : List ℕ). IsQuicFrame z (close_frame reason) []) (append-nil (frame_bytes (close_frame reason)) ∙ sym bytes_are) (read []) in
      let k : AreSaid new.space.streams t frames = record {
        frames = close_frame reason ∷ [];
        are = ([], one, refl);
        said = λ f among. elim among [ inl same ↦ subst (λ (g : QuicFrame). (id code size : ℕ) → g ≡ reset_frame id code size → IsClosedAt new.space.streams t id size) same (close_said new.space.streams t reason) | inr none ↦ absurd none ];
      } in
      one_more old new t frames (sealed old.side Data old.space.next_number) (ap (λ (c : Inner S). c.side) e) (ap (λ (c : Inner S). length c.remote_id) e) (same_streams old new _ e refl) (tags old.side old.space.next_number below) k (p, were)

  pub made_sized : (sealed : Side → Space → ℕ → List ℕ) → MakesTags sealed → (now : Moment) (old new : Inner S) (before after : List ℕ) (transmit : Transmit) (t : List Act)
      → IsDatagramMade sealed now old new before after transmit → (is_open old.state ≡ true) ⊎ ClosesReadBack old.state → HasSized old t → HasSized new (t ++ transmit_acts before after (Ok (Some transmit)))
  unfolding HasSized
  made_sized sealed tags now old new before after transmit t m back p =
      let d = datagram_of sealed old m.bytes.frames in
      let behind : drop (length before) after ≡ d = ap (λ (z : List ℕ). drop (length before) z) m.bytes.after_is ∙ drop-append_seam before d in
      subst (λ (d : List ℕ). Holds new (t ++ HandedOut d ∷ [])) (sym behind) (frames_sized sealed tags now old new m.bytes.frames t m.bytes.made m.bytes.number (open_reads_back old.state back) p)

  -- ---- the ends

  pub fresh_sized : (c : Inner S) → IsNewSpace c.config c.side c.space → HasSized c []
  unfolding HasSized
  fresh_sized c new = (
    inl (record { taken = no_half_taken c.space.streams new.no_half.send; resets = λ id code size h. absurd h.among }),
    λ before after d id code size e h. absurd (never_empty before after (HandedOut d) (sym e)),
  )

  pub failed_sized : (old new : Inner S) (t : List Act) → IsFailedBy old new → HasSized old t → HasSized new t
  unfolding HasSized
  failed_sized old new t failed p =
      let e = failed.rest_is in
      let side = ap (λ (c : Inner S). c.side) e in
      let remote = ap (λ (c : Inner S). length c.remote_id) e in (
        inr ((ap (λ (c : Inner S). c.error) e, ap (λ (c : Inner S). c.state) e), λ id code size h. right old t p.0 id code size (reset_before old new t t id code size side remote refl h)),
        subst (λ (u : List Act). WereRight new u) (append-nil t) (were_on old new t [] side remote refl p.1),
      )

  pub means_sized : (c : Inner S) (t : List Act) → HasSized c t → AreRight c t
  unfolding HasSized
  means_sized c t p = right c t p.0

  pub since_sized : (c : Inner S) (t before after : List Act) (d : List ℕ) (id code size : ℕ) → HasSized c t → t ≡ before ++ HandedOut d ∷ after → HasFrame (length c.remote_id) (d ∷ []) c.side (reset_frame id code size)
      → (size ≡ length (written before id)) × (written after id ≡ [])
  unfolding HasSized
  since_sized c t before after d id code size p e h =
      let then = p.1 before after d id code size e h in
      let now = right c t p.0 id code size (frame_before c c (handed_out t) (d ∷ []) (reset_frame id code size) refl refl h (out_there t before after d h.datagram e h.among)) in
      let whole : length (written t id) ≡ length (written before id) + length (written after id) = ap (λ (z : List Act). length (written z id)) e ∙ (ap length (written-append before (HandedOut d ∷ after) id) ∙ length-append (written before id) (written after id)) in
      (then, nil_from_length (written after id) (omega (arith, then, now, whole)))
