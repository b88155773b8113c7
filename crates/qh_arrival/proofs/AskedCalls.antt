-- A reset or a stop that an end hands out was asked for, whatever is done with the end.
use Rattle.std.proofs.Common.{◌≡◌, ℕ, ◌+◌, ◌<◌, ◌-◌, ◌^◌, Bool, true, false, List, [], ◌∷◌, ◌++◌, length, Option, Some, None, refl, sym, ap, subst, ◌∙◌, inl, inr}
use Rattle.std.specs.Prelude.{MatchBool, Ok, drop}
use Rattle.std.proofs.Math.Seq.{drop-append_seam}
use Rattle.std.proofs.lemmas.Bool.{both_ways, cases_Bool}
use Rattle.std.proofs.lemmas.List.{append-nil, append_cancel_left}
use Rattle.qh_arrival.proofs.AskedFrames.{AreSaid, IsSaid, asked_after, close_said, controls_said, packet_said}
use Rattle.qh_arrival.proofs.AsksNoMore.{AsksNoMore, aged_asks, asks_on, asks_same, called_asked, frames_ask, made_asks, polled_asks, probed_asks}
use Rattle.qh_arrival.specs.Asked.{AreAsked, Asks, HasAsked, WereAsked, stop_frame}
use Rattle.qh_base.specs.declared.connection_error.ConnectionError.{ConnectionError}
use Rattle.qh_base.specs.declared.connection_error.ConnectionError.TheVariants.{LocallyClosed}
use Rattle.qh_base.specs.declared.path.Transmit.{Transmit}
use Rattle.qh_base.specs.declared.time.Moment.{Moment}
use Rattle.qh_conduct.proofs.BehavingEnds.{event_out}
use Rattle.qh_conduct.proofs.PacketsKept.{only_packet}
use Rattle.qh_conduct.proofs.TurnedAside.{open_back, turned_aside}
use Rattle.qh_conduct.specs.Announced.{MakesTags}
use Rattle.qh_conduct.specs.Sized.{reset_frame}
use Rattle.qh_core.proofs.Acts.{last_or_before, one_datagram}
use Rattle.qh_core.proofs.ControlFrames.{bare_rest}
use Rattle.qh_core.proofs.Ends.{goes_on_space}
use Rattle.qh_core.proofs.Handed.{before_those, never_empty}
use Rattle.qh_core.proofs.MadeTogether.{carried_on}
use Rattle.qh_core.specs.Event.{IsDrainedTold, IsPolledEvent}
use Rattle.qh_core.specs.Event.IsDrainedTold.{drained as drain_told, none as no_drain_told}
use Rattle.qh_core.specs.Event.IsPolledEvent.{stream, lost as lost_told, none as nothing}
use Rattle.qh_core.specs.Follows.{HasFrame, event_acts, transmit_acts}
use Rattle.qh_core.specs.Inner.{IsNewSpace, IsSameEnd, is_open}
use Rattle.qh_core.specs.Made.{AcceptsTags, AreMade, IsAnyCall, IsLocalCall, IsStreamCall, IsTurned, MakesTagsOf}
use Rattle.qh_core.specs.Made.IsAnyCall.{handed_in, lost, handed_out as datagram_out, control_out, nothing_sent, unsent, local}
use Rattle.qh_core.specs.Made.IsLocalCall.{timeout, closed, polled, endpoint_polled, turned, on_streams}
use Rattle.qh_core.specs.Receiving.{IsClosedWith, IsDatagramTaken, IsEventTaken, IsPacketHandled, IsPacketTaken, received}
use Rattle.qh_core.specs.Receiving.IsDatagramTaken.{dropped, handled, told_again, closed_too, draining, drained}
use Rattle.qh_core.specs.Receiving.IsPacketHandled.{repeated, empty, faulty, unnoted, taken}
use Rattle.qh_core.specs.Sending.{AreFramesMade, ClosesReadBack, IsDatagramMade, close_frame, datagram_of, overhead}
use Rattle.qh_core.specs.Sending.AreFramesMade.{packet as packet_made, control as control_made, close as close_made}
use Rattle.qh_core.specs.Timers.{IsTimedOut, restarted}
use Rattle.qh_core.specs.Timers.IsTimedOut.{idle, recovery, closed as closed_out, draining as draining_over, waits, drained as drained_still}
use Rattle.qh_core.specs.declared.event.ConnectionEvent.{ConnectionEvent}
use Rattle.qh_core.specs.declared.event.ConnectionEvent.TheVariants.{Datagram, Close}
use Rattle.qh_core.specs.declared.event.EndpointEvent.{EndpointEvent}
use Rattle.qh_core.specs.declared.event.Event.{Event}
use Rattle.qh_core.specs.declared.inner.Inner.{Inner}
use Rattle.qh_core.specs.declared.state.Close.{Close as CloseReason}
use Rattle.qh_frame.specs.FrameBytes.{frame_bytes}
use Rattle.qh_half.specs.Recv.{PlainRecv}
use Rattle.qh_half.specs.Send.{PlainSend}
use Rattle.qh_halves.specs.RecvHalves.{recv_at, recv_half_in}
use Rattle.qh_halves.specs.SendHalves.{half_in, send_at}
use Rattle.qh_owing.proofs.LedgerStreams.{hands_none, only_streams}
use Rattle.qh_packet.specs.Packet.{header_bytes}
use Rattle.qh_space.specs.declared.data_space.DataSpace.{DataSpace}
use Rattle.qh_spec.proofs.Members.{in_left}
use Rattle.qh_spec.specs.Datagram.{Packet, HasPacket}
use Rattle.qh_spec.specs.Lists.{In}
use Rattle.qh_spec.specs.QuicFrames.{QuicFrame, IsQuicFrame}
use Rattle.qh_spec.specs.Tag.{IsTag}
use Rattle.qh_spec.specs.Transcript.{Act, HandedOut, Reset, Stopped, handed_out}
use Rattle.qh_spec.specs.declared.sides.Side.{Side}
use Rattle.qh_spec.specs.declared.sides.Space.{Space}
use Rattle.qh_spec.specs.declared.sides.Space.TheVariants.{Data}
use Rattle.qh_streams.specs.Streams.{PlainStreams}

-- what was asked for stays so
asked_more : (s : PlainStreams) (t u : List Act) → AreAsked s t → AreAsked s (t ++ u)
asked_more s t u p = record {
  resets = λ stream code is. in_left (Reset stream code) t u (p.resets stream code is);
  stops = λ stream code is. in_left (Stopped stream code) t u (p.stops stream code is);
}

-- the one datagram is the frame's
it_is : (d x : List ℕ) (datagram : List ℕ) → HandedOut d ≡ HandedOut x → In datagram (x ∷ []) → d ≡ datagram
it_is d x datagram same among = one_datagram d x same ∙ elim among [ inl is ↦ is | inr none ↦ absurd none ]

-- a half that is there is no half where there is none
no_send_half : (s : PlainStreams) (id : ℕ) (half : PlainSend) → s.send.halves ≡ [] → send_at s.send id ≡ Some half → ⊥
no_send_half s id half none is = let there : half_in [] id ≡ Some half = subst (λ (l : List (ℕ × PlainSend)). half_in l id ≡ Some half) none is in cc

no_recv_half : (s : PlainStreams) (id : ℕ) (half : PlainRecv) → s.recv.halves ≡ [] → recv_at s.recv id ≡ Some half → ⊥
no_recv_half s id half none is = let there : recv_half_in [] id ≡ Some half = subst (λ (l : List (ℕ × PlainRecv)). recv_half_in l id ≡ Some half) none is in cc

module _ {S : Type 0} where
  -- ---- what was handed out before

  -- a frame of the same end
  same_frame : (old new : Inner S) (datagrams : List (List ℕ)) (f : QuicFrame) → new.side ≡ old.side → length new.remote_id ≡ length old.remote_id → HasFrame (length new.remote_id) datagrams new.side f → HasFrame (length old.remote_id) datagrams old.side f
  same_frame old new datagrams f side remote h = subst (λ (id : ℕ). HasFrame id datagrams old.side f) remote (subst (λ (s : Side). HasFrame (length new.remote_id) datagrams s f) side h)

  were_on : (old new : Inner S) (t more : List Act) → new.side ≡ old.side → length new.remote_id ≡ length old.remote_id → handed_out more ≡ [] → WereAsked old t → WereAsked new (t ++ more)
  were_on old new t more side remote none p = record {
    resets = λ before after d stream code size e h.
        let r = before_those t more before after d none e in
        p.resets before r.0 d stream code size r.1 (same_frame old new (d ∷ []) (reset_frame stream code size) side remote h);
    stops = λ before after d stream code e h.
        let r = before_those t more before after d none e in
        p.stops before r.0 d stream code r.1 (same_frame old new (d ∷ []) (stop_frame stream code) side remote h);
  }

  -- ---- steps that hand nothing out

  -- an end that is open now was so before, and its streams were asked for no less
  abbrev AsksOn : (old new : Inner S) → Type 0
  AsksOn old new = is_open new.state ≡ true → (is_open old.state ≡ true) × AsksNoMore old.space.streams new.space.streams

  asks_by : (old new : Inner S) (t more : List Act) → IsSameEnd old new → AsksOn old new → handed_out more ≡ [] → Asks old t → Asks new (t ++ more)
  asks_by old new t more same on none p = record {
    were = were_on old new t more same.side same.remote_length none p.were;
    streams = λ up.
        let was = on up in
        asked_more new.space.streams t more (asked_after old.space.streams new.space.streams t was.1 (p.streams was.0));
  }

  shut : (old new : Inner S) → is_open new.state ≡ false → AsksOn old new
  shut old new down up = absurd (both_ways (is_open new.state) down up)

  shut_as : (old new c : Inner S) → new ≡ c → is_open c.state ≡ false → AsksOn old new
  shut_as old new c e down = shut old new (ap (λ (z : Inner S). is_open z.state) e ∙ down)

  kept : (old new : Inner S) → new ≡ old → AsksOn old new
  kept old new e up = (sym (ap (λ (z : Inner S). is_open z.state) e) ∙ up, subst (λ (z : Inner S). AsksNoMore old.space.streams z.space.streams) (sym e) (asks_same old.space.streams))

  -- ---- what is told, and what is due

  told_on : (old new : Inner S) (told : Option Event) → IsPolledEvent old new told → AsksOn old new
  told_on old new _ (stream e is rest) up = (sym (ap (λ (z : Inner S). is_open z.state) rest) ∙ up, polled_asks old.space.streams new.space.streams (Some e) is)
  told_on old new _ (lost_told mid error is why untold rest) up =
      (sym (ap (λ (z : Inner S). is_open z.state) rest) ∙ up, subst (λ (z : Inner S). AsksNoMore old.space.streams z.space.streams) (sym rest) (polled_asks old.space.streams mid None is))
  told_on old new _ (nothing is why rest) up = (sym (ap (λ (z : Inner S). is_open z.state) rest) ∙ up, polled_asks old.space.streams new.space.streams None is)

  drained_on : (old new : Inner S) (told : Option EndpointEvent) → IsDrainedTold old new told → AsksOn old new
  drained_on old new _ (drain_told is untold rest) = λ up.
      (sym (ap (λ (z : Inner S). is_open z.state) rest) ∙ up, subst (λ (z : Inner S). AsksNoMore old.space.streams z.space.streams) (sym rest) (asks_same old.space.streams))
  drained_on old new _ (no_drain_told why rest) = kept old new rest

  timed_on : (now : ℕ) (old new : Inner S) → IsTimedOut now old new → AsksOn old new
  timed_on now old new (idle was due e) = shut_as old new _ e refl
  timed_on now old new (recovery mid was not_due aged probed e) = λ up. (was, asks_on old.space.streams mid.streams new.space.streams (aged_asks now old.space mid aged) (probed_asks now mid new.space probed))
  timed_on now old new (closed_out reason is_due until is by_now e) = shut_as old new _ e refl
  timed_on now old new (draining_over until is by_now e) = shut_as old new _ e refl
  timed_on now old new (waits moment is before e) = kept old new e
  timed_on now old new (drained_still is e) = kept old new e

  -- ---- what comes

  closes_on : (now : Moment) (reason : CloseReason) (error : ConnectionError) (old new : Inner S) → IsClosedWith now reason error old new → AsksOn old new
  closes_on now reason error old new c = shut_as old new _ c.rest_is refl

  packet_on : (now : Moment) (number : ℕ) (bytes : List ℕ) (old new : Inner S) → is_open old.state ≡ true → IsPacketTaken now number bytes old new → AsksOn old new
  packet_on now number bytes old new was a up =
      let behind : Inner S = record old { space = a.space; idle = restarted now old.idle } in
      let same : a.mid.streams ≡ old.space.streams = ap (λ (s : DataSpace). s.streams) a.accepted.rest_is in (
        was,
        subst (λ (s : DataSpace). AsksNoMore old.space.streams s.streams) (sym (goes_on_space now a.end behind new a.goes_on))
            (subst (λ (s : PlainStreams). AsksNoMore s a.space.streams) same (frames_ask now.0 bytes a.mid a.space a.taken a.end a.are_taken)),
      )

  handled_on : (now : Moment) (number : ℕ) (bytes : List ℕ) (old new : Inner S) → is_open old.state ≡ true → IsPacketHandled now number bytes old new → AsksOn old new
  handled_on now number bytes old new was (repeated is e) = kept old new e
  handled_on now number bytes old new was (empty fault is no_byte says f) = closes_on now f.reason _ old new f.closed
  handled_on now number bytes old new was (faulty fault kind is at says f) = closes_on now f.reason _ old new f.closed
  handled_on now number bytes old new was (unnoted fault eliciting is read at f) = closes_on now f.reason _ old new f.closed
  handled_on now number bytes old new was (taken is a) = packet_on now number bytes old new was a

  datagram_on : (accepts : Side → Space → ℕ → List ℕ → Bool) (now : Moment) (d : List ℕ) (old new : Inner S) → IsDatagramTaken accepts now d old new → AsksOn old new
  datagram_on accepts now d old new (dropped was none e) = kept old new e
  datagram_on accepts now d old new (handled number bytes was opened h) = handled_on now number bytes old new was h
  datagram_on accepts now d old new (told_again reason is_due until is none e) = shut_as old new _ e refl
  datagram_on accepts now d old new (closed_too reason is_due until is brings e) = shut_as old new _ e refl
  datagram_on accepts now d old new (draining until is e) = kept old new e
  datagram_on accepts now d old new (drained is e) = kept old new e

  maybe_closes : (up : Bool) (now : Moment) (reason : CloseReason) (old new : Inner S) → MatchBool up (IsClosedWith now reason LocallyClosed old new) (new ≡ old) → AsksOn old new
  maybe_closes true now reason old new c = closes_on now reason LocallyClosed old new c
  maybe_closes false now reason old new e = kept old new e

  event_on : (accepts : Side → Space → ℕ → List ℕ → Bool) (event : ConnectionEvent) (old new : Inner S) → IsEventTaken accepts event old new → AsksOn old new
  event_on accepts (Datagram now remote payload) old new came = datagram_on accepts now payload (received (Datagram now remote payload) old) new came
  event_on accepts (Close now code reason) old new came = maybe_closes (is_open old.state) now _ old new came

  close_on : (now : Moment) (reason : CloseReason) (old new : Inner S) → (is_open old.state ≡ true → IsClosedWith now reason LocallyClosed old new) → (is_open old.state ≡ false → new ≡ old) → AsksOn old new
  close_on now reason old new ends stays = elim (cases_Bool (is_open old.state)) [
    | inl was ↦ closes_on now reason LocallyClosed old new (ends was)
    | inr down ↦ kept old new (stays down)
  ]

  -- ---- what is handed out

  -- what a frame says that stands in the datagram with these frames
  said_there : (old new : Inner S) (t : List Act) (frames tag : List ℕ) (among : List (List ℕ)) (f : QuicFrame) → length new.remote_id ≡ length old.remote_id → IsTag tag old.side Data old.space.next_number → AreSaid t frames
      → (h : HasFrame (length new.remote_id) among new.side f) → header_bytes old.remote_id old.space.next_number ++ (frames ++ tag) ≡ h.datagram → IsSaid t f
  said_there old new t frames tag among f remote tagged k h it =
      let has : HasPacket (length old.remote_id) h.packet (header_bytes old.remote_id old.space.next_number ++ (frames ++ tag)) = subst (λ (x : List ℕ). HasPacket (length old.remote_id) h.packet x) (sym it)
      (subst (λ (r : ℕ). HasPacket r h.packet h.datagram) remote h.has) in
      let one = only_packet old.remote_id old.side old.space.next_number frames tag k.frames tagged k.are h.packet has in
      k.said f (subst (λ (x : Packet). In f x.frames) one h.frame_among)

  -- one datagram more was handed out, whose frames were asked for
  one_more : (old new : Inner S) (t : List Act) (frames tag : List ℕ) → new.side ≡ old.side → length new.remote_id ≡ length old.remote_id → IsTag tag old.side Data old.space.next_number → AreSaid t frames → WereAsked old t
      → WereAsked new (t ++ HandedOut (header_bytes old.remote_id old.space.next_number ++ (frames ++ tag)) ∷ [])
  one_more old new t frames tag side remote tagged k were =
      let d = header_bytes old.remote_id old.space.next_number ++ (frames ++ tag) in
      record {
        resets = λ before after x stream code size e h. elim (last_or_before t before after (HandedOut d) (HandedOut x) e) [
          | inl last ↦
              let said = said_there old new t frames tag (x ∷ []) (reset_frame stream code size) remote tagged k h (it_is d x h.datagram last.1 h.among) in
              subst (λ (z : List Act). In (Reset stream code) z) (sym last.0) (said.resets stream code size refl)
          | inr rest ↦ were.resets before rest.0 x stream code size rest.1 (same_frame old new (x ∷ []) (reset_frame stream code size) side remote h)
        ];
        stops = λ before after x stream code e h. elim (last_or_before t before after (HandedOut d) (HandedOut x) e) [
          | inl last ↦
              let said = said_there old new t frames tag (x ∷ []) (stop_frame stream code) remote tagged k h (it_is d x h.datagram last.1 h.among) in
              subst (λ (z : List Act). In (Stopped stream code) z) (sym last.0) (said.stops stream code refl)
          | inr rest ↦ were.stops before rest.0 x stream code rest.1 (same_frame old new (x ∷ []) (stop_frame stream code) side remote h)
        ];
      }

  frames_asked : (sealed : Side → Space → ℕ → List ℕ) → MakesTags sealed → (now : Moment) (old new : Inner S) (frames : List ℕ) (t : List Act) → AreFramesMade now old new (header_bytes old.remote_id old.space.next_number) frames
      → old.space.next_number < 2 ^ 62 → ClosesReadBack old.state → Asks old t → Asks new (t ++ HandedOut (datagram_of sealed old frames) ∷ [])
  frames_asked sealed tags now old new frames t (packet_made was m e) below back p =
      let header = header_bytes old.remote_id old.space.next_number in
      let d = datagram_of sealed old frames in
      let less = made_asks now.0 (overhead old) (1200 - overhead old) old.space new.space header (header ++ frames) m in
      let b = packet_said t now.0 (overhead old) (1200 - overhead old) old.space new.space header (header ++ frames) m (p.streams was) in
      let same : b.bytes ≡ frames = sym (append_cancel_left header frames b.bytes b.appended) in
      record {
        were = one_more old new t frames (sealed old.side Data old.space.next_number) (ap (λ (c : Inner S). c.side) e) (ap (λ (c : Inner S). length c.remote_id) e) (tags old.side old.space.next_number below)
            (subst (λ (z : List ℕ). AreSaid t z) same b.said) p.were;
        streams = λ up. asked_more new.space.streams t (HandedOut d ∷ []) (asked_after old.space.streams new.space.streams t less (p.streams was));
      }
  frames_asked sealed tags now old new frames t (control_made was m e) below back p =
      let d = datagram_of sealed old frames in
      let rest = bare_rest now.0 (overhead old + length frames) old.space new.space m.sent in
      let less : AsksNoMore old.space.streams new.space.streams = subst (λ (s : PlainStreams). AsksNoMore old.space.streams s) (sym rest.streams) (asks_same old.space.streams) in
      record {
        were = one_more old new t frames (sealed old.side Data old.space.next_number) (ap (λ (c : Inner S). c.side) e) (ap (λ (c : Inner S). length c.remote_id) e) (tags old.side old.space.next_number below)
            (controls_said t old.side old.config.peer_datagram frames m.control) p.were;
        streams = λ up. asked_more new.space.streams t (HandedOut d ∷ []) (asked_after old.space.streams new.space.streams t less (p.streams was));
      }
  frames_asked sealed tags now old new frames t (close_made reason until is bytes_are e) below back p =
      let read = back reason until is in
      let one : IsQuicFrame frames (close_frame reason) [] = subst (λ (z : List ℕ). IsQuicFrame z (close_frame reason) []) (append-nil (frame_bytes (close_frame reason)) ∙ sym bytes_are) (read []) in
      let down : is_open new.state ≡ false = ap (λ (c : Inner S). is_open c.state) e in
      let k : AreSaid t frames = record {
        frames = close_frame reason ∷ [];
        are = ([], one, refl);
        said = λ f among. elim among [ inl same ↦ subst (λ (g : QuicFrame). IsSaid t g) same (close_said t reason) | inr none ↦ absurd none ];
      } in
      record {
        were = one_more old new t frames (sealed old.side Data old.space.next_number) (ap (λ (c : Inner S). c.side) e) (ap (λ (c : Inner S). length c.remote_id) e) (tags old.side old.space.next_number below) k p.were;
        streams = λ up. absurd (both_ways (is_open new.state) down up);
      }

  datagram_asked : (sealed : Side → Space → ℕ → List ℕ) → MakesTags sealed → (now : Moment) (old new : Inner S) (before after : List ℕ) (transmit : Transmit) (t : List Act)
      → IsDatagramMade sealed now old new before after transmit → ClosesReadBack old.state → Asks old t → Asks new (t ++ transmit_acts before after (Ok (Some transmit)))
  datagram_asked sealed tags now old new before after transmit t m back p =
      let d = datagram_of sealed old m.bytes.frames in
      let behind : drop (length before) after ≡ d = ap (λ (z : List ℕ). drop (length before) z) m.bytes.after_is ∙ drop-append_seam before d in
      subst (λ (d : List ℕ). Asks new (t ++ HandedOut d ∷ [])) (sym behind) (frames_asked sealed tags now old new m.bytes.frames t m.bytes.made m.bytes.number back p)

  -- ---- calls

  call_asked : (b c : Inner S) (u t : List Act) → IsStreamCall b c u → IsSameEnd b c → Asks b t → Asks c (t ++ u)
  call_asked b c u t call same p = record {
    were = were_on b c t u same.side same.remote_length (hands_none b c u call).1 p.were;
    streams = λ up. called_asked b c u t call (p.streams (sym (ap (λ (z : Inner S). is_open z.state) (only_streams b c u call)) ∙ up));
  }

  turned_on : (old new : Inner S) → IsTurned old new → AsksOn old new
  turned_on old new is = elim (turned_aside old new is) [
    | inl lacks ↦ shut_as old new _ lacks.rest_is refl
    | inr aside ↦ λ up. (aside.opens up, subst (λ (s : DataSpace). AsksNoMore old.space.streams s.streams) (sym aside.space) (asks_same old.space.streams))
  ]

  local_asked : (b c : Inner S) (u t : List Act) → IsLocalCall b c u → IsSameEnd b c → Asks b t → Asks c (t ++ u)
  local_asked b c u t (timeout now timed _) same p = asks_by b c t [] same (timed_on now b c timed) refl p
  local_asked b c u t (closed now code reason ends stays) same p = asks_by b c t [] same (close_on now _ b c ends stays) refl p
  local_asked b c u t (polled told is) same p = asks_by b c t [] same (told_on b c told is) refl p
  local_asked b c u t (endpoint_polled told is) same p = asks_by b c t [] same (drained_on b c told is) refl p
  local_asked b c u t (turned is) same p = asks_by b c t [] same (turned_on b c is) refl p
  local_asked b c u t (on_streams _ call) same p = call_asked b c u t call same p

  any_asked : (accepts : AcceptsTags S) (sealed : MakesTagsOf S) (b c : Inner S) (u t : List Act) → MakesTags (sealed b.session) → IsAnyCall accepts sealed b c u → IsSameEnd b c → Asks b t → Asks c (t ++ u)
  any_asked accepts sealed b c u t tags (handed_in event came _) same p = asks_by b c t (event_acts event) same (event_on (accepts b.session) event b c came) (event_out event) p
  any_asked accepts sealed b c u t tags (lost event failed _) same p = asks_by b c t (event_acts event) same (shut_as b c _ failed.rest_is refl) (event_out event) p
  any_asked accepts sealed b c u t tags (datagram_out now before after transmit made back _) same p = datagram_asked (sealed b.session) tags now b c before after transmit t made back p
  any_asked accepts sealed b c u t tags (control_out now before after frames sent is _) same p =
      datagram_asked (sealed b.session) tags now b c before after sent.transmit t is.made (open_back b.state is.opened) p
  any_asked accepts sealed b c u t tags (nothing_sent none) same p = asks_by b c t [] same (kept b c none.0) refl p
  any_asked accepts sealed b c u t tags (unsent failed) same p = asks_by b c t [] same (shut_as b c _ failed.rest_is refl) refl p
  any_asked accepts sealed b c u t tags (local _ call) same p = local_asked b c u t call same p

  -- ---- what is claimed

  pub fresh_asked : (c : Inner S) → IsNewSpace c.config c.side c.space → HasAsked c []
  unfolding HasAsked
  fresh_asked c new = record {
    were = record {
      resets = λ before after d stream code size e h. absurd (never_empty before after (HandedOut d) (sym e));
      stops = λ before after d stream code e h. absurd (never_empty before after (HandedOut d) (sym e));
    };
    streams = λ up. record {
      resets = λ stream code is. absurd (no_send_half c.space.streams stream is.half new.no_half.send is.is);
      stops = λ stream code is. absurd (no_recv_half c.space.streams stream is.half new.no_half.recv is.is);
    };
  }

  pub made_asked : (accepts : AcceptsTags S) (sealed : MakesTagsOf S) (old new : Inner S) (acts t : List Act) → MakesTags (sealed old.session) → AreMade accepts sealed old new acts → HasAsked old t → HasAsked new (t ++ acts)
  unfolding HasAsked
  made_asked accepts sealed old new acts t tags made p =
      carried_on accepts sealed Asks old new acts t
      (λ b c u v session step q. any_asked accepts sealed b c u v (subst (λ (s : S). MakesTags (sealed s)) (sym session) tags) step.0 step.1.same_end q) made p

  pub were_asked : (c : Inner S) (t : List Act) → HasAsked c t → WereAsked c t
  unfolding HasAsked
  were_asked c t p = p.were
