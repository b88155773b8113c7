-- A limit that counts as announced was said, whatever is done with the end.
use Rattle.std.proofs.Common.{◌≡◌, ℕ, ◌+◌, ◌<◌, ◌-◌, ◌^◌, Bool, true, false, List, [], ◌∷◌, ◌++◌, length, Option, Some, None, refl, sym, ap, subst, ◌∙◌, inl, inr}
use Rattle.std.specs.Prelude.{MatchBool, Ok, drop}
use Rattle.std.proofs.Math.Seq.{drop-append_seam}
use Rattle.std.proofs.lemmas.Bool.{both_ways, cases_Bool}
use Rattle.std.proofs.lemmas.List.{append_cancel_left}
use Rattle.qh_arrival.proofs.SaidFrames.{AreSaying, packet_saying}
use Rattle.qh_arrival.proofs.SaidStreams.{LimitsOn, aged_limits, called_limits, frames_limits, limits_more, limits_on, limits_same, polled_limits, probed_limits}
use Rattle.qh_arrival.specs.Said.{HasSaid, LimitsAreSaid, Says, began_with, max_data_frame, max_stream_data_frame, max_streams_frame}
use Rattle.qh_base.specs.declared.connection_error.ConnectionError.{ConnectionError}
use Rattle.qh_base.specs.declared.connection_error.ConnectionError.TheVariants.{LocallyClosed}
use Rattle.qh_base.specs.declared.path.Transmit.{Transmit}
use Rattle.qh_base.specs.declared.time.Moment.{Moment}
use Rattle.qh_conduct.proofs.PacketsKept.{packet_there}
use Rattle.qh_conduct.proofs.TurnedAside.{turned_aside}
use Rattle.qh_conduct.specs.Announced.{HasSent, MakesTags}
use Rattle.qh_core.proofs.ControlFrames.{bare_rest}
use Rattle.qh_core.proofs.Ends.{goes_on_space}
use Rattle.qh_core.proofs.MadeTogether.{carried_on}
use Rattle.qh_core.specs.Config.{bounded}
use Rattle.qh_core.specs.Event.{IsDrainedTold, IsPolledEvent}
use Rattle.qh_core.specs.Event.IsDrainedTold.{drained as drain_told, none as no_drain_told}
use Rattle.qh_core.specs.Event.IsPolledEvent.{stream, lost as lost_told, none as nothing}
use Rattle.qh_core.specs.Follows.{event_acts, transmit_acts}
use Rattle.qh_core.specs.Inner.{IsNewSpace, IsSameEnd, is_open}
use Rattle.qh_core.specs.Made.{AcceptsTags, AreMade, IsAnyCall, IsLocalCall, IsTurned, MakesTagsOf}
use Rattle.qh_core.specs.Made.IsAnyCall.{handed_in, lost, handed_out as datagram_out, control_out, nothing_sent, unsent, local}
use Rattle.qh_core.specs.Made.IsLocalCall.{timeout, closed, polled, endpoint_polled, turned, on_streams}
use Rattle.qh_core.specs.Receiving.{IsClosedWith, IsDatagramTaken, IsEventTaken, IsPacketHandled, IsPacketTaken, received}
use Rattle.qh_core.specs.Receiving.IsDatagramTaken.{dropped, handled, told_again, closed_too, draining, drained}
use Rattle.qh_core.specs.Receiving.IsPacketHandled.{repeated, empty, faulty, unnoted, taken}
use Rattle.qh_core.specs.Sending.{AreFramesMade, IsDatagramMade, datagram_of, overhead}
use Rattle.qh_core.specs.Sending.AreFramesMade.{packet as packet_made, control as control_made, close as close_made}
use Rattle.qh_core.specs.Timers.{IsTimedOut, restarted}
use Rattle.qh_core.specs.Timers.IsTimedOut.{idle, recovery, closed as closed_out, draining as draining_over, waits, drained as drained_still}
use Rattle.qh_core.specs.declared.config.ConnConfig.{ConnConfig}
use Rattle.qh_core.specs.declared.event.ConnectionEvent.{ConnectionEvent}
use Rattle.qh_core.specs.declared.event.ConnectionEvent.TheVariants.{Datagram, Close}
use Rattle.qh_core.specs.declared.event.EndpointEvent.{EndpointEvent}
use Rattle.qh_core.specs.declared.event.Event.{Event}
use Rattle.qh_core.specs.declared.inner.Inner.{Inner}
use Rattle.qh_core.specs.declared.state.Close.{Close as CloseReason}
use Rattle.qh_halves.specs.RecvHalves.{recv_half_in}
use Rattle.qh_owing.proofs.LedgerStreams.{only_streams}
use Rattle.qh_packet.specs.Packet.{header_bytes}
use Rattle.qh_space.specs.Space.{first_streams}
use Rattle.qh_space.specs.declared.data_space.DataSpace.{DataSpace}
use Rattle.qh_spec.proofs.Members.{in_last, in_left}
use Rattle.qh_spec.proofs.TranscriptLaws.{handed_out-append}
use Rattle.qh_spec.specs.Datagram.{HasPacket}
use Rattle.qh_spec.specs.Lists.{In}
use Rattle.qh_spec.specs.QuicFrames.{QuicFrame}
use Rattle.qh_spec.specs.Tag.{IsTag}
use Rattle.qh_spec.specs.Transcript.{Act, HandedOut, handed_out}
use Rattle.qh_spec.specs.declared.sides.Side.{Side}
use Rattle.qh_spec.specs.declared.sides.Space.{Space}
use Rattle.qh_spec.specs.declared.sides.Space.TheVariants.{Data}
use Rattle.qh_streams.specs.Streams.{PlainStreams, counts_of, is_two_way}

-- no frame says anything
abbrev pub Nothing : QuicFrame → Type 0
Nothing f = ⊥

-- each limit is as before
abbrev LimitsStay : (old new : PlainStreams) → Type 0
LimitsStay old new = LimitsOn Nothing old new

module _ {S : Type 0} where
  -- ---- what was said before

  -- a frame that the same end sent
  sent_on : (old new : Inner S) (t u : List Act) → IsSameEnd old new → (f : QuicFrame) → HasSent old t f → HasSent new (t ++ u) f
  sent_on old new t u same f h = record {
    datagram = h.datagram;
    among = subst (λ (l : List (List ℕ)). In h.datagram l) (sym (handed_out-append t u)) (in_left h.datagram (handed_out t) (handed_out u) h.among);
    packet = h.packet;
    has = subst (λ (id : ℕ). HasPacket id h.packet h.datagram) (sym same.remote_length) h.has;
    space_is = h.space_is;
    sender_is = h.sender_is ∙ sym same.side;
    frame_among = h.frame_among;
  }

  began_same : (old new : Inner S) → IsSameEnd old new → began_with old ≡ began_with new
  began_same old new same =
      ap (λ (side : Side). first_streams side old.config.limits old.config.peer) (sym same.side)
      ∙ ap (λ (c : ConnConfig). first_streams new.side c.limits c.peer) (sym same.config)

  -- a step that changes no limit, or says it
  said_on : (old new : Inner S) (t u : List Act) → IsSameEnd old new → LimitsOn (HasSent new (t ++ u)) old.space.streams new.space.streams → Says old t → Says new (t ++ u)
  said_on old new t u same on p =
      let began = began_same old new same in
      record {
        limits = record {
          shared = elim on.recv.shared [
            | inl stays ↦ elim p.limits.shared [
              | inl first ↦ inl (stays ∙ first ∙ ap (λ (s : PlainStreams). s.recv.announced.value) began)
              | inr said ↦ inr (sent_on old new t u same _ (subst (λ (n : ℕ). HasSent old t (max_data_frame n)) (sym stays) said))
            ]
            | inr said ↦ inr said
          ];
          counts = λ dir. elim (on.counts dir) [
            | inl stays ↦ elim (p.limits.counts dir) [
              | inl first ↦ inl (stays ∙ first ∙ ap (λ (s : PlainStreams). (counts_of s (is_two_way dir)).announced.value) began)
              | inr said ↦ inr (sent_on old new t u same _ (subst (λ (n : ℕ). HasSent old t (max_streams_frame dir n)) (sym stays) said))
            ]
            | inr said ↦ inr said
          ];
          streams = λ k half is. elim (on.recv.halves k half is) [
            | inl (inl was) ↦ elim (p.limits.streams k was.0 was.1) [
              | inl first ↦ inl (was.2 ∙ first ∙ ap (λ (c : ConnConfig). bounded c.limits.stream_window) (sym same.config))
              | inr said ↦ inr (sent_on old new t u same _ (subst (λ (n : ℕ). HasSent old t (max_stream_data_frame k n)) (sym was.2) said))
            ]
            | inl (inr fresh) ↦ inl (fresh ∙ ap bounded p.window ∙ ap (λ (c : ConnConfig). bounded c.limits.stream_window) (sym same.config))
            | inr said ↦ inr said
          ];
        };
        window = on.recv.window ∙ p.window ∙ ap (λ (c : ConnConfig). c.limits.stream_window) (sym same.config);
      }

  -- ---- steps that hand nothing out

  -- how an end stands, while it is open
  abbrev SaysOpen : Inner S → List Act → Type 0
  SaysOpen c t = is_open c.state ≡ true → Says c t

  -- an end that is open now was so before, and its limits are the same
  abbrev StaysOn : (old new : Inner S) → Type 0
  StaysOn old new = is_open new.state ≡ true → (is_open old.state ≡ true) × LimitsStay old.space.streams new.space.streams

  says_by : (old new : Inner S) (t u : List Act) → IsSameEnd old new → StaysOn old new → SaysOpen old t → SaysOpen new (t ++ u)
  says_by old new t u same on p up =
      let was = on up in
      said_on old new t u same (limits_more Nothing (HasSent new (t ++ u)) old.space.streams new.space.streams (λ f none. absurd none) was.1) (p was.0)

  shut : (old new : Inner S) → is_open new.state ≡ false → StaysOn old new
  shut old new down up = absurd (both_ways (is_open new.state) down up)

  shut_as : (old new c : Inner S) → new ≡ c → is_open c.state ≡ false → StaysOn old new
  shut_as old new c e down = shut old new (ap (λ (z : Inner S). is_open z.state) e ∙ down)

  kept : (old new : Inner S) → new ≡ old → StaysOn old new
  kept old new e up = (sym (ap (λ (z : Inner S). is_open z.state) e) ∙ up, subst (λ (z : Inner S). LimitsStay old.space.streams z.space.streams) (sym e) (limits_same Nothing old.space.streams))

  -- ---- what is told, and what is due

  told_on : (old new : Inner S) (told : Option Event) → IsPolledEvent old new told → StaysOn old new
  told_on old new _ (stream e is rest) up = (sym (ap (λ (z : Inner S). is_open z.state) rest) ∙ up, polled_limits Nothing old.space.streams new.space.streams (Some e) is)
  told_on old new _ (lost_told mid error is why untold rest) up =
      (sym (ap (λ (z : Inner S). is_open z.state) rest) ∙ up, subst (λ (z : Inner S). LimitsStay old.space.streams z.space.streams) (sym rest) (polled_limits Nothing old.space.streams mid None is))
  told_on old new _ (nothing is why rest) up = (sym (ap (λ (z : Inner S). is_open z.state) rest) ∙ up, polled_limits Nothing old.space.streams new.space.streams None is)

  drained_on : (old new : Inner S) (told : Option EndpointEvent) → IsDrainedTold old new told → StaysOn old new
  drained_on old new _ (drain_told is untold rest) = λ up.
      (sym (ap (λ (z : Inner S). is_open z.state) rest) ∙ up, subst (λ (z : Inner S). LimitsStay old.space.streams z.space.streams) (sym rest) (limits_same Nothing old.space.streams))
  drained_on old new _ (no_drain_told why rest) = kept old new rest

  timed_on : (now : ℕ) (old new : Inner S) → IsTimedOut now old new → StaysOn old new
  timed_on now old new (idle was due e) = shut_as old new _ e refl
  timed_on now old new (recovery mid was not_due aged probed e) = λ up.
      (was, limits_on Nothing old.space.streams mid.streams new.space.streams (aged_limits Nothing now old.space mid aged) (probed_limits Nothing now mid new.space probed))
  timed_on now old new (closed_out reason is_due until is by_now e) = shut_as old new _ e refl
  timed_on now old new (draining_over until is by_now e) = shut_as old new _ e refl
  timed_on now old new (waits moment is before e) = kept old new e
  timed_on now old new (drained_still is e) = kept old new e

  -- ---- what comes

  closes_on : (now : Moment) (reason : CloseReason) (error : ConnectionError) (old new : Inner S) → IsClosedWith now reason error old new → StaysOn old new
  closes_on now reason error old new c = shut_as old new _ c.rest_is refl

  packet_on : (now : Moment) (number : ℕ) (bytes : List ℕ) (old new : Inner S) → is_open old.state ≡ true → IsPacketTaken now number bytes old new → StaysOn old new
  packet_on now number bytes old new was a up =
      let behind : Inner S = record old { space = a.space; idle = restarted now old.idle } in
      let same : a.mid.streams ≡ old.space.streams = ap (λ (s : DataSpace). s.streams) a.accepted.rest_is in (
        was,
        subst (λ (s : DataSpace). LimitsStay old.space.streams s.streams) (sym (goes_on_space now a.end behind new a.goes_on))
            (subst (λ (s : PlainStreams). LimitsStay s a.space.streams) same (frames_limits Nothing now.0 bytes a.mid a.space a.taken a.end a.are_taken)),
      )

  handled_on : (now : Moment) (number : ℕ) (bytes : List ℕ) (old new : Inner S) → is_open old.state ≡ true → IsPacketHandled now number bytes old new → StaysOn old new
  handled_on now number bytes old new was (repeated is e) = kept old new e
  handled_on now number bytes old new was (empty fault is no_byte says f) = closes_on now f.reason _ old new f.closed
  handled_on now number bytes old new was (faulty fault kind is at says f) = closes_on now f.reason _ old new f.closed
  handled_on now number bytes old new was (unnoted fault eliciting is read at f) = closes_on now f.reason _ old new f.closed
  handled_on now number bytes old new was (taken is a) = packet_on now number bytes old new was a

  datagram_on : (accepts : Side → Space → ℕ → List ℕ → Bool) (now : Moment) (d : List ℕ) (old new : Inner S) → IsDatagramTaken accepts now d old new → StaysOn old new
  datagram_on accepts now d old new (dropped was none e) = kept old new e
  datagram_on accepts now d old new (handled number bytes was opened h) = handled_on now number bytes old new was h
  datagram_on accepts now d old new (told_again reason is_due until is none e) = shut_as old new _ e refl
  datagram_on accepts now d old new (closed_too reason is_due until is brings e) = shut_as old new _ e refl
  datagram_on accepts now d old new (draining until is e) = kept old new e
  datagram_on accepts now d old new (drained is e) = kept old new e

  maybe_closes : (up : Bool) (now : Moment) (reason : CloseReason) (old new : Inner S) → MatchBool up (IsClosedWith now reason LocallyClosed old new) (new ≡ old) → StaysOn old new
  maybe_closes true now reason old new c = closes_on now reason LocallyClosed old new c
  maybe_closes false now reason old new e = kept old new e

  event_on : (accepts : Side → Space → ℕ → List ℕ → Bool) (event : ConnectionEvent) (old new : Inner S) → IsEventTaken accepts event old new → StaysOn old new
  event_on accepts (Datagram now remote payload) old new came = datagram_on accepts now payload (received (Datagram now remote payload) old) new came
  event_on accepts (Close now code reason) old new came = maybe_closes (is_open old.state) now _ old new came

  close_on : (now : Moment) (reason : CloseReason) (old new : Inner S) → (is_open old.state ≡ true → IsClosedWith now reason LocallyClosed old new) → (is_open old.state ≡ false → new ≡ old) → StaysOn old new
  close_on now reason old new ends stays = elim (cases_Bool (is_open old.state)) [
    | inl was ↦ closes_on now reason LocallyClosed old new (ends was)
    | inr down ↦ kept old new (stays down)
  ]

  -- ---- what is handed out

  -- a frame of the datagram was sent
  frame_sent : (old new : Inner S) (t : List Act) (frames tag : List ℕ) → IsSameEnd old new → IsTag tag old.side Data old.space.next_number → (k : AreSaying old.space.streams new.space.streams frames)
      → (f : QuicFrame) → In f k.frames → HasSent new (t ++ HandedOut (header_bytes old.remote_id old.space.next_number ++ (frames ++ tag)) ∷ []) f
  frame_sent old new t frames tag same tagged k f among =
      let d = header_bytes old.remote_id old.space.next_number ++ (frames ++ tag) in
      record {
        datagram = d;
        among = subst (λ (l : List (List ℕ)). In d l) (sym (handed_out-append t (HandedOut d ∷ []))) (in_last d (handed_out t));
        packet = record { space = Data; sender = old.side; number = old.space.next_number; frames = k.frames };
        has = rw (same.remote_length) (packet_there old.remote_id old.side old.space.next_number frames tag k.frames tagged k.are);
        space_is = refl;
        sender_is = sym same.side;
        frame_among = among;
      }

  frames_said : (sealed : Side → Space → ℕ → List ℕ) → MakesTags sealed → (now : Moment) (old new : Inner S) (frames : List ℕ) (t : List Act) → IsSameEnd old new
      → AreFramesMade now old new (header_bytes old.remote_id old.space.next_number) frames → old.space.next_number < 2 ^ 62 → SaysOpen old t → SaysOpen new (t ++ HandedOut (datagram_of sealed old frames) ∷ [])
  frames_said sealed tags now old new frames t same (packet_made was m e) below p up =
      let header = header_bytes old.remote_id old.space.next_number in
      let u = HandedOut (datagram_of sealed old frames) ∷ [] in
      let b = packet_saying now.0 (overhead old) (1200 - overhead old) old.space new.space header (header ++ frames) m in
      let bytes_are : b.bytes ≡ frames = sym (append_cancel_left header frames b.bytes b.appended) in
      let k : AreSaying old.space.streams new.space.streams frames = subst (λ (z : List ℕ). AreSaying old.space.streams new.space.streams z) bytes_are b.saying in
      said_on old new t u same
      (limits_more (λ f. In f k.frames) (HasSent new (t ++ u)) old.space.streams new.space.streams
      (frame_sent old new t frames (sealed old.side Data old.space.next_number) same (tags old.side old.space.next_number below) k) k.limits) (p was)
  frames_said sealed tags now old new frames t same (control_made was m e) below p up =
      let rest = bare_rest now.0 (overhead old + length frames) old.space new.space m.sent in
      says_by old new t (HandedOut (datagram_of sealed old frames) ∷ []) same
      (λ still. (was, subst (λ (s : PlainStreams). LimitsStay old.space.streams s) (sym rest.streams) (limits_same Nothing old.space.streams))) p up
  frames_said sealed tags now old new frames t same (close_made reason until is bytes_are e) below p up =
      absurd (both_ways (is_open new.state) (ap (λ (c : Inner S). is_open c.state) e) up)

  datagram_said : (sealed : Side → Space → ℕ → List ℕ) → MakesTags sealed → (now : Moment) (old new : Inner S) (before after : List ℕ) (transmit : Transmit) (t : List Act) → IsSameEnd old new
      → IsDatagramMade sealed now old new before after transmit → SaysOpen old t → SaysOpen new (t ++ transmit_acts before after (Ok (Some transmit)))
  datagram_said sealed tags now old new before after transmit t same m p =
      let d = datagram_of sealed old m.bytes.frames in
      let behind : drop (length before) after ≡ d = ap (λ (z : List ℕ). drop (length before) z) m.bytes.after_is ∙ drop-append_seam before d in
      subst (λ (d : List ℕ). SaysOpen new (t ++ HandedOut d ∷ [])) (sym behind) (frames_said sealed tags now old new m.bytes.frames t same m.bytes.made m.bytes.number p)

  -- ---- calls

  turned_on : (old new : Inner S) → IsTurned old new → StaysOn old new
  turned_on old new is = elim (turned_aside old new is) [
    | inl lacks ↦ shut_as old new _ lacks.rest_is refl
    | inr aside ↦ λ up. (aside.opens up, subst (λ (s : DataSpace). LimitsStay old.space.streams s.streams) (sym aside.space) (limits_same Nothing old.space.streams))
  ]

  local_on : (b c : Inner S) (u : List Act) → IsLocalCall b c u → StaysOn b c
  local_on b c u (timeout now timed _) = timed_on now b c timed
  local_on b c u (closed now code reason ends stays) = close_on now _ b c ends stays
  local_on b c u (polled told is) = told_on b c told is
  local_on b c u (endpoint_polled told is) = drained_on b c told is
  local_on b c u (turned is) = turned_on b c is
  local_on b c u (on_streams _ call) = λ up. (sym (ap (λ (z : Inner S). is_open z.state) (only_streams b c u call)) ∙ up, called_limits Nothing b c u call)

  any_said : (accepts : AcceptsTags S) (sealed : MakesTagsOf S) (b c : Inner S) (u t : List Act) → MakesTags (sealed b.session) → IsAnyCall accepts sealed b c u → IsSameEnd b c → SaysOpen b t → SaysOpen c (t ++ u)
  any_said accepts sealed b c u t tags (handed_in event came _) same p = says_by b c t (event_acts event) same (event_on (accepts b.session) event b c came) p
  any_said accepts sealed b c u t tags (lost event failed _) same p = says_by b c t (event_acts event) same (shut_as b c _ failed.rest_is refl) p
  any_said accepts sealed b c u t tags (datagram_out now before after transmit made back _) same p = datagram_said (sealed b.session) tags now b c before after transmit t same made p
  any_said accepts sealed b c u t tags (control_out now before after frames sent is _) same p = datagram_said (sealed b.session) tags now b c before after sent.transmit t same is.made p
  any_said accepts sealed b c u t tags (nothing_sent none) same p = says_by b c t [] same (kept b c none.0) p
  any_said accepts sealed b c u t tags (unsent failed) same p = says_by b c t [] same (shut_as b c _ failed.rest_is refl) p
  any_said accepts sealed b c u t tags (local _ call) same p = says_by b c t u same (local_on b c u call) p

  -- ---- what is claimed

  pub fresh_said : (c : Inner S) → IsNewSpace c.config c.side c.space → HasSaid c []
  unfolding HasSaid
  fresh_said c new = λ up. record {
    limits = record {
      shared = inl (ap (λ (s : PlainStreams). s.recv.announced.value) new.streams_are);
      counts = λ dir. inl (ap (λ (s : PlainStreams). (counts_of s (is_two_way dir)).announced.value) new.streams_are);
      streams = λ k half is. let there : recv_half_in [] k ≡ Some half = subst (λ (s : PlainStreams). recv_half_in s.recv.halves k ≡ Some half) new.streams_are is in absurd (cc);
    };
    window = ap (λ (s : PlainStreams). s.recv.stream_window) new.streams_are;
  }

  pub made_said : (accepts : AcceptsTags S) (sealed : MakesTagsOf S) (old new : Inner S) (acts t : List Act) → MakesTags (sealed old.session) → AreMade accepts sealed old new acts → HasSaid old t → HasSaid new (t ++ acts)
  unfolding HasSaid
  made_said accepts sealed old new acts t tags made p =
      carried_on accepts sealed SaysOpen old new acts t
      (λ b c u v session step q. any_said accepts sealed b c u v (subst (λ (s : S). MakesTags (sealed s)) (sym session) tags) step.0 step.1.same_end q) made p

  pub limits_said : (c : Inner S) (t : List Act) → is_open c.state ≡ true → HasSaid c t → LimitsAreSaid c t
  unfolding HasSaid
  limits_said c t up p = (p up).limits
