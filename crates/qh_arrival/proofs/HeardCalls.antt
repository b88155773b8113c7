-- A limit that is known of the peer was given by it, whatever is done with the end.
use Rattle.std.proofs.Common.{◌≡◌, ℕ, ◌+◌, ◌-◌, ◌^◌, max, min, Bool, true, false, List, [], ◌∷◌, ◌++◌, length, Option, Some, None, refl, sym, ap, subst, ◌∙◌, inl, inr, arith}
use Rattle.std.specs.Prelude.{MatchBool, Ok}
use Rattle.std.proofs.lemmas.Bool.{both_ways, cases_Bool}
use Rattle.qh_arrival.proofs.AcceptedOnce.{accepted_once}
use Rattle.qh_arrival.proofs.HeardStreams.{GivenOn, aged_given, called_given, first_same, frames_given, given_more, given_on, given_same, packet_given, polled_given, probed_given}
use Rattle.qh_arrival.proofs.SaidCalls.{Nothing}
use Rattle.qh_arrival.specs.Heard.{HasHeard, Hears, IsHeardIn, LimitsAreHeard}
use Rattle.qh_arrival.specs.Said.{began_with, max_data_frame, max_stream_data_frame, max_streams_frame}
use Rattle.qh_base.specs.declared.connection_error.ConnectionError.{ConnectionError}
use Rattle.qh_base.specs.declared.connection_error.ConnectionError.TheVariants.{LocallyClosed}
use Rattle.qh_base.specs.declared.time.Moment.{Moment}
use Rattle.qh_conduct.proofs.TurnedAside.{turned_aside}
use Rattle.qh_core.proofs.ControlFrames.{bare_rest}
use Rattle.qh_core.proofs.Ends.{goes_on_open}
use Rattle.qh_core.proofs.MadeTogether.{carried_on}
use Rattle.qh_core.specs.Event.{IsDrainedTold, IsPolledEvent}
use Rattle.qh_core.specs.Event.IsDrainedTold.{drained as drain_told, none as no_drain_told}
use Rattle.qh_core.specs.Event.IsPolledEvent.{stream, lost as lost_told, none as nothing}
use Rattle.qh_core.specs.Follows.{control_acts, event_acts, transmit_acts}
use Rattle.qh_core.specs.Inner.{IsNewSpace, IsSameEnd, is_open}
use Rattle.qh_core.specs.Made.{AcceptsTags, AreMade, IsAnyCall, IsLocalCall, IsTurned, MakesTagsOf}
use Rattle.qh_core.specs.Made.IsAnyCall.{handed_in as datagram_in, lost, handed_out as datagram_out, control_out, nothing_sent, unsent, local}
use Rattle.qh_core.specs.Made.IsLocalCall.{timeout, closed, polled, endpoint_polled, turned, on_streams}
use Rattle.qh_core.specs.Receiving.{AreFramesTaken, IsClosedWith, IsDatagramTaken, IsEventTaken, IsNewTo, IsOpenedBy, IsPacketHandled, IsPacketTaken, received}
use Rattle.qh_core.specs.Receiving.IsDatagramTaken.{dropped, handled, told_again, closed_too, draining, drained}
use Rattle.qh_core.specs.Receiving.IsPacketHandled.{repeated, empty, faulty, unnoted, taken}
use Rattle.qh_core.specs.Sending.{AreFramesMade, overhead}
use Rattle.qh_core.specs.Sending.AreFramesMade.{packet as packet_made, control as control_made, close as close_made}
use Rattle.qh_core.specs.Timers.{IsTimedOut, restarted}
use Rattle.qh_core.specs.Timers.IsTimedOut.{idle, recovery, closed as closed_out, draining as draining_over, waits, drained as drained_still}
use Rattle.qh_core.specs.declared.config.ConnConfig.{ConnConfig}
use Rattle.qh_core.specs.declared.event.ConnectionEvent.{ConnectionEvent}
use Rattle.qh_core.specs.declared.event.ConnectionEvent.TheVariants.{Datagram, Close}
use Rattle.qh_core.specs.declared.event.EndpointEvent.{EndpointEvent}
use Rattle.qh_core.specs.declared.event.Event.{Event}
use Rattle.qh_core.specs.declared.inner.Inner.{Inner}
use Rattle.qh_core.specs.declared.state.Close.{Close as CloseReason}
use Rattle.qh_frame.specs.Plain.{by_dir}
use Rattle.qh_halves.specs.SendHalves.{half_in}
use Rattle.qh_owing.proofs.LedgerStreams.{hands_none, only_streams}
use Rattle.qh_owing.proofs.NumbersKept.{aged_same, frames_same, made_same, probed_same}
use Rattle.qh_owing.proofs.OwingConnections.{BringsNone, none_come, not_new, one_come, unopened}
use Rattle.qh_owing.specs.Owing.{AreAccepted, numbers_of}
use Rattle.qh_packet.specs.Session.{AcceptsTag}
use Rattle.qh_owing.specs.Owing.AreAccepted.{none as none_accepted, taken as brings_one}
use Rattle.qh_recovery.specs.Accepted.{Remembers}
use Rattle.qh_space.specs.declared.data_space.DataSpace.{DataSpace}
use Rattle.qh_spec.specs.Datagram.{Packet}
use Rattle.qh_spec.specs.Link.{other}
use Rattle.qh_spec.specs.Lists.{In}
use Rattle.qh_spec.specs.QuicFrames.{QuicFrame}
use Rattle.qh_spec.specs.Transcript.{Act, HandedIn, handed_in}
use Rattle.qh_spec.specs.declared.sides.Dir.{Dir}
use Rattle.qh_spec.specs.declared.sides.Dir.TheVariants.{Bi, Uni}
use Rattle.qh_spec.specs.declared.sides.Space.TheVariants.{Data}
use Rattle.qh_streams.specs.Streams.{PlainStreams, counts_of, is_two_way}

-- the first limit of a count
above_zero : (n : ℕ) → max 0 n ≡ n
above_zero n = omega arith

heard_more : (before more : List Packet) → ((x : Packet) → In x before → In x more) → (f : QuicFrame) → IsHeardIn before f → IsHeardIn more f
heard_more before more part f h = record { packet = h.packet; among = part h.packet h.among; frame_among = h.frame_among }

module _ {S : Type 0} where
  -- ---- limits that stay, or are given

  limits_on : (old new : Inner S) (before more : List Packet) → IsSameEnd old new → ((x : Packet) → In x before → In x more) → old.space.streams.side ≡ old.side → old.space.streams.peer ≡ old.config.peer
      → GivenOn (IsHeardIn more) old.space.streams new.space.streams → LimitsAreHeard old before → LimitsAreHeard new more
  limits_on old new before more same part side peer on p =
      let peers : old.config.peer ≡ new.config.peer = ap (λ (c : ConnConfig). c.peer) (sym same.config) in
      record {
        shared = elim on.send.shared [
          | inl stays ↦ elim p.shared [
            | inl first ↦ inl (stays ∙ first ∙ ap (λ (c : ConnConfig). c.peer.max_data) (sym same.config))
            | inr given ↦ inr (heard_more before more part _ (subst (λ (n : ℕ). IsHeardIn before (max_data_frame n)) (sym stays) given))
          ]
          | inr given ↦ inr given
        ];
        counts = λ dir. elim (on.counts dir) [
          | inl stays ↦ elim (p.counts dir) [
            | inl first ↦ inl (stays ∙ first ∙ ap (λ (c : ConnConfig). min (by_dir dir c.peer.max_bidi c.peer.max_uni) (2 ^ 60)) (sym same.config))
            | inr given ↦ inr (heard_more before more part _ (subst (λ (n : ℕ). IsHeardIn before (max_streams_frame dir n)) (sym stays) given))
          ]
          | inr given ↦ inr given
        ];
        streams = λ k half is. elim (on.send.halves k half is) [
          | inl (inl was) ↦ elim (p.streams k was.0 was.1) [
            | inl first ↦ inl (was.2 ∙ first ∙ first_same (began_with new) (began_with old) k (sym same.side) peers)
            | inr given ↦ inr (heard_more before more part _ (subst (λ (n : ℕ). IsHeardIn before (max_stream_data_frame k n)) (sym was.2) given))
          ]
          | inl (inr fresh) ↦ inl (fresh ∙ first_same (began_with new) old.space.streams k (side ∙ sym same.side) (peer ∙ peers))
          | inr given ↦ inr given
        ];
      }

  -- ---- steps that bring no packet

  -- an end that is open now was so before, it remembers the same numbers, and knows the same limits
  record KeepsOn (old new : Inner S) : Type 0 where
    was : is_open old.state ≡ true
    dedup : new.space.dedup ≡ old.space.dedup
    given : GivenOn Nothing old.space.streams new.space.streams

  abbrev StaysOn : (old new : Inner S) → Type 0
  StaysOn old new = is_open new.state ≡ true → KeepsOn old new

  shut : (old new : Inner S) → is_open new.state ≡ false → StaysOn old new
  shut old new down up = absurd (both_ways (is_open new.state) down up)

  shut_as : (old new c : Inner S) → new ≡ c → is_open c.state ≡ false → StaysOn old new
  shut_as old new c e down = shut old new (ap (λ (z : Inner S). is_open z.state) e ∙ down)

  -- it is this one, which was open where the other was
  as_is : (old new c : Inner S) → new ≡ c → (is_open c.state ≡ true → is_open old.state ≡ true) → c.space.dedup ≡ old.space.dedup → GivenOn Nothing old.space.streams c.space.streams → StaysOn old new
  as_is old new c e was dedup given up = record {
    was = was (sym (ap (λ (z : Inner S). is_open z.state) e) ∙ up);
    dedup = ap (λ (z : Inner S). z.space.dedup) e ∙ dedup;
    given = subst (λ (z : Inner S). GivenOn Nothing old.space.streams z.space.streams) (sym e) given;
  }

  kept : (old new : Inner S) → new ≡ old → StaysOn old new
  kept old new e = as_is old new old e (λ up. up) refl (given_same Nothing old.space.streams)

  -- ---- what is told, and what is due

  told_on : (old new : Inner S) (told : Option Event) → IsPolledEvent old new told → StaysOn old new
  told_on old new _ (stream e is rest) = as_is old new _ rest (λ up. up) refl (polled_given Nothing old.space.streams new.space.streams (Some e) is)
  told_on old new _ (lost_told mid error is why untold rest) = as_is old new _ rest (λ up. up) refl (polled_given Nothing old.space.streams mid None is)
  told_on old new _ (nothing is why rest) = as_is old new _ rest (λ up. up) refl (polled_given Nothing old.space.streams new.space.streams None is)

  drained_on : (old new : Inner S) (told : Option EndpointEvent) → IsDrainedTold old new told → StaysOn old new
  drained_on old new _ (drain_told is untold rest) = as_is old new _ rest (λ up. up) refl (given_same Nothing old.space.streams)
  drained_on old new _ (no_drain_told why rest) = kept old new rest

  timed_on : (now : ℕ) (old new : Inner S) → IsTimedOut now old new → StaysOn old new
  timed_on now old new (idle was due e) = shut_as old new _ e refl
  timed_on now old new (recovery mid was not_due aged probed e) = λ up. record {
    was = was;
    dedup = probed_same now mid new.space probed ∙ aged_same now old.space mid aged;
    given = given_on Nothing old.space.streams mid.streams new.space.streams (aged_given Nothing now old.space mid aged) (probed_given Nothing now mid new.space probed);
  }
  timed_on now old new (closed_out reason is_due until is by_now e) = shut_as old new _ e refl
  timed_on now old new (draining_over until is by_now e) = shut_as old new _ e refl
  timed_on now old new (waits moment is before e) = kept old new e
  timed_on now old new (drained_still is e) = kept old new e

  closes_on : (now : Moment) (reason : CloseReason) (error : ConnectionError) (old new : Inner S) → IsClosedWith now reason error old new → StaysOn old new
  closes_on now reason error old new c = shut_as old new _ c.rest_is refl

  maybe_closes : (up : Bool) (now : Moment) (reason : CloseReason) (old new : Inner S) → MatchBool up (IsClosedWith now reason LocallyClosed old new) (new ≡ old) → StaysOn old new
  maybe_closes true now reason old new c = closes_on now reason LocallyClosed old new c
  maybe_closes false now reason old new e = kept old new e

  close_on : (now : Moment) (reason : CloseReason) (old new : Inner S) → (is_open old.state ≡ true → IsClosedWith now reason LocallyClosed old new) → (is_open old.state ≡ false → new ≡ old) → StaysOn old new
  close_on now reason old new ends stays = elim (cases_Bool (is_open old.state)) [
    | inl was ↦ closes_on now reason LocallyClosed old new (ends was)
    | inr down ↦ kept old new (stays down)
  ]

  -- ---- what is handed out

  frames_on : (now : Moment) (old new : Inner S) (before frames : List ℕ) → AreFramesMade now old new before frames → StaysOn old new
  frames_on now old new before frames (packet_made was m e) = λ up. record {
    was = was;
    dedup = made_same now.0 (overhead old) (1200 - overhead old) old.space new.space before (before ++ frames) m;
    given = packet_given Nothing now.0 (overhead old) (1200 - overhead old) old.space new.space before (before ++ frames) m;
  }
  frames_on now old new before frames (control_made was m e) =
      let rest = bare_rest now.0 (overhead old + length frames) old.space new.space m.sent in
      λ up. record {
        was = was;
        dedup = rest.dedup;
        given = subst (λ (s : PlainStreams). GivenOn Nothing old.space.streams s) (sym rest.streams) (given_same Nothing old.space.streams);
      }
  frames_on now old new before frames (close_made reason until is bytes_are e) = shut_as old new _ e refl

  -- ---- calls that bring no datagram

  turned_on : (old new : Inner S) → IsTurned old new → StaysOn old new
  turned_on old new is = elim (turned_aside old new is) [
    | inl lacks ↦ shut_as old new _ lacks.rest_is refl
    | inr aside ↦ λ up. record {
      was = aside.opens up;
      dedup = ap (λ (s : DataSpace). s.dedup) aside.space;
      given = subst (λ (s : DataSpace). GivenOn Nothing old.space.streams s.streams) (sym aside.space) (given_same Nothing old.space.streams);
    }
  ]

  local_on : (b c : Inner S) (u : List Act) → IsLocalCall b c u → StaysOn b c
  local_on b c u (timeout now timed _) = timed_on now b c timed
  local_on b c u (closed now code reason ends stays) = close_on now _ b c ends stays
  local_on b c u (polled told is) = told_on b c told is
  local_on b c u (endpoint_polled told is) = drained_on b c told is
  local_on b c u (turned is) = turned_on b c is
  local_on b c u (on_streams _ call) = as_is b c _ (only_streams b c u call) (λ up. up) refl (called_given Nothing b c u call)

  local_in : (b c : Inner S) (u : List Act) → IsLocalCall b c u → handed_in u ≡ []
  local_in b c u (timeout _ _ _) = refl
  local_in b c u (closed _ _ _ _ _) = refl
  local_in b c u (polled _ _) = refl
  local_in b c u (endpoint_polled _ _) = refl
  local_in b c u (turned _) = refl
  local_in b c u (on_streams _ call) = (hands_none b c u call).0

  module _ (accepts : AcceptsTag) where
    -- how an end stands, while it is open
    abbrev HearsOpen : Inner S → List Act → Type 0
    HearsOpen c t = is_open c.state ≡ true → Hears accepts c t

    heard_on : (old new : Inner S) (t u : List Act) (h : Hears accepts old t) (more : List Packet) → IsSameEnd old new → ((x : Packet) → In x h.accepted → In x more)
        → AreAccepted accepts old.local_id (other old.side) (handed_in (t ++ u)) more → Remembers (numbers_of more) new.space.dedup → GivenOn (IsHeardIn more) old.space.streams new.space.streams
        → Hears accepts new (t ++ u)
    heard_on old new t u h more same part are known on = record {
      accepted = more;
      are = rw (same.local_id, same.side) are;
      remembers = known;
      limits = limits_on old new h.accepted more same part h.side h.peer on h.limits;
      side = on.side ∙ (h.side ∙ sym same.side);
      peer = on.peer ∙ (h.peer ∙ ap (λ (c : ConnConfig). c.peer) (sym same.config));
    }

    hears_by : (old new : Inner S) (t u : List Act) → IsSameEnd old new → StaysOn old new → BringsNone accepts old new t u → HearsOpen old t → HearsOpen new (t ++ u)
    hears_by old new t u same on none p up =
        let k = on up in
        let h = p k.was in
        heard_on old new t u h h.accepted same (λ x is. is) (none h.accepted up h.remembers h.are) (rw (k.dedup) h.remembers)
        (given_more Nothing (IsHeardIn h.accepted) old.space.streams new.space.streams (λ f never. absurd never) k.given)

    down : (old new : Inner S) (t u : List Act) → is_open new.state ≡ false → HearsOpen new (t ++ u)
    down old new t u shut_now up = absurd (both_ways (is_open new.state) shut_now up)

    -- ---- a datagram comes

    packet_heard : (now : Moment) (number : ℕ) (bytes d : List ℕ) (old new : Inner S) (t : List Act) → IsSameEnd old new → is_open old.state ≡ true → IsOpenedBy accepts old d number bytes
        → IsNewTo old.space number → IsPacketTaken now number bytes old new → HearsOpen old t → HearsOpen new (t ++ HandedIn d ∷ [])
    packet_heard now number bytes d old new t same was opened fresh a p up =
        let h = p was in
        let fs = a.surveyed.frames in
        let packet : Packet = record { space = Data; sender = other old.side; number = number; frames = fs } in
        let more = packet ∷ h.accepted in
        let went = goes_on_open now a.end (record old { space = a.space; idle = restarted now old.idle }) new a.goes_on up in
        let are = subst (λ (end : Option ConnectionError). AreFramesTaken now.0 bytes a.mid a.space a.taken end) went.0 a.are_taken in
        let begun : a.mid.streams ≡ old.space.streams = ap (λ (s : DataSpace). s.streams) a.accepted.rest_is in
        let space : new.space ≡ a.space = ap (λ (c : Inner S). c.space) went.1 in
        let given : GivenOn (IsHeardIn more) old.space.streams a.space.streams =
        subst (λ (s : PlainStreams). GivenOn (IsHeardIn more) s a.space.streams) begun
        (frames_given (IsHeardIn more) now.0 bytes a.mid a.space a.taken fs are a.surveyed.are (λ q among. record { packet = packet; among = inl refl; frame_among = among })) in
        let known : Remembers (number ∷ numbers_of h.accepted) a.space.dedup = rw (frames_same now.0 bytes a.mid a.space a.taken None are) (a.accepted.remembers (numbers_of h.accepted) h.remembers) in
        heard_on old new t (HandedIn d ∷ []) h more same (λ x is. inr is)
        (subst (λ (z : List (List ℕ)). AreAccepted accepts old.local_id (other old.side) z more) (sym (one_come t d))
        (brings_one (handed_in t) d h.accepted packet opened.expected bytes h.are (opened.is_expected (numbers_of h.accepted) h.remembers) opened.is a.surveyed.are refl refl
        (fresh (numbers_of h.accepted) h.remembers)))
        (subst (λ (s : DataSpace). Remembers (number ∷ numbers_of h.accepted) s.dedup) (sym space) known)
        (subst (λ (s : DataSpace). GivenOn (IsHeardIn more) old.space.streams s.streams) (sym space) given)

    handled_heard : (now : Moment) (number : ℕ) (bytes d : List ℕ) (old new : Inner S) (t : List Act) → IsSameEnd old new → is_open old.state ≡ true → IsOpenedBy accepts old d number bytes
        → IsPacketHandled now number bytes old new → HearsOpen old t → HearsOpen new (t ++ HandedIn d ∷ [])
    handled_heard now number bytes d old new t same was opened (repeated is e) p =
        hears_by old new t (HandedIn d ∷ []) same (kept old new e) (λ accepted up known are. not_new accepts old t d number bytes opened is accepted was known are) p
    handled_heard now number bytes d old new t same was opened (empty fault is no_byte says f) p = down old new t (HandedIn d ∷ []) (ap (λ (z : Inner S). is_open z.state) f.closed.rest_is)
    handled_heard now number bytes d old new t same was opened (faulty fault kind is at says f) p = down old new t (HandedIn d ∷ []) (ap (λ (z : Inner S). is_open z.state) f.closed.rest_is)
    handled_heard now number bytes d old new t same was opened (unnoted fault eliciting is read at f) p = down old new t (HandedIn d ∷ []) (ap (λ (z : Inner S). is_open z.state) f.closed.rest_is)
    handled_heard now number bytes d old new t same was opened (taken is a) p = packet_heard now number bytes d old new t same was opened is a p

    datagram_heard : (now : Moment) (d : List ℕ) (old new : Inner S) (t : List Act) → IsSameEnd old new → IsDatagramTaken accepts now d old new → HearsOpen old t → HearsOpen new (t ++ HandedIn d ∷ [])
    datagram_heard now d old new t same (dropped was never e) p =
        hears_by old new t (HandedIn d ∷ []) same (kept old new e) (λ accepted up known are. unopened accepts old t d never accepted was known are) p
    datagram_heard now d old new t same (handled number bytes was opened h) p = handled_heard now number bytes d old new t same was opened h p
    datagram_heard now d old new t same (told_again reason is_due until is none e) p = down old new t (HandedIn d ∷ []) (ap (λ (z : Inner S). is_open z.state) e)
    datagram_heard now d old new t same (closed_too reason is_due until is brings e) p = down old new t (HandedIn d ∷ []) (ap (λ (z : Inner S). is_open z.state) e)
    datagram_heard now d old new t same (draining until is e) p = down old new t (HandedIn d ∷ []) (ap (λ (z : Inner S). is_open z.state) e ∙ ap is_open is)
    datagram_heard now d old new t same (drained is e) p = down old new t (HandedIn d ∷ []) (ap (λ (z : Inner S). is_open z.state) e ∙ ap is_open is)

    -- a datagram that came is counted
    counted_heard : (c : Inner S) (u : _) (t : List Act) → HearsOpen c t → HearsOpen (record c { udp_rx = u }) t
    counted_heard c u t p up =
        let h = p up in
        record {
          accepted = h.accepted;
          are = h.are;
          remembers = h.remembers;
          limits = record { shared = h.limits.shared; counts = h.limits.counts; streams = h.limits.streams };
          side = h.side;
          peer = h.peer;
        }

    event_heard : (event : ConnectionEvent) (old new : Inner S) (t : List Act) → IsSameEnd old new → IsEventTaken accepts event old new → HearsOpen old t → HearsOpen new (t ++ event_acts event)
    event_heard (Datagram now remote payload) old new t same came p =
        datagram_heard now payload (received (Datagram now remote payload) old) new t (record { side = same.side; local_id = same.local_id; remote_length = same.remote_length; config = same.config }) came
        (counted_heard old _ t p)
    event_heard (Close now code reason) old new t same came p = hears_by old new t [] same (maybe_closes (is_open old.state) now _ old new came) (none_come accepts old new t [] refl) p

  -- ---- calls

  any_heard : (accepts : AcceptsTags S) (sealed : MakesTagsOf S) (b c : Inner S) (u t : List Act) → IsAnyCall accepts sealed b c u → IsSameEnd b c
      → HearsOpen (accepts b.session) b t → HearsOpen (accepts b.session) c (t ++ u)
  any_heard accepts sealed b c u t (datagram_in event came _) same p = event_heard (accepts b.session) event b c t same came p
  any_heard accepts sealed b c u t (lost event failed _) same p = down (accepts b.session) b c t (event_acts event) (ap (λ (z : Inner S). is_open z.state) failed.rest_is)
  any_heard accepts sealed b c u t (datagram_out now before after transmit made back _) same p =
      let acts = transmit_acts before after (Ok (Some transmit)) in
      hears_by (accepts b.session) b c t acts same (frames_on now b c _ made.bytes.frames made.bytes.made) (none_come (accepts b.session) b c t acts refl) p
  any_heard accepts sealed b c u t (control_out now before after frames sent is _) same p =
      let acts = control_acts before after (Ok (Some sent)) in
      hears_by (accepts b.session) b c t acts same (frames_on now b c _ is.made.bytes.frames is.made.bytes.made) (none_come (accepts b.session) b c t acts refl) p
  any_heard accepts sealed b c u t (nothing_sent none) same p = hears_by (accepts b.session) b c t [] same (kept b c none.0) (none_come (accepts b.session) b c t [] refl) p
  any_heard accepts sealed b c u t (unsent failed) same p = down (accepts b.session) b c t [] (ap (λ (z : Inner S). is_open z.state) failed.rest_is)
  any_heard accepts sealed b c u t (local _ call) same p =
      hears_by (accepts b.session) b c t u same (local_on b c u call) (none_come (accepts b.session) b c t u (local_in b c u call)) p

  -- ---- what is claimed

  fresh_counts : (c : Inner S) (dir : Dir) → (counts_of (began_with c) (is_two_way dir)).max_opened ≡ min (by_dir dir c.config.peer.max_bidi c.config.peer.max_uni) (2 ^ 60)
  fresh_counts c Bi = above_zero _
  fresh_counts c Uni = above_zero _

  pub fresh_heard : (accepts : AcceptsTag) (c : Inner S) → IsNewSpace c.config c.side c.space → HasHeard accepts c []
  unfolding HasHeard
  fresh_heard accepts c new = λ up. record {
    accepted = [];
    are = none_accepted;
    remembers = new.remembers;
    limits = record {
      shared = inl (ap (λ (s : PlainStreams). s.send.max_data) new.streams_are ∙ above_zero _);
      counts = λ dir. inl (ap (λ (s : PlainStreams). (counts_of s (is_two_way dir)).max_opened) new.streams_are ∙ fresh_counts c dir);
      streams = λ k half is. let there : half_in [] k ≡ Some half = subst (λ (s : PlainStreams). half_in s.send.halves k ≡ Some half) new.streams_are is in absurd (cc);
    };
    side = ap (λ (s : PlainStreams). s.side) new.streams_are;
    peer = ap (λ (s : PlainStreams). s.peer) new.streams_are;
  }

  pub made_heard : (accepts : AcceptsTags S) (sealed : MakesTagsOf S) (old new : Inner S) (acts t : List Act) → AreMade accepts sealed old new acts
      → HasHeard (accepts old.session) old t → HasHeard (accepts old.session) new (t ++ acts)
  unfolding HasHeard
  made_heard accepts sealed old new acts t made =
      carried_on accepts sealed (λ (c : Inner S) (z : List Act). HearsOpen (accepts old.session) c z) old new acts t
      (λ b c u v session step p.
      subst (λ (s : S). HearsOpen (accepts s) c (v ++ u)) session
      (any_heard accepts sealed b c u v step.0 step.1.same_end (subst (λ (s : S). HearsOpen (accepts s) b v) (sym session) p))) made

  pub limits_heard : (accepts : AcceptsTag) (c : Inner S) (t : List Act) → is_open c.state ≡ true → HasHeard accepts c t
      → (accepted : List Packet) × AreAccepted accepts c.local_id (other c.side) (handed_in t) accepted × LimitsAreHeard c accepted
  unfolding HasHeard
  limits_heard accepts c t up p = let h = p up in (h.accepted, h.are, h.limits)

  -- the packets are those, however they are told
  pub packets_heard : (accepts : AcceptsTag) (c : Inner S) (t : List Act) (accepted : List Packet) → is_open c.state ≡ true → HasHeard accepts c t
      → AreAccepted accepts c.local_id (other c.side) (handed_in t) accepted → LimitsAreHeard c accepted
  unfolding HasHeard
  packets_heard accepts c t accepted up p are =
      let h = p up in
      subst (λ (l : List Packet). LimitsAreHeard c l) (accepted_once accepts c.local_id (other c.side) (handed_in t) h.accepted accepted h.are are) h.limits
