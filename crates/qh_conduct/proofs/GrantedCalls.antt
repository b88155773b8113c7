-- What was announced stays above the first limits, whatever is done with the connection.
use Rattle.std.proofs.Common.{◌≡◌, ◌⊎◌, ℕ, ◌≤◌, ◌^◌, Bool, true, false, List, [], if◌then◌else◌, Option, Some, None, refl, sym, ap, subst, ◌∙◌, arith, inl, inr}
use Rattle.std.specs.Prelude.{MatchBool, min}
use Rattle.std.proofs.lemmas.Bool.{cases_Bool}
use Rattle.qh_base.specs.declared.connection_error.ConnectionError.{ConnectionError}
use Rattle.qh_base.specs.declared.connection_error.ConnectionError.TheVariants.{Memory, LocallyClosed}
use Rattle.qh_base.specs.declared.path.Transmit.{Transmit}
use Rattle.qh_base.specs.declared.time.Moment.{Moment}
use Rattle.qh_conduct.proofs.AnnouncedCalls.{IsQuietStep, aside_step, closes_step, drained_open, drained_step, polled_step, timed_step, with_step}
use Rattle.qh_conduct.proofs.SpaceGoesOn.{bare_go, bare_receives, frames_go, made_go, made_receives}
use Rattle.qh_conduct.proofs.StreamsGoOn.{GoOn, same_go}
use Rattle.qh_conduct.proofs.StreamsReceive.{call_go, limit_at_first}
use Rattle.qh_conduct.proofs.TurnedAside.{IsAside}
use Rattle.qh_conduct.specs.Announced.{IsOver}
use Rattle.qh_conduct.specs.Calls.{IsCall}
use Rattle.qh_conduct.specs.Granted.{AreGranted, AreGrantedBy, HasGranted, TakesDatagrams, first_count_in}
use Rattle.qh_core.proofs.Ends.{ended_with, goes_on_space}
use Rattle.qh_core.specs.Config.{bounded, peer_of}
use Rattle.qh_core.specs.Event.{IsDrainedTold, IsPolledEvent}
use Rattle.qh_core.specs.Inner.{IsFailedBy, IsNewSpace, is_open, with_streams}
use Rattle.qh_core.specs.Receiving.{GoesOnWith, IsClosedWith, IsDatagramTaken, IsEventTaken, IsPacketHandled, IsPacketTaken, received}
use Rattle.qh_core.specs.Receiving.IsDatagramTaken.{dropped, handled, told_again, closed_too, draining, drained}
use Rattle.qh_core.specs.Receiving.IsPacketHandled.{repeated, empty, faulty, unnoted, taken}
use Rattle.qh_core.specs.Sending.{AreFramesMade, IsDatagramMade, NothingIsSent}
use Rattle.qh_core.specs.Sending.AreFramesMade.{packet as packet_made, control as control_made, close as close_made}
use Rattle.qh_core.specs.Timers.{IsTimedOut, restarted}
use Rattle.qh_core.specs.declared.config.ConnConfig.{ConnConfig}
use Rattle.qh_core.specs.declared.event.ConnectionEvent.{ConnectionEvent}
use Rattle.qh_core.specs.declared.event.ConnectionEvent.TheVariants.{Datagram, Close}
use Rattle.qh_core.specs.declared.event.EndpointEvent.{EndpointEvent}
use Rattle.qh_core.specs.declared.event.Event.{Event}
use Rattle.qh_core.specs.declared.inner.Inner.{Inner}
use Rattle.qh_core.specs.declared.state.Close.{Close as CloseReason}
use Rattle.qh_core.specs.declared.state.State.{State}
use Rattle.qh_core.specs.declared.state.State.TheVariants.{Closed, Draining, Drained}
use Rattle.qh_half.specs.Recv.{PlainRecv}
use Rattle.qh_halves.specs.Counts.{has_recv, is_bi, is_own}
use Rattle.qh_halves.specs.RecvHalves.{recv_half_in}
use Rattle.qh_space.specs.Space.{first_streams}
use Rattle.qh_space.specs.declared.data_space.DataSpace.{DataSpace}
use Rattle.qh_spec.specs.declared.sides.Side.{Side}
use Rattle.qh_spec.specs.declared.sides.Space.{Space}
use Rattle.qh_streams.specs.Streams.{PlainStreams, counts_of, first_limit, recv_or_new, was_opened}
use Rattle.qh_streams.specs.declared.frames.PeerLimits.{PeerLimits}
use Rattle.qh_streams.specs.declared.frames.StreamLimits.{StreamLimits}

-- ---- the streams

granted_on : (limits : StreamLimits) (old new : PlainStreams) → GoOn old new → AreGrantedBy limits old → AreGrantedBy limits new
granted_on limits old new go p = record {
  shared = let a = p.shared in let b = go.shared in omega (arith, a, b);
  counts = λ two_way. let a = p.counts two_way in let b = go.counts two_way in omega (arith, a, b);
  streams = λ id half is. elim (go.recv id half is) [
    | inl was ↦ let a = p.streams id was.0 was.1 in let b = was.2 in omega (arith, a, b)
    | inr fresh ↦ subst (λ (w : ℕ). bounded w ≤ half.sent_max_stream_data) p.window fresh.limit
  ];
  window = go.window ∙ p.window;
}

first_counts : (side : Side) (limits : StreamLimits) (peer : PeerLimits) (two_way : Bool) → (counts_of (first_streams side limits peer) two_way).announced.value ≡ min (first_count_in (peer_of limits) two_way) (2 ^ 60)
first_counts side limits peer true = refl
first_counts side limits peer false = refl

first_granted : (side : Side) (limits : StreamLimits) (peer : PeerLimits) (s : PlainStreams) → s ≡ first_streams side limits peer → AreGrantedBy limits s
first_granted side limits peer s e = record {
  shared = let same = ap (λ (s : PlainStreams). s.recv.announced.value) e in omega (arith, same);
  counts = λ two_way. let same = ap (λ (s : PlainStreams). (counts_of s two_way).announced.value) e ∙ first_counts side limits peer two_way in omega (arith, same);
  streams = λ id half is. let there : recv_half_in [] id ≡ Some half = subst (λ (s : PlainStreams). recv_half_in s.recv.halves id ≡ Some half) e is in absurd (cc);
  window = ap (λ (s : PlainStreams). s.recv.stream_window) e;
}

-- a half that is there, or comes with the next frame
pub half_granted : (limits : StreamLimits) (s : PlainStreams) (id : ℕ) (half : PlainRecv) → AreGrantedBy limits s → recv_or_new s id ≡ Some half → bounded limits.stream_window ≤ half.sent_max_stream_data
half_granted limits s id half p is = elim (cases_Bool (was_opened s id)) [
  | inl opened ↦ p.streams id half (rw opened at is)
  | inr never ↦ subst (λ (w : ℕ). bounded w ≤ half.sent_max_stream_data) p.window (limit_at_first (has_recv s.side id) (bounded s.recv.stream_window) half (rw never at is))
]

same_whichever : (b : Bool) (x y z : ℕ) → x ≡ z → y ≡ z → (if b then x else y) ≡ z
same_whichever true x y z left right = left
same_whichever false x y z left right = right

pub first_of_peer : (limits : StreamLimits) (s : PlainStreams) (id : ℕ) → s.peer ≡ peer_of limits → first_limit s id ≡ bounded limits.stream_window
first_of_peer limits s id is =
    same_whichever (is_bi id) _ _ _
    (same_whichever (is_own s.side id) _ _ _ (ap (λ (p : PeerLimits). p.bidi_remote) is) (ap (λ (p : PeerLimits). p.bidi_local) is))
    (ap (λ (p : PeerLimits). p.uni) is)

module _ {S : Type 0} where
  -- ---- what matters here of a step

  record IsGrantStep (old new : Inner S) : Type 0 where
    config : new.config ≡ old.config
    streams : GoOn old.space.streams new.space.streams
    receives : new.space.datagram_receive ≡ old.space.datagram_receive
    over : IsOver old → IsOver new

  abbrev Stays : Inner S → Type 0
  Stays c = IsOver c ⊎ (AreGranted c × TakesDatagrams c)

  goes_on : (old new : Inner S) → IsGrantStep old new → Stays old → Stays new
  goes_on old new step (inl over) = inl (step.over over)
  goes_on old new step (inr (p, takes)) = inr (
    subst (λ (c : ConnConfig). AreGrantedBy c.limits new.space.streams) (sym step.config) (granted_on old.config.limits old.space.streams new.space.streams step.streams p),
    step.receives ∙ takes ∙ sym (ap (λ (c : ConnConfig). c.datagram_receive) step.config),
  )

  quiet_on : (old new : Inner S) → IsQuietStep old new → Stays old → Stays new
  quiet_on old new q p = goes_on old new (record { config = q.config; streams = q.streams; receives = q.receives; over = q.over }) p

  same_on : (old new : Inner S) → new ≡ old → Stays old → Stays new
  same_on old new e p = subst (λ (c : Inner S). Stays c) (sym e) p

  -- ---- calls, and what is told

  pub called : (old new : Inner S) → IsCall old.space.streams new.space.streams → new ≡ with_streams old new.space.streams → HasGranted old → HasGranted new
  unfolding HasGranted
  called old new call e p = quiet_on old new (with_step old new (call_go old.space.streams new.space.streams call) e) p

  pub polled_granted : (old new : Inner S) (o : Option Event) → IsPolledEvent old new o → HasGranted old → HasGranted new
  unfolding HasGranted
  polled_granted old new o is p = quiet_on old new (polled_step old new o is) p

  pub drained_granted : (old new : Inner S) (o : Option EndpointEvent) → IsDrainedTold old new o → HasGranted old → HasGranted new
  unfolding HasGranted
  drained_granted old new o is p = quiet_on old new (drained_step old new o is) p

  -- ---- nothing is sent, and what is due

  pub none_granted : (old new : Inner S) → NothingIsSent old new → HasGranted old → HasGranted new
  none_granted old new is p = subst (λ (c : Inner S). HasGranted c) (sym is.0) p

  pub timed_granted : (now : ℕ) (old new : Inner S) → IsTimedOut now old new → HasGranted old → HasGranted new
  unfolding HasGranted
  timed_granted now old new is p = quiet_on old new (timed_step now old new is) p

  pub aside_granted : (old new : Inner S) → IsAside old new → HasGranted old → HasGranted new
  unfolding HasGranted
  aside_granted old new a p = quiet_on old new (aside_step old new a) p

  -- ---- what comes

  config_behind : (now : Moment) (end : Option ConnectionError) (old new : Inner S) → GoesOnWith now end old new → new.config ≡ old.config
  config_behind now None old new e = ap (λ (c : Inner S). c.config) e
  config_behind now (Some e) old new on = ap (λ (c : Inner S). c.config) (ended_with now e old new on).rest_is

  packet_step : (now : Moment) (number : ℕ) (bytes : List ℕ) (old new : Inner S) → is_open old.state ≡ true → IsPacketTaken now number bytes old new → IsGrantStep old new
  packet_step now number bytes old new up a =
      let behind : Inner S = record old { space = a.space; idle = restarted now old.idle } in
      let same_streams : a.mid.streams ≡ old.space.streams = ap (λ (s : DataSpace). s.streams) a.accepted.rest_is in
      record {
        config = config_behind now a.end behind new a.goes_on;
        streams = subst (λ (s : DataSpace). GoOn old.space.streams s.streams) (sym (goes_on_space now a.end behind new a.goes_on))
            (subst (λ (s : PlainStreams). GoOn s a.space.streams) same_streams (frames_go now.0 bytes a.mid a.space a.taken a.end a.are_taken).streams);
        receives = ap (λ (s : DataSpace). s.datagram_receive) (goes_on_space now a.end behind new a.goes_on) ∙ (frames_go now.0 bytes a.mid a.space a.taken a.end a.are_taken).receives
            ∙ ap (λ (s : DataSpace). s.datagram_receive) a.accepted.rest_is;
        over = λ over. absurd (drained_open old.state over.1 up);
      }

  closes_on : (now : Moment) (reason : CloseReason) (error : ConnectionError) (old new : Inner S) → is_open old.state ≡ true → IsClosedWith now reason error old new → Stays old → Stays new
  closes_on now reason error old new up c p = quiet_on old new (closes_step now reason error old new up c) p

  handled_on : (now : Moment) (number : ℕ) (bytes : List ℕ) (old new : Inner S) → is_open old.state ≡ true → IsPacketHandled now number bytes old new → Stays old → Stays new
  handled_on now number bytes old new up (repeated is e) p = same_on old new e p
  handled_on now number bytes old new up (empty fault is no_byte says f) p = closes_on now f.reason _ old new up f.closed p
  handled_on now number bytes old new up (faulty fault kind is at says f) p = closes_on now f.reason _ old new up f.closed p
  handled_on now number bytes old new up (unnoted fault eliciting is read at f) p = closes_on now f.reason _ old new up f.closed p
  handled_on now number bytes old new up (taken is a) p = goes_on old new (packet_step now number bytes old new up a) p

  -- the connection was closed, and goes on so
  closed_on : (old new : Inner S) (before after : State) → old.state ≡ before → (before ≡ Drained → ⊥) → new ≡ record old { state = after } → Stays old → Stays new
  closed_on old new before after is other e p = goes_on old new (record {
    config = ap (λ (c : Inner S). c.config) e;
    streams = subst (λ (c : Inner S). GoOn old.space.streams c.space.streams) (sym e) (same_go old.space.streams);
    receives = ap (λ (c : Inner S). c.space.datagram_receive) e;
    over = λ over. absurd (other (sym is ∙ over.1));
  }) p

  datagram_on : (accepts : Side → Space → ℕ → List ℕ → Bool) (now : Moment) (d : List ℕ) (old new : Inner S) → IsDatagramTaken accepts now d old new → Stays old → Stays new
  datagram_on accepts now d old new (dropped up none e) p = same_on old new e p
  datagram_on accepts now d old new (handled number bytes up opened h) p = handled_on now number bytes old new up h p
  datagram_on accepts now d old new (told_again reason is_due until is none e) p = closed_on old new (Closed reason is_due until) (Closed reason true until) is (λ same. cc) e p
  datagram_on accepts now d old new (closed_too reason is_due until is brings e) p = closed_on old new (Closed reason is_due until) (Draining until) is (λ same. cc) e p
  datagram_on accepts now d old new (draining until is e) p = same_on old new e p
  datagram_on accepts now d old new (drained is e) p = same_on old new e p

  maybe_closes : (up : Bool) (now : Moment) (reason : CloseReason) (old new : Inner S) → is_open old.state ≡ up → MatchBool up (IsClosedWith now reason LocallyClosed old new) (new ≡ old) → Stays old → Stays new
  maybe_closes true now reason old new up c p = closes_on now reason LocallyClosed old new up c p
  maybe_closes false now reason old new up e p = same_on old new e p

  pub event_granted : (accepts : Side → Space → ℕ → List ℕ → Bool) (event : ConnectionEvent) (old new : Inner S) → IsEventTaken accepts event old new → HasGranted old → HasGranted new
  unfolding HasGranted
  event_granted accepts (Datagram now remote payload) old new came p = datagram_on accepts now payload (received (Datagram now remote payload) old) new came p
  event_granted accepts (Close now code reason) old new came p = maybe_closes (is_open old.state) now _ old new refl came p

  -- ---- what is handed out

  frames_step : (now : Moment) (old new : Inner S) (before frames : List ℕ) → AreFramesMade now old new before frames → IsGrantStep old new
  frames_step now old new before frames (packet_made up m e) = record {
    config = ap (λ (c : Inner S). c.config) e;
    streams = made_go _ _ _ old.space new.space _ _ m;
    receives = made_receives _ _ _ old.space new.space _ _ m;
    over = λ over. absurd (drained_open old.state over.1 up);
  }
  frames_step now old new before frames (control_made up m e) = record {
    config = ap (λ (c : Inner S). c.config) e;
    streams = bare_go _ _ old.space new.space m.sent;
    receives = bare_receives _ _ old.space new.space m.sent;
    over = λ over. absurd (drained_open old.state over.1 up);
  }
  frames_step now old new before frames (close_made reason until is bytes_are e) = record {
    config = ap (λ (c : Inner S). c.config) e;
    streams = subst (λ (c : Inner S). GoOn old.space.streams c.space.streams) (sym e) (same_go old.space.streams);
    receives = ap (λ (c : Inner S). c.space.datagram_receive) e;
    over = λ over. let same : Closed reason true until ≡ Drained = sym is ∙ over.1 in absurd (cc);
  }

  pub made_granted : (sealed : Side → Space → ℕ → List ℕ) (now : Moment) (old new : Inner S) (before after : List ℕ) (transmit : Transmit) → IsDatagramMade sealed now old new before after transmit → HasGranted old → HasGranted new
  unfolding HasGranted
  made_granted sealed now old new before after transmit made p = goes_on old new (frames_step now old new _ _ made.bytes.made) p

  -- ---- the ends

  pub fresh_granted : (c : Inner S) → IsNewSpace c.config c.side c.space → HasGranted c
  unfolding HasGranted
  fresh_granted c new = inr (first_granted c.side c.config.limits c.config.peer c.space.streams new.streams_are, new.datagrams)

  pub failed_granted : (old new : Inner S) → IsFailedBy old new → HasGranted new
  unfolding HasGranted
  failed_granted old new failed = inl (ap (λ (c : Inner S). c.error) failed.rest_is, ap (λ (c : Inner S). c.state) failed.rest_is)

  pub means_granted : (c : Inner S) → HasGranted c → (c.error ≡ Some Memory → ⊥) → AreGranted c
  unfolding HasGranted
  means_granted c (inl over) whole = absurd (whole over.0)
  means_granted c (inr p) whole = p.0

  pub takes_granted : (c : Inner S) → HasGranted c → (c.error ≡ Some Memory → ⊥) → TakesDatagrams c
  unfolding HasGranted
  takes_granted c (inl over) whole = absurd (whole over.0)
  takes_granted c (inr p) whole = p.1
