-- An end that is open behind a call was open before it.
use Rattle.std.proofs.Common.{◌≡◌, ℕ, Bool, true, false, List, Option, refl, sym, ap, ◌∙◌, inl, inr}
use Rattle.std.specs.Prelude.{MatchBool}
use Rattle.std.proofs.lemmas.Bool.{both_ways, cases_Bool}
use Rattle.qh_base.specs.declared.connection_error.ConnectionError.{ConnectionError}
use Rattle.qh_base.specs.declared.time.Moment.{Moment}
use Rattle.qh_core.specs.Event.{IsDrainedTold, IsPolledEvent}
use Rattle.qh_core.specs.Event.IsDrainedTold.{drained as drain_told, none as no_drain_told}
use Rattle.qh_core.specs.Event.IsPolledEvent.{stream, lost as lost_told, none as nothing_told}
use Rattle.qh_core.specs.Inner.{IsFailedBy, is_open}
use Rattle.qh_core.specs.Made.{AcceptsTags, AreMadeLocally, IsAnyCall, IsLocalCall, IsStreamCall, IsTurned, MakesTagsOf}
use Rattle.qh_core.specs.Made.AreSteps.{none as no_step, more as one_step}
use Rattle.qh_core.specs.Made.IsAnyCall.{handed_in, lost, handed_out, control_out, nothing_sent, unsent, local}
use Rattle.qh_core.specs.Made.IsLocalCall.{timeout, closed, polled, endpoint_polled, on_streams, turned}
use Rattle.qh_core.specs.Made.IsStreamCall.{unchanged, opened, accepted, wrote, unwritten, finished, reset, prioritized, read, stopped, took_reset, concurrent, send_window, receive_window}
use Rattle.qh_core.specs.Made.IsTurned.{faulted, draining as drains, failed, close_told, closed_heard, packet_accepted, packet_sent, renamed, log_started, items_taken}
use Rattle.qh_core.specs.Receiving.{IsClosedHeard, IsClosedWith, IsDatagramTaken, IsEventTaken, received}
use Rattle.qh_core.specs.Receiving.IsClosedHeard.{told_again as told_once_more, closed_too as closed_both, draining as draining_still, drained as drained_before}
use Rattle.qh_core.specs.Receiving.IsDatagramTaken.{dropped, handled, told_again, closed_too, draining, drained}
use Rattle.qh_core.specs.Sending.{AreFramesMade, without_close_due}
use Rattle.qh_core.specs.Sending.AreFramesMade.{packet as packet_made, control as control_made, close as close_made}
use Rattle.qh_core.specs.Streams.{IsWriteRefused}
use Rattle.qh_core.specs.Timers.{IsTimedOut}
use Rattle.qh_core.specs.Timers.IsTimedOut.{idle, recovery, closed as closed_out, draining as draining_out, waits, drained as drained_still}
use Rattle.qh_core.specs.declared.event.ConnectionEvent.{ConnectionEvent}
use Rattle.qh_core.specs.declared.event.ConnectionEvent.TheVariants.{Datagram, Close}
use Rattle.qh_core.specs.declared.event.EndpointEvent.{EndpointEvent}
use Rattle.qh_core.specs.declared.event.Event.{Event}
use Rattle.qh_core.specs.declared.inner.Inner.{Inner}
use Rattle.qh_core.specs.declared.state.Close.{Close as CloseReason}
use Rattle.qh_core.specs.declared.state.State.{State}
use Rattle.qh_core.specs.declared.state.State.TheVariants.{Established, Closed, Draining, Drained}
use Rattle.qh_half.specs.declared.fault.WriteFault.{WriteFault}
use Rattle.qh_spec.specs.Transcript.{Act}
use Rattle.qh_spec.specs.declared.sides.Side.{Side}
use Rattle.qh_spec.specs.declared.sides.Space.{Space}

told_opens : (s : State) → is_open (without_close_due s) ≡ true → is_open s ≡ true
told_opens Established up = up
told_opens (Closed reason is_due until) up = up
told_opens (Draining until) up = up
told_opens Drained up = up

module _ {S : Type 0} where
  abbrev Opens : (old new : Inner S) → Type 0
  Opens old new = is_open new.state ≡ true → is_open old.state ≡ true

  by : (old new c : Inner S) → new ≡ c → Opens old c → Opens old new
  by old new c is opens up = opens (sym (ap (λ (z : Inner S). is_open z.state) is) ∙ up)

  shut : (old new c : Inner S) → new ≡ c → is_open c.state ≡ false → Opens old new
  shut old new c is down up = absurd (both_ways (is_open c.state) down (sym (ap (λ (z : Inner S). is_open z.state) is) ∙ up))

  was : (old new : Inner S) → is_open old.state ≡ true → Opens old new
  was old new up _ = up

  -- ---- calls on streams, and what is due and told

  refused_opens : (id : ℕ) (e : WriteFault) (old new : Inner S) → IsWriteRefused id e old new → Opens old new
  refused_opens id e old new (IsWriteRefused.closed _ _ is) = by old new old is (λ up. up)
  refused_opens id e old new (IsWriteRefused.wanting up _ _ _) = was old new up
  refused_opens id e old new (IsWriteRefused.refused up _ _) = was old new up

  stream_opens : (old new : Inner S) (acts : List Act) → IsStreamCall old new acts → Opens old new
  stream_opens old new _ (unchanged is) = by old new _ is (λ up. up)
  stream_opens old new _ (opened _ _ up _ _ _ _) = was old new up
  stream_opens old new _ (accepted _ _ is) = by old new _ is (λ up. up)
  stream_opens old new _ (wrote _ _ _ up _ _ _) = was old new up
  stream_opens old new _ (unwritten id e denied) = refused_opens id e old new denied
  stream_opens old new _ (finished _ _ is) = by old new _ is (λ up. up)
  stream_opens old new _ (reset _ _ _ is) = by old new _ is (λ up. up)
  stream_opens old new _ (prioritized _ _ _ is) = by old new _ is (λ up. up)
  stream_opens old new _ (read _ _ _ _ _ _ is) = by old new _ is (λ up. up)
  stream_opens old new _ (stopped _ _ _ is) = by old new _ is (λ up. up)
  stream_opens old new _ (took_reset _ _ _ is) = by old new _ is (λ up. up)
  stream_opens old new _ (concurrent _ _ is) = by old new _ is (λ up. up)
  stream_opens old new _ (send_window _ is) = by old new _ is (λ up. up)
  stream_opens old new _ (receive_window _ is) = by old new _ is (λ up. up)

  timed_opens : (now : ℕ) (old new : Inner S) → IsTimedOut now old new → Opens old new
  timed_opens now old new (idle up _ _) = was old new up
  timed_opens now old new (recovery _ up _ _ _ _) = was old new up
  timed_opens now old new (closed_out _ _ _ _ _ is) = shut old new _ is refl
  timed_opens now old new (draining_out _ _ _ is) = shut old new _ is refl
  timed_opens now old new (waits _ _ _ is) = by old new _ is (λ up. up)
  timed_opens now old new (drained_still _ is) = by old new _ is (λ up. up)

  polled_opens : (told : Option Event) (old new : Inner S) → IsPolledEvent old new told → Opens old new
  polled_opens _ old new (stream _ _ is) = by old new _ is (λ up. up)
  polled_opens _ old new (lost_told _ _ _ _ _ is) = by old new _ is (λ up. up)
  polled_opens _ old new (nothing_told _ _ is) = by old new _ is (λ up. up)

  endpoint_opens : (told : Option EndpointEvent) (old new : Inner S) → IsDrainedTold old new told → Opens old new
  endpoint_opens _ old new (drain_told _ _ is) = by old new _ is (λ up. up)
  endpoint_opens _ old new (no_drain_told _ is) = by old new _ is (λ up. up)

  -- what closes only an end that is open
  close_opens : (old new : Inner S) → (is_open old.state ≡ false → new ≡ old) → Opens old new
  close_opens old new stays up = elim (cases_Bool (is_open old.state)) [
    | inl is ↦ is
    | inr down ↦ by old new old (stays down) (λ e. e) up
  ]

  -- ---- calls of a handshake beside it

  heard_opens : (brings_close : Bool) (old new : Inner S) → IsClosedHeard brings_close old new → Opens old new
  heard_opens brings_close old new (told_once_more _ _ _ _ _ is) = shut old new _ is refl
  heard_opens brings_close old new (closed_both _ _ _ _ _ is) = shut old new _ is refl
  heard_opens brings_close old new (draining_still _ _ is) = by old new _ is (λ up. up)
  heard_opens brings_close old new (drained_before _ is) = by old new _ is (λ up. up)

  failed_opens : (old mid new : Inner S) → IsFailedBy mid new → Opens old new
  failed_opens old mid new f = shut old new _ f.rest_is refl

  turned_opens : (old new : Inner S) → IsTurned old new → Opens old new
  turned_opens old new (faulted _ _ _ f) = shut old new _ f.closed.rest_is refl
  turned_opens old new (drains _ _ _ _ d) = shut old new _ d.rest_is refl
  turned_opens old new (failed f _ _) = failed_opens old old new f
  turned_opens old new (close_told is) = by old new _ is (told_opens old.state)
  turned_opens old new (closed_heard brings_close _ heard) = heard_opens brings_close old new heard
  turned_opens old new (packet_accepted _ is) = by old new _ is (λ up. up)
  turned_opens old new (packet_sent _ is) = by old new _ is (λ up. up)
  turned_opens old new (renamed _ _ is) = by old new _ is (λ up. up)
  turned_opens old new (log_started _ _ _ is) = by old new _ is (λ up. up)
  turned_opens old new (items_taken is) = by old new _ is (λ up. up)

  pub local_opens : (old new : Inner S) (acts : List Act) → IsLocalCall old new acts → Opens old new
  local_opens old new _ (timeout now is _) = timed_opens now old new is
  local_opens old new _ (closed _ _ _ _ stays) = close_opens old new stays
  local_opens old new _ (polled told is) = polled_opens told old new is
  local_opens old new _ (endpoint_polled told is) = endpoint_opens told old new is
  local_opens old new _ (on_streams acts call) = stream_opens old new acts call
  local_opens old new _ (turned call) = turned_opens old new call

  pub locally_opens : (old new : Inner S) (acts : List Act) → AreMadeLocally old new acts → is_open new.state ≡ true → is_open old.state ≡ true
  locally_opens old new _ (no_step) up = up
  locally_opens old new _ (one_step mid _ front last before step) up = locally_opens old mid front before (local_opens mid new last step.0 up)

  -- ---- datagrams

  datagram_opens : (accepts : Side → Space → ℕ → List ℕ → Bool) (now : Moment) (d : List ℕ) (old new : Inner S) → IsDatagramTaken accepts now d old new → Opens old new
  datagram_opens accepts now d old new (dropped up _ _) = was old new up
  datagram_opens accepts now d old new (handled _ _ up _ _) = was old new up
  datagram_opens accepts now d old new (told_again _ _ _ _ _ is) = shut old new _ is refl
  datagram_opens accepts now d old new (closed_too _ _ _ _ _ is) = shut old new _ is refl
  datagram_opens accepts now d old new (draining _ _ is) = by old new _ is (λ up. up)
  datagram_opens accepts now d old new (drained _ is) = by old new _ is (λ up. up)

  maybe_opens : (up : Bool) (now : Moment) (reason : CloseReason) (error : ConnectionError) (old new : Inner S) → MatchBool up (IsClosedWith now reason error old new) (new ≡ old) → Opens old new
  maybe_opens true now reason error old new c = shut old new _ c.rest_is refl
  maybe_opens false now reason error old new is = by old new old is (λ up. up)

  event_opens : (accepts : Side → Space → ℕ → List ℕ → Bool) (event : ConnectionEvent) (old new : Inner S) → IsEventTaken accepts event old new → Opens old new
  event_opens accepts (Datagram now remote payload) old new taken = datagram_opens accepts now payload (received (Datagram now remote payload) old) new taken
  event_opens accepts (Close now code reason) old new taken = maybe_opens (is_open old.state) now _ _ old new taken

  frames_open : (now : Moment) (old new : Inner S) (before frames : List ℕ) → AreFramesMade now old new before frames → Opens old new
  frames_open now old new before frames (packet_made up _ _) = was old new up
  frames_open now old new before frames (control_made up _ _) = was old new up
  frames_open now old new before frames (close_made _ _ _ _ is) = shut old new _ is refl

  pub made_opens : (accepts : AcceptsTags S) (sealed : MakesTagsOf S) (old new : Inner S) (acts : List Act) → IsAnyCall accepts sealed old new acts → is_open new.state ≡ true → is_open old.state ≡ true
  made_opens accepts sealed old new _ (handed_in event taken _) = event_opens (accepts old.session) event old new taken
  made_opens accepts sealed old new _ (lost event f _) = failed_opens old (received event old) new f
  made_opens accepts sealed old new _ (handed_out now _ _ _ made _ _) = frames_open now old new _ _ made.bytes.made
  made_opens accepts sealed old new _ (control_out _ _ _ _ _ made _) = was old new made.opened
  made_opens accepts sealed old new _ (nothing_sent none) = by old new old none.0 (λ up. up)
  made_opens accepts sealed old new _ (unsent f) = failed_opens old old new f
  made_opens accepts sealed old new _ (local acts call) = local_opens old new acts call
