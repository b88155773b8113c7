-- The idle timer of an end that is open behind a call is as long as it was.
use Rattle.std.proofs.Common.{◌≡◌, ℕ, Bool, true, false, if◌then◌else◌, List, Option, refl, sym, ap, ◌∙◌, inl, inr}
use Rattle.std.proofs.lemmas.Bool.{both_ways, cases_Bool}
use Rattle.qh_base.specs.declared.time.Moment.{Moment}
use Rattle.qh_converse.proofs.MadeOpens.{local_opens}
use Rattle.qh_core.specs.Event.{IsDrainedTold, IsPolledEvent}
use Rattle.qh_core.specs.Event.IsDrainedTold.{drained as drain_told, none as no_drain_told}
use Rattle.qh_core.specs.Event.IsPolledEvent.{stream, lost as lost_told, none as nothing_told}
use Rattle.qh_core.specs.Inner.{IsFailedBy, is_open}
use Rattle.qh_core.specs.Made.{AcceptsTags, AreMadeLocally, IsAnyCall, IsLocalCall, IsStreamCall, IsTurned, MakesTagsOf}
use Rattle.qh_core.specs.Made.AreSteps.{none as no_step, more as one_step}
use Rattle.qh_core.specs.Made.IsAnyCall.{handed_in, lost, handed_out, control_out, nothing_sent, unsent, local}
use Rattle.qh_core.specs.Made.IsLocalCall.{timeout, closed, polled, endpoint_polled, on_streams, turned}
use Rattle.qh_core.specs.Made.IsStreamCall.{unchanged, opened, accepted, wrote, unwritten, finished, reset, prioritized, read, stopped, took_reset, concurrent, send_window, receive_window}
use Rattle.qh_core.specs.Made.IsTurned.{faulted, draining as drains, failed, close_told, closed_heard, packet_accepted, packet_sent, renamed, log_started, items_taken}
use Rattle.qh_core.specs.Receiving.{IsClosedHeard}
use Rattle.qh_core.specs.Receiving.IsClosedHeard.{told_again as told_once_more, closed_too as closed_both, draining as draining_still, drained as drained_before}
use Rattle.qh_core.specs.Streams.{IsWriteRefused}
use Rattle.qh_core.specs.Timers.{sent_at}
use Rattle.qh_core.specs.declared.event.EndpointEvent.{EndpointEvent}
use Rattle.qh_core.specs.declared.event.Event.{Event}
use Rattle.qh_core.specs.declared.idle.IdleTimer.{IdleTimer}
use Rattle.qh_core.specs.declared.inner.Inner.{Inner}
use Rattle.qh_half.specs.declared.fault.WriteFault.{WriteFault}
use Rattle.qh_spec.specs.Transcript.{Act}

if_timer : (b : Bool) (t u : IdleTimer) → u.timeout ≡ t.timeout → (if b then t else u).timeout ≡ t.timeout
if_timer true t u same = refl
if_timer false t u same = same

sent_timer : (now : Moment) (t : IdleTimer) → (sent_at now t).timeout ≡ t.timeout
sent_timer now t = if_timer t.has_sent t (record t { since = now; has_sent = true }) refl

module _ {S : Type 0} where
  abbrev Runs : (old new : Inner S) → Type 0
  Runs old new = is_open new.state ≡ true → new.idle.timeout ≡ old.idle.timeout

  by : (old new c : Inner S) → new ≡ c → c.idle.timeout ≡ old.idle.timeout → Runs old new
  by old new c is same up = ap (λ (z : Inner S). z.idle.timeout) is ∙ same

  shut : (old new c : Inner S) → new ≡ c → is_open c.state ≡ false → Runs old new
  shut old new c is down up = absurd (both_ways (is_open c.state) down (sym (ap (λ (z : Inner S). is_open z.state) is) ∙ up))

  refused_runs : (id : ℕ) (e : WriteFault) (old new : Inner S) → IsWriteRefused id e old new → Runs old new
  refused_runs id e old new (IsWriteRefused.closed _ _ is) = by old new _ is refl
  refused_runs id e old new (IsWriteRefused.wanting _ _ _ is) = by old new _ is refl
  refused_runs id e old new (IsWriteRefused.refused _ _ is) = by old new _ is refl

  stream_runs : (old new : Inner S) (acts : List Act) → IsStreamCall old new acts → Runs old new
  stream_runs old new _ (unchanged is) = by old new _ is refl
  stream_runs old new _ (opened _ _ _ _ _ _ is) = by old new _ is refl
  stream_runs old new _ (accepted _ _ is) = by old new _ is refl
  stream_runs old new _ (wrote _ _ _ _ _ _ is) = by old new _ is refl
  stream_runs old new _ (unwritten id e denied) = refused_runs id e old new denied
  stream_runs old new _ (finished _ _ is) = by old new _ is refl
  stream_runs old new _ (reset _ _ _ is) = by old new _ is refl
  stream_runs old new _ (prioritized _ _ _ is) = by old new _ is refl
  stream_runs old new _ (read _ _ _ _ _ _ is) = by old new _ is refl
  stream_runs old new _ (stopped _ _ _ is) = by old new _ is refl
  stream_runs old new _ (took_reset _ _ _ is) = by old new _ is refl
  stream_runs old new _ (concurrent _ _ is) = by old new _ is refl
  stream_runs old new _ (send_window _ is) = by old new _ is refl
  stream_runs old new _ (receive_window _ is) = by old new _ is refl

  polled_runs : (told : Option Event) (old new : Inner S) → IsPolledEvent old new told → Runs old new
  polled_runs _ old new (stream _ _ is) = by old new _ is refl
  polled_runs _ old new (lost_told _ _ _ _ _ is) = by old new _ is refl
  polled_runs _ old new (nothing_told _ _ is) = by old new _ is refl

  endpoint_runs : (told : Option EndpointEvent) (old new : Inner S) → IsDrainedTold old new told → Runs old new
  endpoint_runs _ old new (drain_told _ _ is) = by old new _ is refl
  endpoint_runs _ old new (no_drain_told _ is) = by old new _ is refl

  -- a close leaves no end open, and one that is closed as it was
  close_runs : (old new : Inner S) → (is_open old.state ≡ true → is_open new.state ≡ false) → (is_open old.state ≡ false → new ≡ old) → Runs old new
  close_runs old new closes stays up = elim (cases_Bool (is_open old.state)) [
    | inl was ↦ absurd (both_ways (is_open new.state) (closes was) up)
    | inr down ↦ by old new old (stays down) refl up
  ]

  heard_runs : (brings_close : Bool) (old new : Inner S) → IsClosedHeard brings_close old new → Runs old new
  heard_runs brings_close old new (told_once_more _ _ _ _ _ is) = by old new _ is refl
  heard_runs brings_close old new (closed_both _ _ _ _ _ is) = by old new _ is refl
  heard_runs brings_close old new (draining_still _ _ is) = by old new _ is refl
  heard_runs brings_close old new (drained_before _ is) = by old new _ is refl

  failed_runs : (old mid new : Inner S) → IsFailedBy mid new → Runs old new
  failed_runs old mid new f = shut old new _ f.rest_is refl

  turned_runs : (old new : Inner S) → IsTurned old new → Runs old new
  turned_runs old new (faulted _ _ _ f) = by old new _ f.closed.rest_is refl
  turned_runs old new (drains _ _ _ _ d) = by old new _ d.rest_is refl
  turned_runs old new (failed f _ _) = failed_runs old old new f
  turned_runs old new (close_told is) = by old new _ is refl
  turned_runs old new (closed_heard brings_close _ heard) = heard_runs brings_close old new heard
  turned_runs old new (packet_accepted _ is) = by old new _ is refl
  turned_runs old new (packet_sent now is) = by old new _ is (sent_timer now old.idle)
  turned_runs old new (renamed _ _ is) = by old new _ is refl
  turned_runs old new (log_started _ _ _ is) = by old new _ is refl
  turned_runs old new (items_taken is) = by old new _ is refl

  local_runs : (old new : Inner S) (acts : List Act) → IsLocalCall old new acts → Runs old new
  local_runs old new _ (timeout now is kept) = λ _. ap (λ (t : IdleTimer). t.timeout) kept.idle
  local_runs old new _ (closed _ _ _ closes stays) = close_runs old new (λ was. ap (λ (z : Inner S). is_open z.state) (closes was).rest_is) stays
  local_runs old new _ (polled told is) = polled_runs told old new is
  local_runs old new _ (endpoint_polled told is) = endpoint_runs told old new is
  local_runs old new _ (on_streams acts call) = stream_runs old new acts call
  local_runs old new _ (turned call) = turned_runs old new call

  pub made_runs : (accepts : AcceptsTags S) (sealed : MakesTagsOf S) (old new : Inner S) (acts : List Act) → IsAnyCall accepts sealed old new acts → is_open new.state ≡ true → new.idle.timeout ≡ old.idle.timeout
  made_runs accepts sealed old new _ (handed_in event taken still) up = still.idle.timeout
  made_runs accepts sealed old new _ (lost event f _) up = failed_runs old _ new f up
  made_runs accepts sealed old new _ (handed_out now _ _ _ _ _ still) up = still.idle.timeout
  made_runs accepts sealed old new _ (control_out _ _ _ _ _ _ still) up = still.idle.timeout
  made_runs accepts sealed old new _ (nothing_sent none) up = by old new old none.0 refl up
  made_runs accepts sealed old new _ (unsent f) up = failed_runs old old new f up
  made_runs accepts sealed old new _ (local acts call) up = local_runs old new acts call up

  -- several calls that hand no datagram in or out, none of which opens an end
  pub locally_runs : (old new : Inner S) (acts : List Act) → AreMadeLocally old new acts → is_open new.state ≡ true → new.idle.timeout ≡ old.idle.timeout
  locally_runs old new _ (no_step) up = refl
  locally_runs old new _ (one_step mid _ front last before step) up =
      let was = local_opens mid new last step.0 up in
      local_runs mid new last step.0 up ∙ locally_runs old mid front before was
