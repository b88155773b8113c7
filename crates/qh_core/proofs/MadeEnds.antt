-- Each call of a connection that isn't a call on streams is a call of `IsMade`.
use Rattle.std.proofs.Common.{◌≡◌, ℕ, Bool, true, false, List, [], Option, Some, None, Result, Ok, Err, OnOk, OnErr, IfOk, IfSome, MatchBool, refl, ap, ◌∙◌}
use Rattle.qh_base.specs.declared.connection_error.ConnectionError.{ConnectionError}
use Rattle.qh_base.specs.declared.connection_error.ConnectionError.TheVariants.{LocallyClosed, TransportError as Fault}
use Rattle.qh_base.specs.declared.memory.Memory.{Memory as OutOfMemory}
use Rattle.qh_base.specs.declared.path.Transmit.{Transmit}
use Rattle.qh_base.specs.declared.time.Moment.{Moment}
use Rattle.qh_core.proofs.MadeCalls.{Carries, CarriesAlone, alone}
use Rattle.qh_core.proofs.Turned.{turned_stays}
use Rattle.qh_core.specs.Event.{IsDrainedTold, IsPolledEvent}
use Rattle.qh_core.specs.Follows.{control_acts, event_acts, transmit_acts}
use Rattle.qh_core.specs.Inner.{IsFailedBy, IsSameEnd, is_open}
use Rattle.qh_core.specs.Made.{AcceptsTags, MakesTagsOf, GoesOn, IsMade, IsMadeLocally, IsTurned}
use Rattle.qh_core.specs.Made.IsAnyCall.{handed_in, lost, handed_out, control_out, nothing_sent, unsent, local}
use Rattle.qh_core.specs.Made.IsLocalCall.{timeout, closed, polled, endpoint_polled, on_streams, turned}
use Rattle.qh_core.specs.Made.IsStreamCall.{unchanged}
use Rattle.qh_core.specs.Receiving.{GoesOnWith, IsClosedWith, IsDatagramTaken, IsEventTaken, IsPacketHandled, IsWantingFor, handed_at, received}
use Rattle.qh_core.specs.Sending.{AreFramesMade, ClosesReadBack, IsControlKept, IsControlSent, IsDatagramMade, NothingIsSent}
use Rattle.qh_core.specs.Timers.{IsKeptByTimers, IsTimedOut, IsUndisturbed}
use Rattle.qh_core.specs.declared.control.ControlFrame.{ControlFrame}
use Rattle.qh_core.specs.declared.control.ControlSent.{ControlSent}
use Rattle.qh_core.specs.declared.event.ConnectionEvent.{ConnectionEvent}
use Rattle.qh_core.specs.declared.event.ConnectionEvent.TheVariants.{Datagram, Close}
use Rattle.qh_core.specs.declared.event.EndpointEvent.{EndpointEvent}
use Rattle.qh_core.specs.declared.event.Event.{Event}
use Rattle.qh_core.specs.declared.inner.Inner.{Inner}
use Rattle.qh_core.specs.declared.state.Close.TheVariants.{Application}
use Rattle.qh_spec.specs.Transcript.{Act}

module _ {S : Type 0} where
  -- ---- the session stays

  abbrev Stays : (old new : Inner S) → Type 0
  Stays old new = new.session ≡ old.session

  by : (old new c : Inner S) → Stays old c → new ≡ c → Stays old new
  by old new c same is = ap (λ (z : Inner S). z.session) is ∙ same

  failed_stays : (old new : Inner S) → IsFailedBy old new → Stays old new
  failed_stays old new f = ap (λ (z : Inner S). z.session) f.rest_is

  closed_stays : (old new : Inner S) (now : Moment) (reason : _) (error : ConnectionError) → IsClosedWith now reason error old new → Stays old new
  closed_stays old new now reason error c = ap (λ (z : Inner S). z.session) c.rest_is

  goes_on_stays : (now : Moment) (end : Option ConnectionError) (old new : Inner S) → GoesOnWith now end old new → Stays old new
  goes_on_stays now None old new is = ap (λ (z : Inner S). z.session) is
  goes_on_stays now (Some (Fault e)) old new f = ap (λ (z : Inner S). z.session) f.closed.rest_is
  goes_on_stays now (Some e) old new d = ap (λ (z : Inner S). z.session) d.rest_is

  handled_stays : (now : Moment) (number : ℕ) (frames : List ℕ) (old new : Inner S) → IsPacketHandled now number frames old new → Stays old new
  handled_stays now number frames old new (IsPacketHandled.repeated _ is) = ap (λ (z : Inner S). z.session) is
  handled_stays now number frames old new (IsPacketHandled.empty _ _ _ _ f) = ap (λ (z : Inner S). z.session) f.closed.rest_is
  handled_stays now number frames old new (IsPacketHandled.faulty _ _ _ _ _ f) = ap (λ (z : Inner S). z.session) f.closed.rest_is
  handled_stays now number frames old new (IsPacketHandled.unnoted _ _ _ _ _ f) = ap (λ (z : Inner S). z.session) f.closed.rest_is
  handled_stays now number frames old new (IsPacketHandled.taken _ p) = goes_on_stays now p.end (record old { space = p.space; idle = _ }) new p.goes_on

  datagram_stays : (accepts : _) (now : Moment) (datagram : List ℕ) (old new : Inner S) → IsDatagramTaken accepts now datagram old new → Stays old new
  datagram_stays accepts now datagram old new (IsDatagramTaken.dropped _ _ is) = ap (λ (z : Inner S). z.session) is
  datagram_stays accepts now datagram old new (IsDatagramTaken.handled number frames _ _ h) = handled_stays now number frames old new h
  datagram_stays accepts now datagram old new (IsDatagramTaken.told_again _ _ _ _ _ is) = ap (λ (z : Inner S). z.session) is
  datagram_stays accepts now datagram old new (IsDatagramTaken.closed_too _ _ _ _ _ is) = ap (λ (z : Inner S). z.session) is
  datagram_stays accepts now datagram old new (IsDatagramTaken.draining _ _ is) = ap (λ (z : Inner S). z.session) is
  datagram_stays accepts now datagram old new (IsDatagramTaken.drained _ is) = ap (λ (z : Inner S). z.session) is

  open_or_not_stays : (opened : Bool) (old new : Inner S) (now : Moment) (reason : _) (error : ConnectionError) → MatchBool opened (IsClosedWith now reason error old new) (new ≡ old) → Stays old new
  open_or_not_stays true old new now reason error c = closed_stays old new now reason error c
  open_or_not_stays false old new now reason error is = ap (λ (z : Inner S). z.session) is

  event_stays : (accepts : _) (event : ConnectionEvent) (old new : Inner S) → IsEventTaken accepts event old new → Stays old new
  event_stays accepts (Datagram now remote payload) old new taken = datagram_stays accepts now payload (received (Datagram now remote payload) old) new taken
  event_stays accepts (Close now code reason) old new taken = open_or_not_stays (is_open old.state) old new now _ _ taken

  failed_event_stays : (event : ConnectionEvent) (old new : Inner S) → IsFailedBy (received event old) new → Stays old new
  failed_event_stays (Datagram now remote payload) old new f = failed_stays (received (Datagram now remote payload) old) new f
  failed_event_stays (Close now code reason) old new f = failed_stays old new f

  frames_stay : (now : Moment) (old new : Inner S) (before frames : List ℕ) → AreFramesMade now old new before frames → Stays old new
  frames_stay now old new before frames (AreFramesMade.packet _ _ is) = ap (λ (z : Inner S). z.session) is
  frames_stay now old new before frames (AreFramesMade.control _ _ is) = ap (λ (z : Inner S). z.session) is
  frames_stay now old new before frames (AreFramesMade.close _ _ _ _ is) = ap (λ (z : Inner S). z.session) is

  timeout_stays : (now : ℕ) (old new : Inner S) → IsTimedOut now old new → Stays old new
  timeout_stays now old new (IsTimedOut.idle _ _ is) = ap (λ (z : Inner S). z.session) is
  timeout_stays now old new (IsTimedOut.recovery _ _ _ _ _ is) = ap (λ (z : Inner S). z.session) is
  timeout_stays now old new (IsTimedOut.closed _ _ _ _ _ is) = ap (λ (z : Inner S). z.session) is
  timeout_stays now old new (IsTimedOut.draining _ _ _ is) = ap (λ (z : Inner S). z.session) is
  timeout_stays now old new (IsTimedOut.waits _ _ _ is) = ap (λ (z : Inner S). z.session) is
  timeout_stays now old new (IsTimedOut.drained _ is) = ap (λ (z : Inner S). z.session) is

  polled_stays : (told : Option Event) (old new : Inner S) → IsPolledEvent old new told → Stays old new
  polled_stays told old new (IsPolledEvent.stream _ _ is) = ap (λ (z : Inner S). z.session) is
  polled_stays told old new (IsPolledEvent.lost _ _ _ _ _ is) = ap (λ (z : Inner S). z.session) is
  polled_stays told old new (IsPolledEvent.none _ _ is) = ap (λ (z : Inner S). z.session) is

  endpoint_stays : (told : Option EndpointEvent) (old new : Inner S) → IsDrainedTold old new told → Stays old new
  endpoint_stays told old new (IsDrainedTold.drained _ _ is) = ap (λ (z : Inner S). z.session) is
  endpoint_stays told old new (IsDrainedTold.none _ is) = ap (λ (z : Inner S). z.session) is

  -- ---- the calls

  goes_on : (old new : Inner S) (acts : List Act) → IsSameEnd old new → Stays old new → Carries old new acts → GoesOn old new acts
  goes_on old new acts same stays carries = record { follows = carries; same_end = same; same_session = stays }

  pub event_made : (accepts : AcceptsTags S) (sealed : MakesTagsOf S) (event : ConnectionEvent) (result : Result Unit OutOfMemory) (old new : Inner S)
      → OnOk result (IsEventTaken (accepts old.session) event old new) → OnOk result (IsUndisturbed (handed_at event) old new)
      → OnErr result (IsFailedBy (received event old) new) → OnErr result (IsWantingFor (accepts old.session) event old)
      → Carries old new (event_acts event) → IsSameEnd old new → IsMade accepts sealed old new (event_acts event)
  event_made accepts sealed event (Ok _) old new taken undisturbed failed wanting carries same =
      (handed_in event taken undisturbed, goes_on old new _ same (event_stays (accepts old.session) event old new taken) carries)
  event_made accepts sealed event (Err _) old new taken undisturbed failed wanting carries same =
      (lost event failed wanting, goes_on old new _ same (failed_event_stays event old new failed) carries)

  pub transmit_made : (accepts : AcceptsTags S) (sealed : MakesTagsOf S) (now : Moment) (before after : List ℕ) (result : Result (Option Transmit) OutOfMemory) (old new : Inner S)
      → IfOk result (λ o. IfSome o (λ transmit. IsDatagramMade (sealed old.session) now old new before after transmit))
      → IfOk result (λ o. IfSome o (λ transmit. ClosesReadBack old.state)) → OnOk result (IsUndisturbed now old new)
      → IfOk result (λ o. o ≡ None → (after ≡ before) × NothingIsSent old new) → OnErr result ((after ≡ before) × IsFailedBy old new)
      → Carries old new (transmit_acts before after result) → IsSameEnd old new → IsMade accepts sealed old new (transmit_acts before after result)
  transmit_made accepts sealed now before after (Ok (Some t)) old new some reads undisturbed denied failed carries same =
      (handed_out now before after t some reads undisturbed, goes_on old new _ same (frames_stay now old new _ _ some.bytes.made) carries)
  transmit_made accepts sealed now before after (Ok None) old new some reads undisturbed denied failed carries same =
      (nothing_sent (denied refl).1, goes_on old new _ same (ap (λ (z : Inner S). z.session) (denied refl).1.0) carries)
  transmit_made accepts sealed now before after (Err _) old new some reads undisturbed denied failed carries same =
      (unsent failed.1, goes_on old new _ same (failed_stays old new failed.1) carries)

  pub control_made : (accepts : AcceptsTags S) (sealed : MakesTagsOf S) (now : Moment) (before after : List ℕ) (frames : List ControlFrame) (result : Result (Option ControlSent) OutOfMemory) (old new : Inner S)
      → IfOk result (λ o. IfSome o (λ sent. IsControlSent (sealed old.session) now old new before after frames sent)) → OnOk result (IsUndisturbed now old new)
      → IfOk result (λ o. o ≡ None → (after ≡ before) × (new ≡ old) × IsControlKept old frames) → OnErr result ((after ≡ before) × IsFailedBy old new)
      → Carries old new (control_acts before after result) → IsSameEnd old new → IsMade accepts sealed old new (control_acts before after result)
  control_made accepts sealed now before after frames (Ok (Some t)) old new some undisturbed denied failed carries same =
      (control_out now before after frames t some undisturbed, goes_on old new _ same (frames_stay now old new _ _ some.made.bytes.made) carries)
  control_made accepts sealed now before after frames (Ok None) old new some undisturbed denied failed carries same =
      (local [] (on_streams [] (unchanged (denied refl).1)), goes_on old new _ same (ap (λ (z : Inner S). z.session) (denied refl).1) carries)
  control_made accepts sealed now before after frames (Err _) old new some undisturbed denied failed carries same =
      (unsent failed.1, goes_on old new _ same (failed_stays old new failed.1) carries)

  pub timeout_made : (now : ℕ) (old new : Inner S) → IsTimedOut now old new → IsKeptByTimers now old new → CarriesAlone old new → IsSameEnd old new → IsMadeLocally old new []
  timeout_made now old new timed kept carries same = (timeout now timed kept, goes_on old new [] same (timeout_stays now old new timed) (alone old new carries))

  when_closed : (opened : Bool) (old new : Inner S) (now : Moment) (reason : _) (error : ConnectionError)
      → (opened ≡ true → IsClosedWith now reason error old new) → (opened ≡ false → new ≡ old) → Stays old new
  when_closed true old new now reason error c is = closed_stays old new now reason error (c refl)
  when_closed false old new now reason error c is = ap (λ (z : Inner S). z.session) (is refl)

  pub close_made : (now : Moment) (code : ℕ) (reason : List ℕ) (old new : Inner S)
      → (is_open old.state ≡ true → IsClosedWith now (Application (record { error_code = code; reason = reason })) LocallyClosed old new) → (is_open old.state ≡ false → new ≡ old)
      → CarriesAlone old new → IsSameEnd old new → IsMadeLocally old new []
  close_made now code reason old new ends stays carries same =
      (closed now code reason ends stays, goes_on old new [] same (when_closed (is_open old.state) old new now _ _ ends stays) (alone old new carries))

  pub poll_made : (told : Option Event) (old new : Inner S) → IsPolledEvent old new told → CarriesAlone old new → IsSameEnd old new → IsMadeLocally old new []
  poll_made told old new is carries same = (polled told is, goes_on old new [] same (polled_stays told old new is) (alone old new carries))

  pub endpoint_made : (told : Option EndpointEvent) (old new : Inner S) → IsDrainedTold old new told → CarriesAlone old new → IsSameEnd old new → IsMadeLocally old new []
  endpoint_made told old new is carries same = (endpoint_polled told is, goes_on old new [] same (endpoint_stays told old new is) (alone old new carries))

  pub turned_made : (old new : Inner S) → IsTurned old new → CarriesAlone old new → IsSameEnd old new → IsMadeLocally old new []
  turned_made old new turn carries same = (turned turn, goes_on old new [] same (turned_stays old new turn) (alone old new carries))
