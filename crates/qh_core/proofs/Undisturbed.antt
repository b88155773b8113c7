-- What a call leaves of a connection that neither datagrams nor moments tell.
use Rattle.std.proofs.Common.{◌≡◌, ℕ, Bool, true, false, List, length, Option, Some, None, refl, sym, ap, subst, ◌∙◌, inl, inr}
use Rattle.std.proofs.lemmas.Option.{same_Some}
use Rattle.std.specs.Prelude.{OnOk, Result, Ok, Err, if◌then◌else◌, nat_lt}
use Rattle.qh_base.specs.declared.connection_error.ConnectionError.{ConnectionError}
use Rattle.qh_base.specs.declared.connection_error.ConnectionError.TheVariants as error
use Rattle.qh_base.specs.declared.memory.Memory.{Memory as OutOfMemory}
use Rattle.qh_base.specs.declared.path.Transmit.{Transmit}
use Rattle.qh_base.specs.declared.time.Moment.{Moment}
use Rattle.qh_base.specs.declared.transport_error.TransportError.{TransportError}
use Rattle.qh_core.proofs.ControlFrames.{bare_rest}
use Rattle.qh_core.proofs.Controlled.{IsControlled}
use Rattle.qh_core.proofs.Ends.{ended_with, not_for_time}
use Rattle.qh_core.proofs.OwnCounts.{made_counts, packet_counts, polled_counts, recovered_counts}
use Rattle.qh_core.proofs.Transmitted.{IsTransmitted}
use Rattle.qh_core.specs.Event.{IsPolledEvent}
use Rattle.qh_core.specs.Event.IsPolledEvent.{stream, lost, none as nothing}
use Rattle.qh_core.specs.Inner.{HaveSameCounts, with_streams}
use Rattle.qh_core.specs.Receiving.{GoesOnWith, IsDatagramTaken, IsFaulted, IsPacketHandled, IsPacketTaken}
use Rattle.qh_core.specs.Receiving.IsDatagramTaken.{dropped, handled, told_again, closed_too, draining, drained}
use Rattle.qh_core.specs.Receiving.IsPacketHandled.{repeated, empty, faulty, unnoted, taken}
use Rattle.qh_core.specs.Sending.{AreFramesMade}
use Rattle.qh_core.specs.Sending.AreFramesMade.{packet, control, close}
use Rattle.qh_core.specs.Timers.{IsKeptByTimers, IsTimedOut, IsUndisturbed, RunsOn, restarted, sent_at}
use Rattle.qh_core.specs.Timers.IsTimedOut.{idle, recovery, closed, draining as draining_over, waits, drained as drained_still}
use Rattle.qh_core.specs.declared.control.ControlFrame.{ControlFrame}
use Rattle.qh_core.specs.declared.control.ControlSent.{ControlSent}
use Rattle.qh_core.specs.declared.event.Event.{Event}
use Rattle.qh_core.specs.declared.idle.IdleTimer.{IdleTimer}
use Rattle.qh_core.specs.declared.inner.Inner.{Inner}
use Rattle.qh_core.specs.declared.state.State.{State}
use Rattle.qh_core.specs.declared.state.State.TheVariants.{Drained}
use Rattle.qh_core.specs.declared.stats.UdpStats.{UdpStats}
use Rattle.qh_spec.specs.declared.sides.Side.{Side}
use Rattle.qh_spec.specs.declared.sides.Space.{Space}
use Rattle.qh_streams.specs.Streams.{PlainStreams, IsPolled}
use Rattle.qh_streams.specs.declared.frames.StreamEvent.{StreamEvent}

same_streams : (s : PlainStreams) → HaveSameCounts s s
same_streams s = record { bi_opened = refl; bi_accepted = refl; uni_opened = refl; uni_accepted = refl }

same_idle : (now : Moment) (t : IdleTimer) → RunsOn now t t
same_idle now t = record { timeout = refl; since = inl refl }

-- ---- the idle time behind a packet that is sent

sent_runs : (now : Moment) (has_sent : Bool) (t : IdleTimer) → RunsOn now t (if has_sent then t else record t { since = now; has_sent = true })
sent_runs now true t = same_idle now t
sent_runs now false t = record { timeout = refl; since = inr refl }

maybe_sent : (now : Moment) (is_out : Bool) (t : IdleTimer) → RunsOn now t (if is_out then sent_at now t else t)
maybe_sent now true t = sent_runs now t.has_sent t
maybe_sent now false t = same_idle now t

module _ {S : Type 0} where
  -- ---- what is handed in

  unmoved : (now : Moment) (c : Inner S) → IsUndisturbed now c c
  unmoved now c = record { counts = same_streams c.space.streams; idle = same_idle now c.idle; timed_out = λ is. is }

  same_undisturbed : (now : Moment) (old new : Inner S) → new ≡ old → IsUndisturbed now old new
  same_undisturbed now old new e = rw e (unmoved now old)

  -- it ended with another error than the idle time's
  ended : (now : Moment) (old mid new : Inner S) (e : ConnectionError) {state : State} → IsUndisturbed now old mid → new ≡ record mid { state = state; error = Some e } → (e ≡ error.TimedOut → ⊥)
      → IsUndisturbed now old new
  ended now old mid new e u rest other = rw rest (record { counts = u.counts; idle = u.idle; timed_out = λ is. absurd (other (same_Some e error.TimedOut is)) })

  faulted : (now : Moment) (e : TransportError) (old new : Inner S) → IsFaulted now e old new → IsUndisturbed now old new
  faulted now e old new f = ended now old old new (error.TransportError e) (unmoved now old) f.closed.rest_is (λ same. cc)

  goes_on : (now : Moment) (end : Option ConnectionError) (old mid new : Inner S) → IsUndisturbed now old mid → (end ≡ Some error.TimedOut → ⊥) → GoesOnWith now end mid new → IsUndisturbed now old new
  goes_on now None old mid new u other e = subst (λ (c : Inner S). IsUndisturbed now old c) (sym e) u
  goes_on now (Some e) old mid new u other on = ended now old mid new e u (ended_with now e mid new on).rest_is (λ same. other (ap Some same))

  packet_undisturbed : (now : Moment) (number : ℕ) (bytes : List ℕ) (old new : Inner S) → IsPacketTaken now number bytes old new → IsUndisturbed now old new
  packet_undisturbed now number bytes old new p = goes_on now p.end old (record old { space = p.space; idle = restarted now old.idle }) new (record {
    counts = packet_counts now.0 number p.is_eliciting bytes old.space p.mid p.space p.taken p.end p.accepted p.are_taken;
    idle = record { timeout = refl; since = inr refl };
    timed_out = λ is. is;
  }) (not_for_time now.0 bytes p.mid p.space p.taken p.end p.are_taken) p.goes_on

  handled_undisturbed : (now : Moment) (number : ℕ) (bytes : List ℕ) (old new : Inner S) → IsPacketHandled now number bytes old new → IsUndisturbed now old new
  handled_undisturbed now number bytes old new (repeated is e) = same_undisturbed now old new e
  handled_undisturbed now number bytes old new (empty fault is no_byte says f) = faulted now fault old new f
  handled_undisturbed now number bytes old new (faulty fault kind is at says f) = faulted now fault old new f
  handled_undisturbed now number bytes old new (unnoted fault eliciting is read at f) = faulted now fault old new f
  handled_undisturbed now number bytes old new (taken is p) = packet_undisturbed now number bytes old new p

  datagram_undisturbed : (accepts : Side → Space → ℕ → List ℕ → Bool) (now : Moment) (datagram : List ℕ) (old new : Inner S) → IsDatagramTaken accepts now datagram old new → IsUndisturbed now old new
  datagram_undisturbed accepts now d old new (dropped up none e) = same_undisturbed now old new e
  datagram_undisturbed accepts now d old new (handled number bytes up opened h) = handled_undisturbed now number bytes old new h
  datagram_undisturbed accepts now d old new (told_again reason is_due until is other e) = rw e (record { counts = same_streams old.space.streams; idle = same_idle now old.idle; timed_out = λ is. is })
  datagram_undisturbed accepts now d old new (closed_too reason is_due until is brings e) = rw e (record { counts = same_streams old.space.streams; idle = same_idle now old.idle; timed_out = λ is. is })
  datagram_undisturbed accepts now d old new (draining until is e) = same_undisturbed now old new e
  datagram_undisturbed accepts now d old new (drained is e) = same_undisturbed now old new e

  -- a datagram came, and was counted
  pub datagram_kept : {A : Type 0} (accepts : Side → Space → ℕ → List ℕ → Bool) (old new : Inner S) (now : Moment) (datagram : List ℕ) (counts : UdpStats) (answer : Result A OutOfMemory)
      → OnOk answer (IsDatagramTaken accepts now datagram (record old { udp_rx = counts }) new) → OnOk answer (IsUndisturbed now old new)
  datagram_kept accepts old new now datagram counts (Ok _) ok =
      let u = datagram_undisturbed accepts now datagram (record old { udp_rx = counts }) new ok in
      record { counts = u.counts; idle = u.idle; timed_out = u.timed_out }
  datagram_kept accepts old new now datagram counts (Err e) ok = tt

  -- ---- what is handed out

  frames_undisturbed : (now : Moment) (old new : Inner S) (before frames : List ℕ) → AreFramesMade now old new before frames → IsUndisturbed now old new
  frames_undisturbed now old new before frames (packet up made e) =
      let error = ap (λ (c : Inner S). c.error) e in
      record {
        counts = made_counts now.0 _ _ old.space new.space before _ made;
        idle = subst (λ (t : IdleTimer). RunsOn now old.idle t) (sym (ap (λ (c : Inner S). c.idle) e)) (maybe_sent now (nat_lt (length old.space.sent) (length new.space.sent)) old.idle);
        timed_out = λ is. sym error ∙ is;
      }
  frames_undisturbed now old new before frames (control up made e) =
      let error = ap (λ (c : Inner S). c.error) e in
      record {
        counts = subst (λ (s : PlainStreams). HaveSameCounts old.space.streams s) (sym (bare_rest _ _ old.space new.space made.sent).streams) (same_streams old.space.streams);
        idle = subst (λ (t : IdleTimer). RunsOn now old.idle t) (sym (ap (λ (c : Inner S). c.idle) e)) (maybe_sent now (nat_lt (length old.space.sent) (length new.space.sent)) old.idle);
        timed_out = λ is. sym error ∙ is;
      }
  frames_undisturbed now old new before frames (close reason until is bytes e) = rw e (record { counts = same_streams old.space.streams; idle = same_idle now old.idle; timed_out = λ is. is })

  pub transmitted_undisturbed : (sealed : Side → Space → ℕ → List ℕ) (now : Moment) (old new : Inner S) (before after : List ℕ) (answer : Result (Option Transmit) OutOfMemory)
      → IsTransmitted sealed now old new before after answer → OnOk answer (IsUndisturbed now old new)
  transmitted_undisturbed sealed now old new before after (Ok (Some transmit)) a = frames_undisturbed now old new _ _ a.some.bytes.made
  transmitted_undisturbed sealed now old new before after (Ok None) a = same_undisturbed now old new ((a.none refl).1).0
  transmitted_undisturbed sealed now old new before after (Err e) a = tt

  pub controlled_undisturbed : (sealed : Side → Space → ℕ → List ℕ) (now : Moment) (old new : Inner S) (before after : List ℕ) (frames : List ControlFrame) (answer : Result (Option ControlSent) OutOfMemory)
      → IsControlled sealed now old new before after frames answer → OnOk answer (IsUndisturbed now old new)
  controlled_undisturbed sealed now old new before after frames (Ok (Some sent)) a = frames_undisturbed now old new _ _ a.some.made.bytes.made
  controlled_undisturbed sealed now old new before after frames (Ok None) a = same_undisturbed now old new (a.none refl).1
  controlled_undisturbed sealed now old new before after frames (Err e) a = tt

  -- ---- what is due

  timers_keep : (now : ℕ) (old new : Inner S) (state : State) → new ≡ record old { state = state } → IsKeptByTimers now old new
  timers_keep now old new state e = rw e (record { counts = same_streams old.space.streams; idle = refl; timed_out = λ is. inl is; kept = λ e is. inl is })

  pub timed_out_kept : (now : ℕ) (old new : Inner S) → IsTimedOut now old new → IsKeptByTimers now old new
  timed_out_kept now old new (idle up due e) = rw e (record {
    counts = same_streams old.space.streams;
    idle = refl;
    timed_out = λ is. inr (up, due);
    kept = λ e is. inr (sym (same_Some error.TimedOut e is));
  })
  timed_out_kept now old new (recovery mid up not_due aged probed e) =
      let error = ap (λ (c : Inner S). c.error) e in
      record {
        counts = recovered_counts now old.space mid new.space aged probed;
        idle = ap (λ (c : Inner S). c.idle) e;
        timed_out = λ is. inl (sym error ∙ is);
        kept = λ f is. inl (sym error ∙ is);
      }
  timed_out_kept now old new (closed reason is_due until is by_now e) = timers_keep now old new Drained e
  timed_out_kept now old new (draining_over until is by_now e) = timers_keep now old new Drained e
  timed_out_kept now old new (waits moment is before e) = timers_keep now old new old.state e
  timed_out_kept now old new (drained_still is e) = timers_keep now old new old.state e

  -- ---- what is told

  told_kept : (old new : Inner S) (mid : PlainStreams) (is_lost_told : Bool) (o : Option StreamEvent) → IsPolled old.space.streams mid o → new ≡ record (with_streams old mid) { is_lost_told = is_lost_told }
      → HaveSameCounts old.space.streams new.space.streams × (new.idle ≡ old.idle) × (new.error ≡ old.error) × (new.state ≡ old.state)
  told_kept old new mid is_lost_told o polled e = rw e (polled_counts old.space.streams mid o polled, refl, refl, refl)

  pub polled_kept : (old new : Inner S) (o : Option Event) → IsPolledEvent old new o
      → HaveSameCounts old.space.streams new.space.streams × (new.idle ≡ old.idle) × (new.error ≡ old.error) × (new.state ≡ old.state)
  polled_kept old new _ (stream e polled rest) = told_kept old new new.space.streams old.is_lost_told (Some e) polled rest
  polled_kept old new _ (lost mid error polled is untold rest) = told_kept old new mid true None polled rest
  polled_kept old new _ (nothing polled why rest) = told_kept old new new.space.streams old.is_lost_told None polled rest
