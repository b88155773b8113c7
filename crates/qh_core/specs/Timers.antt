-- When something is due (RFC 9000, section 10; RFC 9002, section 6), in whole nanoseconds.
use Rattle.std.specs.Prelude.{◌≡◌, ◌⊎◌, ℕ, ◌+◌, ◌-◌, ◌*◌, ◌^◌, ◌≤◌, ◌<◌, min, max, Bool, true, false, Option, Some, None, if◌then◌else◌}
use Rattle.qh_base.specs.declared.connection_error.ConnectionError.{ConnectionError}
use Rattle.qh_base.specs.declared.connection_error.ConnectionError.TheVariants.{TimedOut}
use Rattle.qh_base.specs.declared.time.Moment.{Moment}
use Rattle.qh_base.specs.declared.time.Span.{Span}
use Rattle.qh_core.specs.Inner.{HaveSameCounts, is_open, with_space}
use Rattle.qh_core.specs.declared.idle.IdleTimer.{IdleTimer}
use Rattle.qh_core.specs.declared.inner.Inner.{Inner}
use Rattle.qh_core.specs.declared.state.Close.{Close}
use Rattle.qh_core.specs.declared.state.State.{State}
use Rattle.qh_core.specs.declared.state.State.TheVariants.{Closed, Draining, Drained}
use Rattle.qh_recovery.specs.Rtt.{pto_base, loss_delay}
use Rattle.qh_recovery.specs.SentPackets.{IsLossTime}
use Rattle.qh_recovery.specs.declared.paths.RttEstimator.{RttEstimator}
use Rattle.qh_space.specs.Receiving.{IsLossTaken}
use Rattle.qh_space.specs.Timers.{IsProbeDue, IsProbeTime}
use Rattle.qh_space.specs.declared.data_space.DataSpace.{DataSpace}

-- three probe timeouts, not doubled
abbrev pub three_probes : RttEstimator → ℕ
three_probes rtt = min (2 ^ 64 - 1) (pto_base rtt * 3)

-- so much later than a moment, or the last moment that there is
abbrev pub later : (moment span : ℕ) → ℕ
later moment span = min (2 ^ 64 - 1) (moment + span)

-- ---- the idle time (RFC 9000, section 10.1)

-- it runs from the last packet that was accepted, or from the first ack-eliciting one that was sent after it
abbrev pub restarted : (now : Moment) → IdleTimer → IdleTimer
restarted now t = record t { since = now; has_sent = false }

abbrev pub sent_at : (now : Moment) → IdleTimer → IdleTimer
sent_at now t = if t.has_sent then t else record t { since = now; has_sent = true }

-- it is as long as before, and runs on, or from this moment on
pub record RunsOn (now : Moment) (old new : IdleTimer) : Type 0 where
  pub timeout : new.timeout ≡ old.timeout
  pub since : (new.since ≡ old.since) ⊎ (new.since ≡ now)

-- it ends then: it is at least three probe timeouts long
pub record IsIdleEnd (t : IdleTimer) (rtt : RttEstimator) (moment : ℕ) : Type 0 where
  pub timeout : Span
  pub timeout_is : t.timeout ≡ Some timeout
  pub moment_is : moment ≡ later t.since.0 (max timeout.0 (three_probes rtt))

-- ---- loss and probes (RFC 9002, section 6)

-- a packet that is out becomes lost by its age then
pub record IsLossMoment (s : DataSpace) (moment : ℕ) : Type 0 where
  pub largest : ℕ
  pub acked : s.largest_acked ≡ Some largest
  pub time : IsLossTime s.sent largest (loss_delay s.rtt) moment

-- What is lost by its age is lost.
pub data AreLostByAge (now : ℕ) (old new : DataSpace) : Type 0 where
  due : (moment largest : ℕ) → IsLossMoment old moment → moment ≤ now → old.largest_acked ≡ Some largest → IsLossTaken largest now old new → AreLostByAge now old new
  not_yet : ((moment : ℕ) → IsLossMoment old moment → now < moment) → new ≡ old → AreLostByAge now old new

-- A probe is sent where it is due.
pub data IsProbed (now : ℕ) (old new : DataSpace) : Type 0 where
  due : (moment : ℕ) → IsProbeTime old moment → moment ≤ now → IsProbeDue old new → IsProbed now old new
  not_yet : ((moment : ℕ) → IsProbeTime old moment → now < moment) → new ≡ old → IsProbed now old new

-- when a connection that was closed is drained
abbrev pub ends_at : State → Option Moment
ends_at (Closed reason is_due until) = Some until
ends_at (Draining until) = Some until
ends_at other = None

module _ {S : Type 0} where
  abbrev pub IsIdleDue : (now : ℕ) → Inner S → Type 0
  IsIdleDue now c = (moment : ℕ) × IsIdleEnd c.idle c.space.rtt moment × (moment ≤ now)

  -- What the moments do that are due: the idle time ends the connection; else what is lost by its age is lost, and a probe is
  -- queued; a connection that was closed is drained.
  pub data IsTimedOut (now : ℕ) (old new : Inner S) : Type 0 where
    idle : is_open old.state ≡ true → IsIdleDue now old → new ≡ record old { state = Drained; error = Some TimedOut } → IsTimedOut now old new
    recovery : (mid : DataSpace) → is_open old.state ≡ true → (IsIdleDue now old → ⊥) → AreLostByAge now old.space mid → IsProbed now mid new.space → new ≡ with_space old new.space → IsTimedOut now old new
    closed : (reason : Close) (is_due : Bool) (until : Moment) → old.state ≡ Closed reason is_due until → until.0 ≤ now → new ≡ record old { state = Drained } → IsTimedOut now old new
    draining : (until : Moment) → old.state ≡ Draining until → until.0 ≤ now → new ≡ record old { state = Drained } → IsTimedOut now old new
    waits : (moment : Moment) → ends_at old.state ≡ Some moment → now < moment.0 → new ≡ old → IsTimedOut now old new
    drained : old.state ≡ Drained → new ≡ old → IsTimedOut now old new

  -- something is due then
  pub data IsDueAt (c : Inner S) : ℕ → Type 0 where
    idle : (moment : ℕ) → is_open c.state ≡ true → IsIdleEnd c.idle c.space.rtt moment → IsDueAt c moment
    loss : (moment : ℕ) → is_open c.state ≡ true → IsLossMoment c.space moment → IsDueAt c moment
    probe : (moment : ℕ) → is_open c.state ≡ true → IsProbeTime c.space moment → IsDueAt c moment
    ends : (moment : Moment) → ends_at c.state ≡ Some moment → IsDueAt c moment.0

  -- it is the first moment at which something is due
  pub record IsFirstDue (c : Inner S) (moment : ℕ) : Type 0 where
    pub is : IsDueAt c moment
    pub first : (other : ℕ) → IsDueAt c other → moment ≤ other

  -- What a call at this moment leaves of the connection that no datagram tells: the counts of what its own calls opened and accepted,
  -- the idle time, and that it isn't lost by that.
  pub record IsUndisturbed (now : Moment) (old new : Inner S) : Type 0 where
    pub counts : HaveSameCounts old.space.streams new.space.streams
    pub idle : RunsOn now old.idle new.idle
    pub timed_out : new.error ≡ Some TimedOut → old.error ≡ Some TimedOut

  -- the same of the moments that are due: the idle time alone ends the connection, and with TimedOut
  pub record IsKeptByTimers (now : ℕ) (old new : Inner S) : Type 0 where
    pub counts : HaveSameCounts old.space.streams new.space.streams
    pub idle : new.idle ≡ old.idle
    pub timed_out : new.error ≡ Some TimedOut → (old.error ≡ Some TimedOut) ⊎ (is_open old.state ≡ true × IsIdleDue now old)
    pub kept : (e : ConnectionError) → new.error ≡ Some e → (old.error ≡ Some e) ⊎ (e ≡ TimedOut)
