-- When something of a handshake is due, and what is done then (RFC 9002, section 6).
use Rattle.std.specs.Prelude.{◌≡◌, ℕ, ◌<◌, ◌≤◌, Bool, false, not, ◌&&◌, Some, None, is_some}
use Rattle.qh_handshake.specs.Handshake.{is_limited}
use Rattle.qh_handshake.specs.Outgoing.{is_client}
use Rattle.qh_handshake.specs.Receiving.{IsLossTaken}
use Rattle.qh_handshake.specs.Timers.{IsProbeTime, with_probe}
use Rattle.qh_handshake.specs.declared.handshake.Handshake.{Handshake}
use Rattle.qh_handshake.specs.declared.initial_space.InitialSpace.{InitialSpace}
use Rattle.qh_recovery.specs.Rtt.{loss_delay}
use Rattle.qh_recovery.specs.SentPackets.{IsLossTime}

-- a packet that is out becomes lost by its age (RFC 9002, section 6.1.2)
pub record IsLossMoment (s : InitialSpace) (moment : ℕ) : Type 0 where
  pub largest : ℕ
  pub largest_is : s.largest_acked ≡ Some largest
  pub time : IsLossTime s.sent largest (loss_delay s.rtt) moment

-- a client waits to be greeted (RFC 9002, section 6.2.2.1)
abbrev pub is_awaited : Handshake → Bool
is_awaited h = is_client h.side && not (is_some h.peer)

-- A probe is due: none while the limit before validation is reached, since it couldn't be sent (RFC 9002, section 6.2.2.1).
pub record IsProbeMoment (h : Handshake) (s : InitialSpace) (moment : ℕ) : Type 0 where
  pub allowed : is_limited h ≡ false
  pub time : IsProbeTime s (is_awaited h) moment

-- something is due then
pub data IsDueAt (h : Handshake) : ℕ → Type 0 where
  loss : (s : InitialSpace) (moment : ℕ) → h.space ≡ Some s → IsLossMoment s moment → IsDueAt h moment
  probe : (s : InitialSpace) (moment : ℕ) → h.space ≡ Some s → IsProbeMoment h s moment → IsDueAt h moment

-- it is the first moment at which something is due
pub record IsFirstDue (h : Handshake) (moment : ℕ) : Type 0 where
  pub is : IsDueAt h moment
  pub first : (other : ℕ) → IsDueAt h other → moment ≤ other

-- what is lost by its age is lost
pub data AreLostByAge (now : ℕ) (old new : InitialSpace) : Type 0 where
  due : (moment largest : ℕ) → IsLossMoment old moment → moment ≤ now → old.largest_acked ≡ Some largest → IsLossTaken largest now old new → AreLostByAge now old new
  not_yet : ((moment : ℕ) → IsLossMoment old moment → now < moment) → new ≡ old → AreLostByAge now old new

-- a probe is queued if it is due
pub data IsProbed (now : ℕ) (h : Handshake) (old new : InitialSpace) : Type 0 where
  due : (moment : ℕ) → IsProbeMoment h old moment → moment ≤ now → new ≡ with_probe old.state old → IsProbed now h old new
  not_yet : ((moment : ℕ) → IsProbeMoment h old moment → now < moment) → new ≡ old → IsProbed now h old new

-- what the moments do that are due
pub data IsTimedOut (now : ℕ) (old new : Handshake) : Type 0 where
  gone : old.space ≡ None → new ≡ old → IsTimedOut now old new
  recovery : (s mid next : InitialSpace) → old.space ≡ Some s → AreLostByAge now s mid → IsProbed now old mid next → new ≡ record old { space = Some next } → IsTimedOut now old new
