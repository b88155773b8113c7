-- When a probe of the Initial space is due, and what it sends (RFC 9002, section 6.2), in whole nanoseconds.
use Rattle.std.specs.Prelude.{◌≡◌, ℕ, ◌+◌, ◌-◌, ◌^◌, min, true, false, [], Bool}
use Rattle.qh_base.specs.declared.time.Moment.{Moment}
use Rattle.qh_handshake.specs.declared.initial_space.HelloState.{HelloState}
use Rattle.qh_handshake.specs.declared.initial_space.HelloState.TheVariants.{Held, Waits, Out, Acked}
use Rattle.qh_handshake.specs.declared.initial_space.InitialSpace.{InitialSpace}
use Rattle.qh_recovery.specs.Rtt.{probe_time}
use Rattle.qh_recovery.specs.SentPackets.{IsLastSent}

-- the probe timeout after a moment, or the last moment that there is
abbrev pub probe_after : InitialSpace → Moment → ℕ
probe_after s moment = min (2 ^ 64 - 1) (moment.0 + probe_time s.rtt s.pto_count)

-- The probe timeout after the last packet that is out was sent; where none is out, of an end that waits to be greeted, after the last
-- packet that was sent or accepted (section 6.2.2.1).
pub data IsProbeTime (s : InitialSpace) (is_awaited : Bool) : (moment : ℕ) → Type 0 where
  after_last : (last : Moment) → IsLastSent s.sent last → IsProbeTime s is_awaited (probe_after s last)
  awaited : s.sent ≡ [] → is_awaited ≡ true → IsProbeTime s is_awaited (probe_after s s.last_active)

-- none is due
abbrev pub IsUnprobed : InitialSpace → (is_awaited : Bool) → Type 0
IsUnprobed s is_awaited = (s.sent ≡ []) × (is_awaited ≡ false)

-- A probe is due: a hello that isn't acknowledged is sent again, or where there is none a PING (section 6.2.4).
abbrev pub with_probe : HelloState → InitialSpace → InitialSpace
with_probe Out s = record s { state = Waits; is_probe_due = true }
with_probe Waits s = record s { is_probe_due = true }
with_probe Held s = record s { is_ping_due = true; is_probe_due = true }
with_probe Acked s = record s { is_ping_due = true; is_probe_due = true }
