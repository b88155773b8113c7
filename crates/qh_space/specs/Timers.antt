-- When a probe is due (RFC 9002, section 6.2), in whole nanoseconds.
use Rattle.std.specs.Prelude.{◌≡◌, ℕ, ◌+◌, ◌-◌, ◌^◌, min, true}
use Rattle.qh_base.specs.declared.time.Moment.{Moment}
use Rattle.qh_loss.specs.Settled.{IsProbeQueued}
use Rattle.qh_loss.specs.declared.probe.Probe.{Probe}
use Rattle.qh_loss.specs.declared.probe.Probe.TheVariants.{Ping}
use Rattle.qh_recovery.specs.Rtt.{probe_time}
use Rattle.qh_recovery.specs.SentPackets.{IsLastSent}
use Rattle.qh_space.specs.declared.data_space.DataSpace.{DataSpace}

-- the probe timeout after the last packet that is out was sent
pub record IsProbeTime (s : DataSpace) (moment : ℕ) : Type 0 where
  pub last : Moment
  pub is_last : IsLastSent s.sent last
  pub moment_is : moment ≡ min (2 ^ 64 - 1) (last.0 + probe_time s.rtt s.pto_count)

abbrev pub pings_after : Probe → DataSpace → DataSpace
pings_after Ping s = record s { is_ping_due = true }
pings_after _ s = s

-- A probe is due: frames that are owed wait again, or a PING, and the next ack-eliciting packet passes the window.
pub record IsProbeDue (old new : DataSpace) : Type 0 where
  pub probe : Probe
  pub queued : IsProbeQueued old.streams new.streams old.sent probe
  pub rest_is : new ≡ pings_after probe (record old { streams = new.streams; is_probe_due = true })
