-- The round-trip time of a path (RFC 9002, section 5), in whole nanoseconds, each quotient rounded down.
use Rattle.std.specs.Prelude.{ℕ, ◌+◌, ◌-◌, ◌*◌, ◌/◌, ◌^◌, min, max, Option, Some, None, unwrap_or}
use Rattle.std.specs.Int.{abs_diff}
use Rattle.qh_base.specs.declared.time.Span.{Span}
use Rattle.qh_recovery.specs.declared.paths.RttEstimator.{RttEstimator}

-- a length of time of this many nanoseconds
abbrev pub span : (nanoseconds : ℕ) → Span
span nanoseconds = record { 0 = nanoseconds }

-- before the first sample (section 6.2.2)
abbrev pub new_estimator : (initial : ℕ) → RttEstimator
new_estimator initial = record { latest = span initial; smoothed = None; var = span (initial / 2); min = span initial }

-- after the first sample (section 5.3)
abbrev pub first_sample : (sample : ℕ) → RttEstimator
first_sample sample = record { latest = span sample; smoothed = Some (span sample); var = span (sample / 2); min = span sample }

-- 3/4 of the variation and 1/4 of how far the sample is from the smoothed time of before (section 5.3)
abbrev pub varied : (var smoothed sample : ℕ) → ℕ
varied var smoothed sample = (3 * var + abs_diff smoothed sample) / 4

-- 7/8 of the smoothed time and 1/8 of the sample (section 5.3)
abbrev pub smoothed_by : (smoothed sample : ℕ) → ℕ
smoothed_by smoothed sample = (7 * smoothed + sample) / 8

-- after a later sample, if this was the smoothed time before it (sections 5.2 and 5.3)
abbrev pub later_sample : (smoothed sample : ℕ) → RttEstimator → RttEstimator
later_sample smoothed sample e = record { latest = span sample; smoothed = Some (span (smoothed_by smoothed sample)); var = span (varied e.var.0 smoothed sample); min = span (min e.min.0 sample) }

abbrev pub sample_after : (smoothed : Option Span) → (sample : ℕ) → RttEstimator → RttEstimator
sample_after None sample e = first_sample sample
sample_after (Some smoothed) sample e = later_sample smoothed.0 sample e

-- after a sample, the first or a later one
abbrev pub sampled : (sample : ℕ) → RttEstimator → RttEstimator
sampled sample e = sample_after e.smoothed sample e

-- the smoothed time, or before a sample the initial one, which is the latest then
abbrev pub rtt_of : RttEstimator → ℕ
rtt_of e = (unwrap_or e.smoothed e.latest).0

-- the greater of the smoothed and the latest time
abbrev pub conservative : RttEstimator → ℕ
conservative e = max (rtt_of e) e.latest.0

-- the probe timeout before it is doubled, with a granularity of 1 ms and the peer's greatest delay of 25 ms (section 6.2.1)
abbrev pub pto_base : RttEstimator → ℕ
pto_base e = min (2 ^ 64 - 1) (rtt_of e + max (4 * e.var.0) 1000000 + 25000000)

-- the probe timeout, doubled for each probe (section 6.2.1)
abbrev pub probe_time : RttEstimator → (count : ℕ) → ℕ
probe_time e count = min (2 ^ 64 - 1) (pto_base e * 2 ^ count)

-- a packet that was sent longer ago than this before an acknowledged one is lost (section 6.1.2)
abbrev pub loss_delay : RttEstimator → ℕ
loss_delay e = min (2 ^ 64 - 1) (9 * conservative e / 8)
