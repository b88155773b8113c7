-- The bandwidth, from the totals of bytes that were sent and acknowledged.
use Rattle.std.specs.Prelude.{ℕ, ◌+◌, ◌-◌, ◌*◌, ◌/◌, ◌^◌, ◌≤◌, ◌==◌, nat_lt, min, Bool, ◌&&◌, not, is_none, Option, Some, None, unwrap_or, if◌then◌else◌}
use Rattle.qh_base.specs.declared.time.Moment.{Moment}
use Rattle.qh_parts.specs.declared.bw_estimation.Total.{Total}
use Rattle.qh_parts.specs.declared.bw_estimation.Totals.{Totals}
use Rattle.qh_parts.specs.declared.min_max.Samples.{Samples}
use Rattle.qh_parts.specs.MinMax.{no_samples, updated}

-- an estimation as a value
pub record PlainEstimation : Type 0 where
  pub sent : Totals
  pub acked : Totals
  pub max_filter : Samples
  -- the acknowledged total when the acknowledgments last ended
  pub acked_at_last_window : ℕ

-- no bytes, at no moment
abbrev pub no_total : Total
no_total = record { bytes = 0; at = None }

abbrev pub no_totals : Totals
no_totals = record { last = no_total; previous = no_total }

abbrev pub no_estimation : PlainEstimation
no_estimation = record { sent = no_totals; acked = no_totals; max_filter = no_samples; acked_at_last_window = 0 }

-- the totals after so many more bytes
abbrev pub with_bytes : Totals → Moment → ℕ → Totals
with_bytes t now bytes = record { last = record { bytes = t.last.bytes + bytes; at = Some now }; previous = t.last }

-- bytes a second, over so many nanoseconds
abbrev pub rate : (bytes nanoseconds : ℕ) → Option ℕ
rate bytes nanoseconds =
    if nanoseconds == 0 then None else Some (min (2 ^ 64 - 1) (bytes * 1000000000 / nanoseconds))

-- the rate at which this many bytes came between two moments, none where no time lies between them
abbrev pub rate_between : ℕ → Option Moment → Option Moment → Option ℕ
rate_between bytes (Some from) (Some to) = rate bytes (to.0 - from.0)
rate_between bytes _ _ = None

abbrev pub rate_of : Totals → Option ℕ
rate_of t = rate_between (t.last.bytes - t.previous.bytes) t.previous.at t.last.at

-- the lesser of both rates: over no time any rate of sending counts, and none of acknowledging
abbrev pub bandwidth_of : (sent acked : Totals) → ℕ
bandwidth_of sent acked = min (unwrap_or (rate_of sent) (2 ^ 64 - 1)) (unwrap_or (rate_of acked) 0)

-- the filter after a measurement, which counts where the application had more to send and where it is the greatest
unfoldable pub filtered : Samples → (round bandwidth : ℕ) → Bool → Samples
filtered s round bandwidth app_limited =
    if not app_limited && nat_lt s.first.value bandwidth then updated s round bandwidth else s

-- the estimation after bytes were sent
abbrev pub after_sent : PlainEstimation → Moment → ℕ → PlainEstimation
after_sent e now bytes = record e { sent = with_bytes e.sent now bytes }

-- after bytes were acknowledged: nothing is measured before bytes were sent twice
abbrev pub after_ack : PlainEstimation → Moment → (bytes round : ℕ) → Bool → PlainEstimation
after_ack e now bytes round app_limited =
    let acked = with_bytes e.acked now bytes in
    record e {
      acked = acked;
      max_filter = (if is_none e.sent.previous.at then e.max_filter else filtered e.max_filter round (bandwidth_of e.sent acked) app_limited);
    }

-- totals never fall
pub record IsCounted (sent acked : Totals) (acked_at_last_window : ℕ) : Type 0 where
  pub sent_rises : sent.previous.bytes ≤ sent.last.bytes
  pub acked_rises : acked.previous.bytes ≤ acked.last.bytes
  pub window : acked_at_last_window ≤ acked.last.bytes
