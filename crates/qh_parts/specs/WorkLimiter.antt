-- How much work a cycle may do, from the time that work took.
use Rattle.std.specs.Prelude.{ℕ, ◌+◌, ◌-◌, ◌*◌, ◌/◌, ◌%◌, ◌^◌, ◌==◌, nat_lt, max, Bool, Option, Some, None, if◌then◌else◌}
use Rattle.qh_base.specs.declared.time.Moment.{Moment}

-- a limiter as a value
pub record PlainLimiter : Type 0 where
  -- how long a cycle is to be, in nanoseconds
  pub desired_cycle_time : ℕ
  -- how many cycles with work are over, modulo 2^16
  pub cycle : ℕ
  -- when the cycle started, none before the first
  pub start_time : Option Moment
  -- the cycle's work
  pub completed : ℕ
  -- the nanoseconds that an item takes, 0 before the first measured cycle
  pub smoothed_time : ℕ
  pub allowed : ℕ

abbrev pub new_limiter : ℕ → PlainLimiter
new_limiter time = record { desired_cycle_time = time; cycle = 0; start_time = None; completed = 0; smoothed_time = 0; allowed = 0 }

-- one cycle of 256 is measured
abbrev pub is_measured : PlainLimiter → Bool
is_measured l = l.cycle % 256 == 0

-- the nanoseconds since the cycle started
abbrev pub elapsed_since : Option Moment → Moment → ℕ
elapsed_since None now = 0
elapsed_since (Some start) now = now.0 - start.0

-- more work may be done
abbrev pub allows_work : PlainLimiter → Moment → Bool
allows_work l now =
    if is_measured l then nat_lt (elapsed_since l.start_time now) l.desired_cycle_time
    else nat_lt l.completed l.allowed

-- the smoothed time after one more measurement: the first, or 7/8 of what it was and 1/8 of this one; at least 1
abbrev pub smoothed : (before time : ℕ) → ℕ
smoothed before time = max 1 (if before == 0 then time else (7 * before + time) / 8)

-- the limiter after a cycle that was measured, in which an item took this many nanoseconds
abbrev pub after_measured : PlainLimiter → ℕ → PlainLimiter
after_measured l time =
    let smooth = smoothed l.smoothed_time time in
    record l { smoothed_time = smooth; allowed = max 1 (l.desired_cycle_time / smooth) }

-- after a cycle with work
abbrev pub after_work : PlainLimiter → Moment → PlainLimiter
after_work l now = if is_measured l then after_measured l (elapsed_since l.start_time now / l.completed) else l

-- after any cycle: one without work isn't counted
abbrev pub after_cycle : PlainLimiter → Moment → PlainLimiter
after_cycle l now = if l.completed == 0 then l else record (after_work l now) { cycle = (l.cycle + 1) % 2 ^ 16 }
