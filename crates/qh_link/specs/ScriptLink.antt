-- A link in memory as a value.
use Rattle.std.specs.Prelude.{◌≡◌, ℕ, ◌≤◌, ◌++◌, ◌&&◌, Bool, true, false, nat_lt, List, map, filter, All, Option, Some}
use Rattle.qh_spec.specs.declared.link.Event.{Event}
use Rattle.qh_spec.specs.declared.link.Upset.{Upset}
use Rattle.qh_spec.specs.declared.sides.Side.{Side}
use Rattle.qh_spec.specs.Link.{if_same_side, given_to}
use Rattle.qh_spec.specs.Schedule.{Plan, Flight, flights, due_through, round_count, send_count, IsScheduled, IsUpset}
use Rattle.qh_link.specs.declared.ways.Postponed.{Postponed}
use Rattle.qh_link.specs.declared.ways.Ways.{Ways}
use Rattle.qh_link.specs.Ways.{ready_to, later_to}

pub record PlainLink : Type 0 where
  -- milliseconds from round to round
  pub step : ℕ
  pub schedule : List Upset
  pub events : List Event
  pub faults : ℕ

abbrev pub plan_of : PlainLink → Option Plan
plan_of l = Some (record { step = l.step; schedule = l.schedule })

-- the flight comes to this side in a round after this one
abbrev pub is_late : ℕ → Side → Flight → Bool
is_late r s f = nat_lt r f.round && if_same_side s f.to true false

-- what comes to a side after this round, in the order of sending
abbrev pub late_after : ℕ → Side → List Flight → List Postponed
late_after r s fs = map (λ (f : Flight). record { round = f.round; datagram = f.datagram }) (filter (is_late r s) fs)

-- what is ready for a side and what is late are what the schedule and the events say
pub record IsWay (schedule : List Upset) (events : List Event) (s : Side) (ready : List (List ℕ)) (later : List Postponed) : Type 0 where
  pub ready_is : given_to s events ++ ready ≡ due_through schedule events (round_count events) s
  pub later_is : later ≡ late_after (round_count events) s (flights schedule events)

-- what the fields of a link in memory keep
pub record IsKept (step : ℕ) (schedule : List Upset) (events : List Event) (round sends : ℕ) (ways : Ways) : Type 0 where
  pub short_step : step ≤ 10000
  pub entries : All IsUpset schedule
  pub scheduled : IsScheduled step schedule events
  pub round_is : round ≡ round_count events
  pub sends_is : sends ≡ send_count events
  pub ways_are : (s : Side) → IsWay schedule events s (ready_to ways s) (later_to ways s)
