-- A runtime whose time is set by hand (own).
use Rattle.std.specs.Prelude.{ℕ}
use Rattle.qh_base.specs.declared.time.Moment.{Moment}

pub record PlainRuntime : Type 0 where
  pub now : Moment
  -- how often it failed
  pub faults : ℕ
