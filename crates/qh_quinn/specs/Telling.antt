-- What was due of a connection was told to the application.
use Rattle.std.specs.Prelude.{Bool, Option}
use Rattle.qh_conn.specs.Telling.{IsTold}
use Rattle.qh_conn.specs.Whole.{StandsStill}
use Rattle.qh_conn.specs.declared.connection.Connection.{Connection}
use Rattle.qh_conn.specs.declared.event.Event.{Event}
use Rattle.qh_shown.specs.Brings.{is_told}

module _ {S : Type 0} where
  -- One event was told after another. The flags say whether the application knew before, and knows then, that the handshake is complete.
  pub data AreTold : (was_told : Bool) (old : Connection S) (is_told : Bool) (new : Connection S) → Type 0 where
    none : (was_told : Bool) (c : Connection S) → AreTold was_told c was_told c
    more : (was_told : Bool) (old : Connection S) (mid_told : Bool) (mid new : Connection S) (told : Option Event) → AreTold was_told old mid_told mid → IsTold mid new told → StandsStill mid new
        → AreTold was_told old (is_told mid_told told) new
