-- A state before the first call and the first turn.
use Rattle.std.specs.Prelude.{◌≡◌, ℕ, false, [], None}
use Rattle.qh_base.specs.declared.time.Moment.{Moment}
use Rattle.qh_conn.specs.declared.connection.Connection.{Connection}
use Rattle.qh_quinn.specs.States.{IsState, Shows}
use Rattle.qh_quinn.specs.Telling.{AreTold}
use Rattle.qh_quinn.specs.declared.inner.StateInner.{StateInner}
use Rattle.qh_shown.specs.Connections.{IsBegun, opening_book}
use Rattle.qh_shown.specs.Items.{brought}

module _ {S : Type 0} where
  -- What the connection holds by now is what items brought to the first book: whichever are known to have done so. What was due was told. Nothing waits, for
  -- the socket or to be handed over.
  pub record IsFirstState (c : Connection S) (stable_id : ℕ) (now : Moment) (s : StateInner S) : Type 0 where
    pub state : IsState s
    pub shows : (begun : IsBegun c) → Shows s (record (brought begun.items (opening_book c stable_id)) { error = c.core.error })
    pub told : AreTold false c s.is_connected s.connection
    pub events : s.events.items ≡ []
    pub outgoing : s.outgoing ≡ None
    pub last_turn : s.last_turn ≡ now
