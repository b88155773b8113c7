-- That a connection is lost, as a turn of the driver brings it.
use Rattle.std.specs.Prelude.{◌∷◌, ◌&&◌, ◌||◌, Bool, not, List, [], Option, Some, None, is_some, if◌then◌else◌}
use Rattle.qh_base.specs.declared.connection_error.ConnectionError.{ConnectionError}
use Rattle.qh_book.specs.declared.item.Item.{Item}
use Rattle.qh_book.specs.declared.item.Item.TheVariants as item
use Rattle.qh_quinn.specs.declared.inner.StateInner.{StateInner}
use Rattle.qh_shown.specs.Connections.{is_wanting}

-- that the connection is lost, if it is
abbrev pub lost_items : Option ConnectionError → List Item
lost_items None = []
lost_items (Some e) = item.Lost e ∷ []

module _ {S : Type 0} where
  -- the kept error is new
  abbrev pub is_newly_lost : (failed : Bool) → (old new : StateInner S) → Bool
  is_newly_lost failed old new = failed || (not (is_some old.error) || (not (is_wanting old.connection) && is_wanting new.connection))

  abbrev pub new_loss : (failed : Bool) → (old new : StateInner S) → Option ConnectionError
  new_loss failed old new = if is_newly_lost failed old new then new.error else None
