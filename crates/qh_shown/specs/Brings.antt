-- What an event, or another call of the driver's, brings of a connection: items, in their order.
use Rattle.std.specs.Prelude.{◌≡◌, ℕ, Bool, true, List, Option, Some, is_some}
use Rattle.qh_base.specs.declared.connection_error.ConnectionError.TheVariants as error
use Rattle.qh_book.specs.Book.{Book}
use Rattle.qh_book.specs.Items.{bring}
use Rattle.qh_book.specs.Shown.{Note}
use Rattle.qh_book.specs.declared.item.Item.TheVariants as item
use Rattle.qh_conn.specs.Items.{came}
use Rattle.qh_conn.specs.declared.connection.Connection.{Connection}
use Rattle.qh_conn.specs.declared.event.Event.{Event}
use Rattle.qh_conn.specs.declared.event.Event.TheVariants as event
use Rattle.qh_control.specs.Items.{logged}
use Rattle.qh_control.specs.declared.items.ConnectionItem.{ConnectionItem}
use Rattle.qh_core.specs.Inner.{is_open}
use Rattle.qh_shown.specs.Connections.{ShowsConnection, is_wanting, spared_all}
use Rattle.qh_shown.specs.Items.{brought}
use Rattle.qh_shown.specs.Kept.{Keeps, KeepsLost}

-- whether the application was told that the handshake is complete, behind an event that was told
abbrev pub is_told : Bool → Option Event → Bool
is_told was_told (Some event.Connected) = true
is_told was_told other = was_told

module _ {S : Type 0} where
  -- The log of the streams of an end that is open and was greeted is on, if that of the connection is.
  abbrev pub IsLogging : Connection S → Type 0
  IsLogging c = is_open c.core.state ≡ true → is_some c.handshake.peer ≡ true → is_some c.control.log ≡ true → is_some c.core.space.log ≡ true

  -- These items lead from each book that shows the connection to one that shows it now, and leave of it what calls alone change. They come last in its
  -- log, if that is on.
  pub record Brings (items : List ConnectionItem) (old new : Connection S) : Type 0 where
    pub shows : (was_told : Bool) (notes : ℕ → Note) (b : Book) → ShowsConnection was_told old notes b → ShowsConnection was_told new notes (brought items b)
    pub keeps : (was_told : Bool) (notes : ℕ → Note) (b : Book) → ShowsConnection was_told old notes b → Keeps b (brought items b)
    pub logs : came new ≡ logged (came old) items
    pub logging : IsLogging old → IsLogging new

  pub record BringsSome (old new : Connection S) : Type 0 where
    pub items : List ConnectionItem
    pub brings : Brings items old new

  -- An event was told to the application: what the connection shows is the same.
  pub record TellsOf (told : Option Event) (old new : Connection S) : Type 0 where
    pub shows : (was_told : Bool) (notes : ℕ → Note) (b : Book) → ShowsConnection was_told old notes b → ShowsConnection (is_told was_told told) new notes b
    pub logs : came new ≡ came old
    pub logging : IsLogging old → IsLogging new

  -- These items, and then want of memory ends the connection.
  pub record EndsWanting (old new : Connection S) : Type 0 where
    pub items : List ConnectionItem
    pub wanting : is_wanting new ≡ true
    pub shows : (was_told : Bool) (notes : ℕ → Note) (b : Book) → ShowsConnection was_told old notes b → ShowsConnection was_told new (spared_all notes (brought items b)) (bring (item.Lost error.Memory) (brought items b))
    pub before : (was_told : Bool) (notes : ℕ → Note) (b : Book) → ShowsConnection was_told old notes b → Keeps b (brought items b)
    pub keeps : (was_told : Bool) (notes : ℕ → Note) (b : Book) → ShowsConnection was_told old notes b → KeepsLost b (bring (item.Lost error.Memory) (brought items b))
    pub logs : came new ≡ logged (came old) items
