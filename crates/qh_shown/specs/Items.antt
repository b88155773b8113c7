-- The items of a book, of those that the log of a connection keeps.
use Rattle.std.specs.Prelude.{List, map}
use Rattle.qh_book.specs.Book.{Book}
use Rattle.qh_book.specs.Items.{bring_all, item_of as stream_item}
use Rattle.qh_book.specs.declared.item.Item.{Item}
use Rattle.qh_book.specs.declared.item.Item.TheVariants as item
use Rattle.qh_control.specs.declared.items.ConnectionItem.{ConnectionItem}
use Rattle.qh_control.specs.declared.items.ConnectionItem.TheVariants as logged

abbrev pub item_of : ConnectionItem → Item
item_of logged.Connected = item.Connected
item_of (logged.Stream i) = stream_item i
item_of (logged.Datagram payload) = item.Datagram payload
item_of (logged.DatagramsSent count) = item.DatagramsSent count
item_of (logged.MaxDatagramSize size) = item.MaxDatagramSize size
item_of (logged.Lost e) = item.Lost e

-- one after another
abbrev pub brought : List ConnectionItem → Book → Book
brought items b = bring_all (map item_of items) b
