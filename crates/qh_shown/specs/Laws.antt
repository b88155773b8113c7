-- What the laws of a book say by which those of this crate are proved: how it shows streams and datagrams.
use Rattle.std.specs.Prelude.{◌≡◌, ℕ, ◌++◌, ◌∷◌, [], drop, map, Bool, List, Option, Some, None}
use Rattle.qh_base.specs.declared.path.FourTuple.{FourTuple}
use Rattle.qh_book.specs.Book.{Book, first_book}
use Rattle.qh_book.specs.Items.{bring, bring_all, item_of}
use Rattle.qh_book.specs.Shown.{AreFirst, DatagramBounds, IsStreamChange, Note, SameDatagrams, SameStreams, ShowsDatagrams, ShowsStreams, no_note}
use Rattle.qh_book.specs.declared.item.Item.TheVariants as item
use Rattle.qh_datagrams.specs.Datagrams.{PlainDatagrams, newest}
use Rattle.qh_shown.specs.Kept.{Keeps}
use Rattle.qh_spec.specs.declared.sides.Side.{Side}
use Rattle.qh_streams.specs.Items.{confirmed_items, first_items, items_of}
use Rattle.qh_streams.specs.Streams.{IsAckedFrame, IsHandedOver, IsLostFrame, IsReceived, PlainStreams, refusal_of, with_peer}
use Rattle.qh_streams.specs.declared.frames.PeerLimits.{PeerLimits}
use Rattle.qh_streams.specs.declared.frames.SentFrame.{SentFrame}
use Rattle.qh_streams.specs.declared.frames.StreamEvent.{StreamEvent}
use Rattle.qh_streams.specs.declared.frames.StreamFrame.{StreamFrame}
use Rattle.qh_streams.specs.declared.items.Item.{Item}

-- these items lead from each book that shows the streams to one that shows them afterwards, and leave of it what calls alone change
pub record Leads (items : List Item) (old new : PlainStreams) : Type 0 where
  pub to : (notes : ℕ → Note) (b : Book) → ShowsStreams old notes b → ShowsStreams new notes (bring_all (map item_of items) b)
  pub keeps : (notes : ℕ → Note) (b : Book) → ShowsStreams old notes b → Keeps b (bring_all (map item_of items) b)

pub record BookLaws : Type 0 where
  -- frames
  pub received : (old new : PlainStreams) (frame : StreamFrame) → refusal_of old frame ≡ None → IsReceived old new frame → Leads (items_of old frame) old new
  pub acked : (old new : PlainStreams) (frame : SentFrame) → IsAckedFrame old new frame → Leads (confirmed_items old new frame) old new
  pub sent : (old new : PlainStreams) (room : ℕ) (frame : SentFrame) → IsHandedOver old new room frame → Leads [] old new
  pub lost : (old new : PlainStreams) (frame : SentFrame) → IsLostFrame old new frame → Leads [] old new
  pub told : (s : PlainStreams) (events : List StreamEvent) (blocked : List ℕ) → Leads [] s (record s { events = events; blocked = blocked })
  -- the first limits
  pub first : (s : PlainStreams) (addresses : FourTuple) (stable_id : ℕ) (datagram_receive : Option ℕ) (datagram_send : ℕ) → AreFirst s
      → ShowsStreams s (λ k. no_note) (first_book s.side addresses stable_id s.send.send_window datagram_receive datagram_send)
  pub anew : (s t : PlainStreams) → AreFirst s → AreFirst t → t.side ≡ s.side → t.send.send_window ≡ s.send.send_window → Leads [] s t
  pub peer : (s : PlainStreams) (peer : PeerLimits) → Leads (first_items peer) s (with_peer s peer)
  -- datagrams
  pub unsent : (side : Side) (addresses : FourTuple) (stable_id send_window : ℕ) (l : DatagramBounds) (blocked : Bool) → l.most ≡ None
      → ShowsDatagrams (record { incoming = []; outgoing = []; is_send_blocked = blocked }) l (first_book side addresses stable_id send_window l.receive l.send)
  pub came : (d : PlainDatagrams) (l : DatagramBounds) (b : Book) (payload : List ℕ) (most : ℕ) → ShowsDatagrams d l b → l.receive ≡ Some most
      → ShowsDatagrams (record d { incoming = newest most (d.incoming ++ payload ∷ []) }) l (bring (item.Datagram payload) b)
  pub taken : (d : PlainDatagrams) (l : DatagramBounds) (b : Book) (count : ℕ) (blocked : Bool) → ShowsDatagrams d l b
      → ShowsDatagrams (record d { outgoing = drop count d.outgoing; is_send_blocked = blocked }) l (bring (item.DatagramsSent count) b)
  pub bounded : (d : PlainDatagrams) (l : DatagramBounds) (b : Book) (most : Option ℕ) → ShowsDatagrams d l b → ShowsDatagrams d (record l { most = most }) (bring (item.MaxDatagramSize most) b)
  -- what stays
  pub streams : (s : PlainStreams) (notes : ℕ → Note) (b c : Book) → SameStreams b c → ShowsStreams s notes b → ShowsStreams s notes c
  pub datagrams : (d : PlainDatagrams) (l : DatagramBounds) (b c : Book) → SameDatagrams b c → ShowsDatagrams d l b → ShowsDatagrams d l c
  pub connects : (b : Book) → SameStreams b (bring item.Connected b) × SameDatagrams b (bring item.Connected b)
  pub comes : (payload : List ℕ) (b : Book) → SameStreams b (bring (item.Datagram payload) b)
  pub goes : (count : ℕ) (b : Book) → SameStreams b (bring (item.DatagramsSent count) b)
  pub bounds : (most : Option ℕ) (b : Book) → SameStreams b (bring (item.MaxDatagramSize most) b)
  pub items : (items : List Item) (b : Book) → IsStreamChange b (bring_all (map item_of items) b)
  pub changed : (b c : Book) → IsStreamChange b c → SameDatagrams b c
