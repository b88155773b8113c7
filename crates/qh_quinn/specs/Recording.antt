-- The history of a state that keeps it: each call and each turn with its reply, and what the turns brought.
use Rattle.std.specs.Prelude.{◌≡◌, ◌<◌, ◌++◌, ◌∷◌, ℕ, Bool, true, List, [], map, Option, Some, None, is_some, if◌then◌else◌}
use Rattle.qh_base.specs.declared.connection_error.ConnectionError.{ConnectionError}
use Rattle.qh_base.specs.declared.path.FourTuple.{FourTuple}
use Rattle.qh_book.specs.Book.{Book, first_book}
use Rattle.qh_book.specs.History.{PlainEntry, Replays}
use Rattle.qh_book.specs.Step.{driven}
use Rattle.qh_book.specs.declared.call.Call.{Call}
use Rattle.qh_book.specs.declared.call.Call.TheVariants as call
use Rattle.qh_book.specs.declared.item.Item.{Item}
use Rattle.qh_book.specs.declared.reply.Reply.{Reply}
use Rattle.qh_book.specs.declared.reply.Reply.TheVariants as reply
use Rattle.qh_conn.specs.Items.{came}
use Rattle.qh_control.specs.Items.{items_of}
use Rattle.qh_control.specs.declared.items.ConnectionItem.{ConnectionItem}
use Rattle.qh_control.specs.declared.items.LogEntry.{LogEntry}
use Rattle.qh_handles.specs.declared.told.Told.{Told}
use Rattle.qh_quinn.specs.Acting.{IsTelling}
use Rattle.qh_quinn.specs.Losses.{lost_items}
use Rattle.qh_quinn.specs.Readers.{PlainReaders, reader_in}
use Rattle.qh_quinn.specs.States.{Shows}
use Rattle.qh_quinn.specs.Told.{TellsOf}
use Rattle.qh_quinn.specs.declared.inner.StateInner.{StateInner}
use Rattle.qh_shown.specs.Connections.{opening_book}
use Rattle.qh_shown.specs.Items.{item_of}
use Rattle.qh_spec.specs.declared.sides.Side.{Side}

-- ---- entries

-- a reply that has bytes has these
abbrev pub with_payload : {T : Type 0} → List ℕ → Reply T → Reply T
with_payload bytes (reply.Bytes offset old) = reply.Bytes offset bytes
with_payload bytes (reply.Datagram old) = reply.Datagram bytes
with_payload bytes r = r

abbrev pub payload_of : {T : Type 0} → Reply T → List ℕ
payload_of (reply.Bytes offset bytes) = bytes
payload_of (reply.Datagram bytes) = bytes
payload_of r = []

-- The same reply again; of one that tells a value that the book doesn't have, with the value that was told besides.
abbrev pub again : {T : Type 0} → Reply T → (told : Option T) → Reply T
again (reply.Told value) (Some other) = reply.Told other
again r told = r

-- there is a value to be told
abbrev pub HasTold : {T : Type 0} → Reply T → Option T → Type 0
HasTold (reply.Told value) told = is_some told ≡ true
HasTold r told = Unit {0}

-- a call that has no bytes
abbrev pub IsBare : Call → Type 0
IsBare (call.Write id payload) = ⊥
IsBare (call.SendDatagram payload wait) = ⊥
IsBare other = Unit {0}

abbrev pub items_kept : List LogEntry → Option ConnectionError → List Item
items_kept entries lost = map item_of (items_of entries) ++ lost_items lost

-- ---- histories

-- a book before the first call and the first turn
pub record IsFirstBook (b : Book) : Type 0 where
  pub side : Side
  pub addresses : FourTuple
  pub stable_id : ℕ
  pub send_window : ℕ
  pub datagram_receive : Option ℕ
  pub datagram_send : ℕ
  pub is : b ≡ first_book side addresses stable_id send_window datagram_receive datagram_send

module _ {T : Type 0} where
  -- the entry of a call that replied so, with the value that was told besides
  pub record IsEntryWith (c : Call) (r : Reply T) (told : Option T) (e : PlainEntry T) : Type 0 where
    pub call : e.call ≡ c
    pub reply : e.reply ≡ again r told
    pub items : e.items ≡ []

-- `Tells` is what the replies are that may have been told.
module _ {T : Type 0} (Tells : Reply T → Type 0) where
  -- what a call adds to a history, if it is kept
  pub record IsEntryOf (c : Call) (r : Reply T) (e : PlainEntry T) : Type 0 where
    pub told : Option T
    pub is : IsEntryWith c r told e
    pub tells : Tells e.reply

  abbrev pub IsLonger : Call → Reply T → (old new : List (PlainEntry T)) → Type 0
  IsLonger c r old new = (e : PlainEntry T) × IsEntryOf c r e × (new ≡ old ++ e ∷ [])

  abbrev pub Records : Call → Reply T → (old new : Option (List (PlainEntry T))) → Type 0
  Records c r None new = new ≡ None
  Records c r (Some history) new = (e : PlainEntry T) × IsEntryOf c r e × (new ≡ Some (history ++ e ∷ []))

module _ {S D : Type 0} (knows : S → Bool) (name : S → List ℕ) (name_in : D → List ℕ) where
  -- the connection of this state tells that
  abbrev pub TellsAt : StateInner S → Call → Reply (Told D) → Type 0
  TellsAt s c r = IsTelling c → TellsOf knows name name_in s.connection s.error c r

-- the call ends one of so many handles, of which these hold receiving halves
abbrev pub EndsOneOf : (handles : ℕ) → PlainReaders → Call → Type 0
EndsOneOf handles readers (call.EndSend id) = 0 < handles
EndsOneOf handles readers (call.EndRecv id) = (0 < handles) × (is_some (reader_in readers id.0) ≡ true)
EndsOneOf handles readers call.EndHandle = 0 < handles
EndsOneOf handles readers other = ⊥

module _ {S T : Type 0} where
  -- The history is legal, its last book shows the state, and each item that the connection logged is in it.
  pub record IsRecorded (inner : StateInner S) (history : List (PlainEntry T)) : Type 0 where
    pub first : Book
    pub is_first : IsFirstBook first
    pub last : Book
    pub replays : Replays first history last
    pub shows : Shows inner last
    pub taken : came inner.connection ≡ Some []

module _ {S : Type 0} where
  -- No call was made yet, and no turn: one that brings what the connection's log holds, and why it is lost, leads from the opening book to one that shows
  -- the state.
  pub record IsUnused (s : StateInner S) : Type 0 where
    pub items : List ConnectionItem
    pub logged : came s.connection ≡ Some items
    pub shows : Shows s (driven (map item_of items ++ lost_items s.error) (opening_book s.connection s.stable_id))

  -- the call ends a handle that is there
  abbrev pub EndsOne : StateInner S → Call → Type 0
  EndsOne s c = EndsOneOf s.handles s.readers c
