-- How a book stands to a whole connection: it shows what an application can see of it. Why the connection is lost, the handles and the calls that wait are
-- the state's around it.
use Rattle.std.specs.Prelude.{◌≡◌, ℕ, ◌≤◌, Bool, true, false, ◌||◌, List, [], Option, Some, None, MatchBool, if◌then◌else◌}
use Rattle.qh_base.specs.declared.connection_error.ConnectionError.{ConnectionError}
use Rattle.qh_book.specs.Book.{Book, first_book, tally}
use Rattle.qh_book.specs.Items.{is_memory}
use Rattle.qh_book.specs.Pages.{RecvPage, is_given, is_open, unread_at}
use Rattle.qh_book.specs.Shown.{AreFirst, DatagramBounds, IsShut, Note, ShowsDatagrams, ShowsStreams, no_note}
use Rattle.qh_conn.specs.Greeting.{or_set}
use Rattle.qh_conn.specs.Items.{came}
use Rattle.qh_conn.specs.declared.connection.Connection.{Connection}
use Rattle.qh_control.specs.declared.control.ControlState.{ControlState}
use Rattle.qh_control.specs.declared.items.ConnectionItem.{ConnectionItem}
use Rattle.qh_core.specs.Event.{is_drained}
use Rattle.qh_shown.specs.Items.{brought}
use Rattle.qh_shown.specs.Kept.{IsUncalled}
use Rattle.qh_spec.specs.declared.sides.Dir.{Dir}

-- ---- want of memory ended the connection

abbrev pub is_wanting_in : Option ConnectionError → Bool
is_wanting_in None = false
is_wanting_in (Some e) = is_memory e

-- the page of a half that was read until then: nothing of it is left
pub record IsDry (p : RecvPage) : Type 0 where
  pub unread : (k : ℕ) → unread_at p k ≡ None
  pub end : p.end ≡ None
  pub reset_code : p.reset_code ≡ None

-- what is noted of a half whose end or reset was told is known still, and nothing else of a reset
abbrev pub spared : Note → Option RecvPage → Note
spared note None = note
spared note (Some p) = if is_given p.state then note else record note { code = None }

abbrev pub spared_all : (ℕ → Note) → Book → (ℕ → Note)
spared_all notes b = λ k. spared (notes k) (b.recvs k)

abbrev pub ShowsLost : Note → Option RecvPage → Type 0
ShowsLost note None = note ≡ no_note
ShowsLost note (Some p) = MatchBool (is_open p.state) (IsDry p × (note.code ≡ None) × (note.is_told ≡ false)) (IsShut note p)

-- what bounds the datagrams of a connection
abbrev pub bounds_of : ControlState → DatagramBounds
bounds_of s = record { receive = s.datagram_receive; send = s.datagram_send; most = s.peer_datagram }

-- What the book has of a connection that want of memory ended, whose datagrams these bound: nothing waits any more to be read, accepted or sent, and of
-- sending halves nothing is known.
pub record IsEmptied (bounds : DatagramBounds) (notes : ℕ → Note) (b : Book) : Type 0 where
  pub emptied : b.is_emptied ≡ true
  pub sends : (k : ℕ) → b.sends k ≡ None
  pub recvs : (k : ℕ) → ShowsLost (notes k) (b.recvs k)
  pub accepted : (dir : Dir) → (tally b dir).arrived ≤ (tally b dir).accepted
  pub datagrams : b.datagrams ≡ []
  pub queued : b.queued ≡ []
  pub receive : b.datagram_receive ≡ bounds.receive
  pub send : b.datagram_send ≡ bounds.send
  pub most : b.max_datagram_size ≡ bounds.most

-- ---- whole connections

module _ {S : Type 0} where
  abbrev pub is_wanting : Connection S → Bool
  is_wanting c = is_wanting_in c.core.error

  -- The peer's hello wasn't read: no stream was used, and what was set of the send window holds on.
  pub record IsUngreeted (c : Connection S) : Type 0 where
    pub streams : AreFirst c.core.space.streams
    pub side : c.core.space.streams.side ≡ c.core.side
    pub window : c.core.space.streams.send.send_window ≡ or_set c.early.send_window c.core.config.limits.send_window
    pub log : c.core.space.log ≡ None
    pub most : c.control.peer_datagram ≡ None

  -- a connection that want of memory didn't end
  pub record ShowsLive (c : Connection S) (notes : ℕ → Note) (b : Book) : Type 0 where
    pub streams : ShowsStreams c.core.space.streams notes b
    pub datagrams : ShowsDatagrams c.control.datagrams (bounds_of c.control) b
    pub kept : b.is_emptied ≡ false
    pub ungreeted : c.handshake.peer ≡ None → IsUngreeted c

  -- The book shows the connection, with what is noted of receiving halves. `was_told` says whether the application was told that the handshake is complete;
  -- an end that closed before isn't told so any more.
  pub record ShowsConnection (was_told : Bool) (c : Connection S) (notes : ℕ → Note) (b : Book) : Type 0 where
    pub side : b.side ≡ c.core.side
    pub addresses : b.addresses ≡ c.core.addresses
    pub connected : b.is_connected ≡ (was_told || c.is_connected_due)
    pub drained : is_wanting c ≡ true → is_drained c.core.state ≡ true
    pub live : is_wanting c ≡ false → ShowsLive c notes b
    pub emptied : is_wanting c ≡ true → IsEmptied (bounds_of c.control) notes b

  -- ---- a connection that is taken up

  -- the book of one before its first event
  abbrev pub opening_book : Connection S → (stable_id : ℕ) → Book
  opening_book c stable_id = first_book c.core.side c.core.addresses stable_id c.config.limits.send_window c.config.datagram_receive c.config.datagram_send

  -- What it holds by now is what these items brought, and no call was made yet.
  pub record IsBegun (c : Connection S) : Type 0 where
    pub items : List ConnectionItem
    pub shows : (stable_id : ℕ) → ShowsConnection false c (λ k. no_note) (brought items (opening_book c stable_id))
    pub uncalled : (stable_id : ℕ) → IsUncalled stable_id (brought items (opening_book c stable_id))

  -- its log was on from the first, and nothing was taken out of it
  pub record IsBegunLogged (c : Connection S) : Type 0 where
    pub begun : IsBegun c
    pub logged : came c ≡ Some begun.items
