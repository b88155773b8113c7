-- How a book stands to a state: it shows the state's connection, its handles and the calls that wait.
use Rattle.std.specs.Prelude.{◌≡◌, ℕ, false, not, is_some}
use Rattle.qh_book.specs.Book.{Book}
use Rattle.qh_book.specs.Shown.{Note}
use Rattle.qh_book.specs.declared.interest.Interest.{Interest}
use Rattle.qh_conn.specs.Whole.{IsWhole}
use Rattle.qh_core.specs.Inner.{is_open}
use Rattle.qh_quinn.specs.Readers.{HoldsReader, reader_in}
use Rattle.qh_quinn.specs.Waiting.{is_among}
use Rattle.qh_quinn.specs.declared.inner.StateInner.{StateInner}
use Rattle.qh_shown.specs.Brings.{IsLogging}
use Rattle.qh_shown.specs.Connections.{ShowsConnection, is_wanting}
pub use Rattle.qh_shown.specs.Kept.{AreUntouched, IsUntouched, is_unaccepted}

-- ---- states

module _ {S : Type 0} where
  -- the book shows the state, with what is noted of receiving halves
  pub record ShowsWith (notes : ℕ → Note) (s : StateInner S) (b : Book) : Type 0 where
    pub connection : ShowsConnection s.is_connected s.connection notes b
    pub readers : (k : ℕ) → HoldsReader (is_wanting s.connection) (reader_in s.readers k) (b.readers k) (notes k) (b.recvs k)
    pub untouched : AreUntouched b
    pub stable_id : b.stable_id ≡ s.stable_id
    pub error : b.error ≡ s.error
    pub handles : b.handles ≡ s.handles
    pub interests : (i : Interest) → b.interests i ≡ is_among i s.waiting.items

  pub record Shows (s : StateInner S) (b : Book) : Type 0 where
    pub notes : ℕ → Note
    pub shows : ShowsWith notes s b

  -- What holds of a state between two turns of the driver, at every moment: its connection is whole, an error is kept exactly if it isn't open, the
  -- application was told whether the handshake is complete, the log of its streams is on if that of the connection is, and a book shows it.
  pub record IsState (s : StateInner S) : Type 0 where
    pub whole : IsWhole s.connection
    pub lost : is_some s.error ≡ not (is_open s.connection.core.state)
    pub told : s.connection.is_connected_due ≡ false
    pub logging : IsLogging s.connection
    pub book : Book
    pub shown : Shows s book
