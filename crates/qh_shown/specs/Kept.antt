-- What items leave of a book.
use Rattle.std.specs.Prelude.{◌≡◌, ℕ, nat_le, Bool, true, false, ◌&&◌, not, Some, None, IfSome, if◌then◌else◌}
use Rattle.qh_base.specs.declared.connection_error.ConnectionError.TheVariants as error
use Rattle.qh_book.specs.Book.{Book, index_of, is_own, is_two_way}
use Rattle.qh_book.specs.Pages.{Reading, RecvPage}
use Rattle.qh_book.specs.declared.interest.Interest.{Interest}

-- ---- streams that wait to be accepted

-- the peer opens it, and it wasn't accepted
abbrev pub is_unaccepted : Book → (id : ℕ) → Bool
is_unaccepted b id = not (is_own b.side id) && nat_le (if is_two_way id then b.bi.accepted else b.uni.accepted) (index_of id)

-- no call was made on the half
pub record IsUntouched (p : RecvPage) : Type 0 where
  pub state : p.state ≡ Reading
  pub gave_error : p.gave_error ≡ false
  pub is_unordered : p.is_unordered ≡ false

-- no handle holds one that wasn't accepted, and no call was made on it
pub record AreUntouched (b : Book) : Type 0 where
  pub unheld : (k : ℕ) → is_unaccepted b k ≡ true → b.readers k ≡ false
  pub page : (k : ℕ) → is_unaccepted b k ≡ true → IfSome (b.recvs k) IsUntouched

-- ---- what stays

-- Who holds what, the handles, the calls that wait, the state's own values, and whether want of memory ended the connection stay. Of a half that had a
-- page its calls alone change whether it is read, in which mode, and whether a read gave an error. A half that gets one had no call, and no stream is
-- accepted.
pub record Keeps (b c : Book) : Type 0 where
  pub readers : c.readers ≡ b.readers
  pub handles : c.handles ≡ b.handles
  pub interests : c.interests ≡ b.interests
  pub stable_id : c.stable_id ≡ b.stable_id
  pub error : c.error ≡ b.error
  pub is_emptied : c.is_emptied ≡ b.is_emptied
  pub page : (k : ℕ) (p : RecvPage) → b.recvs k ≡ Some p → (q : RecvPage) × (c.recvs k ≡ Some q) × (q.state ≡ p.state) × (q.gave_error ≡ p.gave_error) × (q.is_unordered ≡ p.is_unordered)
  pub untouched : AreUntouched b → AreUntouched c

-- The same, but that want of memory ended the connection. All streams that arrived count as accepted then.
pub record KeepsLost (b c : Book) : Type 0 where
  pub readers : c.readers ≡ b.readers
  pub handles : c.handles ≡ b.handles
  pub interests : c.interests ≡ b.interests
  pub stable_id : c.stable_id ≡ b.stable_id
  pub error : c.error ≡ Some error.Memory
  pub page : (k : ℕ) (p : RecvPage) → b.recvs k ≡ Some p → (q : RecvPage) × (c.recvs k ≡ Some q) × (q.state ≡ p.state) × (q.gave_error ≡ p.gave_error) × (q.is_unordered ≡ p.is_unordered)
  pub untouched : AreUntouched b → AreUntouched c

-- ---- before the first call

-- There is one handle, which holds no stream, no call waits, and no error is kept. This is its stable id.
pub record IsUncalled (id : ℕ) (b : Book) : Type 0 where
  pub readers : (k : ℕ) → b.readers k ≡ false
  pub handles : b.handles ≡ 1
  pub interests : (i : Interest) → b.interests i ≡ false
  pub stable_id : b.stable_id ≡ id
  pub error : b.error ≡ None
  pub untouched : AreUntouched b
