-- What is promised of every book.
use Rattle.std.specs.Prelude.{◌≡◌, List, Some, None, true, false}
use Rattle.qh_base.specs.declared.connection_error.ConnectionError.TheVariants.{LocallyClosed}
use Rattle.qh_book.specs.Book.{Book}
use Rattle.qh_book.specs.Interests.{interest_of}
use Rattle.qh_book.specs.Step.{Steps, StepsWith}
use Rattle.qh_book.specs.declared.call.Call.{Call}
use Rattle.qh_book.specs.declared.interest.Interest.{Interest}
use Rattle.qh_book.specs.declared.interest.Interest.TheVariants as waiting
use Rattle.qh_book.specs.declared.item.Item.{Item}
use Rattle.qh_book.specs.declared.reply.Reply.{Reply}
use Rattle.qh_book.specs.declared.reply.Reply.TheVariants as reply

-- the call has an allowed reply
pub record HasReply (T : Type 0) (b : Book) (c : Call) : Type 0 where
  pub reply : Reply T
  pub items : List Item
  pub after : Book
  pub steps : StepsWith b c reply items after

-- no call with this interest has another reply than Pending
abbrev pub WaitsStill : (T : Type 0) → Book → Interest → Type 0
WaitsStill T b i = (c : Call) → interest_of c ≡ Some i → (r : Reply T) (after : Book) → Steps b c r after → r ≡ reply.Pending

-- that of HandshakeData stays until the handshake is complete or an error is kept
abbrev pub MayStay : (T : Type 0) → Book → Interest → Type 0
MayStay T b waiting.HandshakeData = (b.is_connected ≡ false) × (b.error ≡ None)
MayStay T b other = WaitsStill T b other

-- it was closed by this end, and no call waits
abbrev pub IsClosed : Book → Type 0
IsClosed b = ((i : Interest) → b.interests i ≡ false) × (b.error ≡ Some LocallyClosed)

-- the call's interest is registered
pub record IsRegistered (c : Call) (b : Book) : Type 0 where
  pub interest : Interest
  pub is_its : interest_of c ≡ Some interest
  pub stands : b.interests interest ≡ true
