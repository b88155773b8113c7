-- What is replied to calls that close a connection, ask why it is lost, and count handles.
use Rattle.std.specs.Prelude.{◌≡◌, ◌+◌, true, Some, None}
use Rattle.qh_book.specs.Book.{Book, with_close, without_handle}
use Rattle.qh_book.specs.Interests.{waits}
use Rattle.qh_book.specs.declared.interest.Interest.TheVariants as waiting
use Rattle.qh_book.specs.declared.reply.Reply.{Reply}
use Rattle.qh_book.specs.declared.reply.Reply.TheVariants as reply

abbrev pub TellsCloseReason : {T : Type 0} → Book → Reply T → Book → Type 0
TellsCloseReason b (reply.ConnectionLost e) c = (b.error ≡ Some e) × (c ≡ b)
TellsCloseReason b reply.Done c = (b.error ≡ None) × (c ≡ b)
TellsCloseReason b r c = ⊥

abbrev pub IsLost : {T : Type 0} → Book → Reply T → Book → Type 0
IsLost b (reply.ConnectionLost e) c = (b.error ≡ Some e) × (c ≡ b)
IsLost b reply.Pending c = (waits b waiting.Closed ≡ true) × (c ≡ b)
IsLost b r c = ⊥

abbrev pub Closes : {T : Type 0} → Book → Reply T → Book → Type 0
Closes b reply.Done c = c ≡ with_close b
Closes b r c = ⊥

abbrev pub ClonesHandle : {T : Type 0} → Book → Reply T → Book → Type 0
ClonesHandle b reply.Done c = c ≡ record b { handles = b.handles + 1 }
ClonesHandle b r c = ⊥

abbrev pub EndsHandle : {T : Type 0} → Book → Reply T → Book → Type 0
EndsHandle b reply.Done c = c ≡ without_handle b
EndsHandle b r c = ⊥
