-- Histories of a connection, and which are legal.
use Rattle.std.specs.Prelude.{◌≡◌, List, [], ◌∷◌}
use Rattle.qh_book.specs.Book.{Book}
use Rattle.qh_book.specs.Step.{StepsWith}
use Rattle.qh_book.specs.declared.call.Call.{Call}
use Rattle.qh_book.specs.declared.item.Item.{Item}
use Rattle.qh_book.specs.declared.reply.Reply.{Reply}

-- a call with its reply, and with what a turn of the driver brought
pub record PlainEntry (T : Type 0) : Type 0 where
  pub call : Call
  pub reply : Reply T
  pub items : List Item

-- the entry's reply is allowed, and this is the next book
abbrev pub IsStep : {T : Type 0} → Book → PlainEntry T → Book → Type 0
IsStep b e c = StepsWith b e.call e.reply e.items c

-- the entries step the book one after another, and this is the last one
abbrev pub Replays : {T : Type 0} → Book → List (PlainEntry T) → Book → Type 0
Replays b [] c = c ≡ b
Replays b (e ∷ es) c = (mid : Book) × IsStep b e mid × Replays mid es c

-- no entry is left without a book
pub record IsLegal {T : Type 0} (first : Book) (history : List (PlainEntry T)) : Type 0 where
  pub last : Book
  pub replays : Replays first history last
