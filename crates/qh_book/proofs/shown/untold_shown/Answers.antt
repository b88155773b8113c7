use Rattle.qh_book.proofs.ShownConfirmed.{closed_shown}
use Rattle.qh_book.proofs.ShownTaken.{shown_told}
use Rattle.qh_book.proofs.shown.untold_shown.Goals as goal

pub returns-clause-told : goal.returns-clause-told
returns-clause-told c = λ s notes b. shown_told s b

pub returns-clause-closed : goal.returns-clause-closed
returns-clause-closed c = λ s notes b. closed_shown s b
