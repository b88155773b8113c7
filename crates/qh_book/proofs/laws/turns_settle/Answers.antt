use Rattle.qh_book.proofs.Turns.{none_left, none_lost, none_made, none_once_lost}
use Rattle.qh_book.proofs.laws.turns_settle.Goals as goal

pub returns-clause-none_left : goal.returns-clause-none_left
returns-clause-none_left g c = λ b after now r items s. none_left b after items r s

pub returns-clause-none_lost : goal.returns-clause-none_lost
returns-clause-none_lost g c = λ b after now r items s. none_lost b after items r s

pub returns-clause-none_made : goal.returns-clause-none_made
returns-clause-none_made g c = λ b after now r items s. none_made b after items r s

pub returns-clause-lost : goal.returns-clause-lost
returns-clause-lost g c = λ b after now r items s. none_once_lost b after items r s
