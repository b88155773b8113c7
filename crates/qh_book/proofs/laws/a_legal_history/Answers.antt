use Rattle.std.proofs.Common.{refl}
use Rattle.qh_book.proofs.RowLaws.{resets_legal, row_legal, unknown_legal}
use Rattle.qh_book.proofs.laws.a_legal_history.Goals as goal

pub returns-clause-closed : goal.returns-clause-closed
returns-clause-closed g c = λ addresses. (row_legal g.row.T.Denot addresses, λ i. refl, refl)

pub returns-clause-resets : goal.returns-clause-resets
returns-clause-resets g c = λ addresses. resets_legal g.row.T.Denot addresses

pub returns-clause-unknown : goal.returns-clause-unknown
returns-clause-unknown g c = λ addresses. unknown_legal g.row.T.Denot addresses
