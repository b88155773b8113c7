use Rattle.qh_book.proofs.ShownEnds.{ends_by_finish, ends_by_nothing, ends_by_reset, ends_by_stop, ends_lost, ends_unstopped}
use Rattle.qh_book.proofs.shown.ends_shown.Goals as goal

pub returns-clause-finish : goal.returns-clause-finish
returns-clause-finish g c = ends_by_finish g.row.T.Denot

pub returns-clause-reset : goal.returns-clause-reset
returns-clause-reset g c = ends_by_reset g.row.T.Denot

pub returns-clause-nothing : goal.returns-clause-nothing
returns-clause-nothing g c = ends_by_nothing

pub returns-clause-stop : goal.returns-clause-stop
returns-clause-stop g c = ends_by_stop g.row.T.Denot

pub returns-clause-stays : goal.returns-clause-stays
returns-clause-stays g c = ends_unstopped

pub returns-clause-lost : goal.returns-clause-lost
returns-clause-lost g c = ends_lost
