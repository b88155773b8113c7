use Rattle.qh_shown.proofs.Calls.{closed_brings, faulted_brings}
use Rattle.qh_shown.proofs.driving.closes_shown.Goals as goal

pub returns-clause-called : goal.returns-clause-called
returns-clause-called g c = closed_brings c.books_show.ensures

pub returns-clause-faulted : goal.returns-clause-faulted
returns-clause-faulted g c = faulted_brings c.books_show.ensures
