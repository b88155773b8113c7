use Rattle.qh_book.proofs.ShownRefusals.{finish_refused, half_page, no_half, reset_refused, write_refused}
use Rattle.qh_book.proofs.ShownStops.{read_is_closed, stop_refused}
use Rattle.qh_book.proofs.shown.refusals_shown.Goals as goal

pub returns-clause-write : goal.returns-clause-write
returns-clause-write g c = λ s notes b id. write_refused g.row.T.Denot s b id

pub returns-clause-finish : goal.returns-clause-finish
returns-clause-finish g c = λ s notes b id. finish_refused g.row.T.Denot s b id

pub returns-clause-reset : goal.returns-clause-reset
returns-clause-reset g c = λ s notes b id. reset_refused g.row.T.Denot s b id

pub returns-clause-stop : goal.returns-clause-stop
returns-clause-stop g c = λ s notes b id. stop_refused g.row.T.Denot s b id

pub returns-clause-read : goal.returns-clause-read
returns-clause-read g c = λ s notes b id. read_is_closed s b id

pub returns-clause-no_half : goal.returns-clause-no_half
returns-clause-no_half g c = λ s notes b id. no_half s b id

pub returns-clause-half : goal.returns-clause-half
returns-clause-half g c = λ s notes b id. half_page s b id
