use Rattle.qh_book.proofs.ShownWrites.{finish_stepped, priority_stepped, reset_stepped, write_stepped}
use Rattle.qh_book.proofs.shown.writes_shown.Goals as goal

pub returns-clause-written : goal.returns-clause-written
returns-clause-written g c = λ old new notes b id. write_stepped old new b id

pub returns-clause-finished : goal.returns-clause-finished
returns-clause-finished g c = λ old new notes b id. finish_stepped old new b id

pub returns-clause-reset : goal.returns-clause-reset
returns-clause-reset g c = λ old new notes b id. reset_stepped old new b id

pub returns-clause-priority : goal.returns-clause-priority
returns-clause-priority g c = λ old new notes b id. priority_stepped old new b id
