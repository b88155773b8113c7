use Rattle.qh_book.proofs.ShownOpens.{accept_lost, accept_stepped, accept_waits, open_stepped, open_waits}
use Rattle.qh_book.proofs.shown.opens_shown.Goals as goal

pub returns-clause-opened : goal.returns-clause-opened
returns-clause-opened g c = λ old new notes b. open_stepped g.row.T.Denot old new b

pub returns-clause-accepted : goal.returns-clause-accepted
returns-clause-accepted g c = λ old new notes b. accept_stepped g.row.T.Denot old new b

pub returns-clause-open_waits : goal.returns-clause-open_waits
returns-clause-open_waits g c = λ s notes b. open_waits g.row.T.Denot s b

pub returns-clause-accept_waits : goal.returns-clause-accept_waits
returns-clause-accept_waits g c = λ s notes b. accept_waits g.row.T.Denot s b

pub returns-clause-accept_lost : goal.returns-clause-accept_lost
returns-clause-accept_lost g c = λ s notes b. accept_lost g.row.T.Denot s b
