use Rattle.qh_book.proofs.ShownStops.{lost_stepped, reset_stopped, stop_stepped, told_stepped, untold_stepped}
use Rattle.qh_book.proofs.shown.stops_shown.Goals as goal

pub returns-clause-stopped : goal.returns-clause-stopped
returns-clause-stopped g c = λ old new notes b id live shown held new_is. stop_stepped g.row.T.Denot old new b id live shown held new_is

pub returns-clause-told : goal.returns-clause-told
returns-clause-told g c = λ old new notes b id live shown held new_is. told_stepped g.row.T.Denot old new b id live shown held new_is

pub returns-clause-untold : goal.returns-clause-untold
returns-clause-untold g c = λ old new notes b id live shown held new_is. untold_stepped g.row.T.Denot old new b id live shown held new_is

pub returns-clause-lost : goal.returns-clause-lost
returns-clause-lost g c = λ old new notes b id live shown held new_is. lost_stepped g.row.T.Denot old new b id live shown held new_is

pub returns-clause-reset : goal.returns-clause-reset
returns-clause-reset g c = λ old new notes b id live shown held new_is. reset_stopped g.row.T.Denot old new b id live shown held new_is
