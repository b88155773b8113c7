use Rattle.qh_book.proofs.ShownTells.{priority_gone, priority_told, set_priority_gone, stop_gone, stop_lost, stop_told, stop_waits}
use Rattle.qh_book.proofs.shown.sends_told_shown.Goals as goal

pub returns-clause-stop : goal.returns-clause-stop
returns-clause-stop g c = λ s notes b id shown. stop_told g.row.T.Denot s b id shown

pub returns-clause-stop_waits : goal.returns-clause-stop_waits
returns-clause-stop_waits g c = λ s notes b id shown. stop_waits g.row.T.Denot s b id shown

pub returns-clause-stop_lost : goal.returns-clause-stop_lost
returns-clause-stop_lost g c = λ s notes b id shown h there e. stop_lost g.row.T.Denot s b id shown h there e

pub returns-clause-stop_gone : goal.returns-clause-stop_gone
returns-clause-stop_gone g c = λ s notes b id shown. stop_gone g.row.T.Denot s b id shown

pub returns-clause-priority : goal.returns-clause-priority
returns-clause-priority g c = λ s notes b id shown. priority_told g.row.T.Denot s b id shown

pub returns-clause-priority_gone : goal.returns-clause-priority_gone
returns-clause-priority_gone g c = λ s notes b id shown. priority_gone g.row.T.Denot s b id shown

pub returns-clause-set_gone : goal.returns-clause-set_gone
returns-clause-set_gone g c = λ s notes b id shown. set_priority_gone g.row.T.Denot s b id shown
