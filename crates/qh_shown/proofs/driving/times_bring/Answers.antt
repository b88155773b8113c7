use Rattle.qh_shown.proofs.Calls.{endpoint_brings, timed_brings, told_tells}
use Rattle.qh_shown.proofs.driving.times_bring.Goals as goal

pub returns-clause-timed : goal.returns-clause-timed
returns-clause-timed g c = λ now old new was timed. timed_brings c.books_show.ensures now old new timed

pub returns-clause-told : goal.returns-clause-told
returns-clause-told g c = λ told old new is. told_tells c.books_show.ensures told old new is

pub returns-clause-endpoint : goal.returns-clause-endpoint
returns-clause-endpoint g c = λ told old new is. endpoint_brings c.books_show.ensures told old new is
