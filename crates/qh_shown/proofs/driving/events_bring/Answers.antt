use Rattle.qh_shown.proofs.Calls.{event_brings, nothing}
use Rattle.qh_shown.proofs.Steps.{some_brings}
use Rattle.qh_shown.proofs.driving.events_bring.Goals as goal

pub returns-clause-none : goal.returns-clause-none
returns-clause-none g c = nothing c.books_show.ensures

pub returns-clause-both : goal.returns-clause-both
returns-clause-both g c = some_brings

pub returns-clause-event : goal.returns-clause-event
returns-clause-event g c = λ v event old new was is logging handled. event_brings c.books_show.ensures v event old new was logging handled
