use Rattle.qh_shown.proofs.Calls.{sent_brings, still_brings}
use Rattle.qh_shown.proofs.driving.sends_bring.Goals as goal

pub returns-clause-sent : goal.returns-clause-sent
returns-clause-sent g c = λ sealed now old new before after transmit was sent. sent_brings c.books_show.ensures sealed now old new before after transmit was sent

pub returns-clause-silent : goal.returns-clause-silent
returns-clause-silent g c = still_brings c.books_show.ensures
