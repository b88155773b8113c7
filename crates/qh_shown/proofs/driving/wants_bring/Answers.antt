use Rattle.std.proofs.Common.{[]}
use Rattle.qh_shown.proofs.Begins.{handshake_brings}
use Rattle.qh_shown.proofs.Steps.{brings_by}
use Rattle.qh_shown.proofs.Wants.{event_ends, timed_ends, unsent_ends}
use Rattle.qh_shown.proofs.driving.wants_bring.Goals as goal

pub returns-clause-event : goal.returns-clause-event
returns-clause-event g c = event_ends c.books_show.ensures

pub returns-clause-timed : goal.returns-clause-timed
returns-clause-timed g c = timed_ends c.books_show.ensures

pub returns-clause-unsent : goal.returns-clause-unsent
returns-clause-unsent g c = unsent_ends c.books_show.ensures

pub returns-clause-closing : goal.returns-clause-closing
returns-clause-closing g c = λ old new is peer. brings_by [] old new _ is (handshake_brings c.books_show.ensures old new.handshake peer)
