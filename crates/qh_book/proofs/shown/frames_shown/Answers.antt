use Rattle.qh_book.proofs.ShownMarks.{frame_acked, frame_handed, frame_lost}
use Rattle.qh_book.proofs.ShownTaken.{received}
use Rattle.qh_book.proofs.shown.frames_shown.Goals as goal

pub returns-clause-received : goal.returns-clause-received
returns-clause-received c = λ old new notes b. received old new b

pub returns-clause-acked : goal.returns-clause-acked
returns-clause-acked c = λ old new notes b. frame_acked old new b

pub returns-clause-sent : goal.returns-clause-sent
returns-clause-sent c = λ old new notes b. frame_handed old new b

pub returns-clause-lost : goal.returns-clause-lost
returns-clause-lost c = λ old new notes b. frame_lost old new b
