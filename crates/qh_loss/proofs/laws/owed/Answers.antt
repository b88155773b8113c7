use Rattle.qh_loss.proofs.FramesOut.{fresh_owed, sent_owed}
use Rattle.qh_loss.proofs.laws.owed.Goals as goal

pub returns-clause-fresh : goal.returns-clause-fresh
returns-clause-fresh c = fresh_owed

pub returns-clause-sent : goal.returns-clause-sent
returns-clause-sent c = sent_owed
