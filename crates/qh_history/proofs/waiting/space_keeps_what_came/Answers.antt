use Rattle.qh_history.proofs.WaitingKept as keeps
use Rattle.qh_history.proofs.waiting.space_keeps_what_came.Goals as goal
use Rattle.qh_transcript.proofs.WaitingFrames.{fresh_keeps}

pub returns-clause-fresh : goal.returns-clause-fresh
returns-clause-fresh c = λ s. fresh_keeps s.streams

pub returns-clause-frame : goal.returns-clause-frame
returns-clause-frame c = keeps.frame

pub returns-clause-lost : goal.returns-clause-lost
returns-clause-lost c = keeps.lost

pub returns-clause-probe : goal.returns-clause-probe
returns-clause-probe c = keeps.probe

pub returns-clause-made : goal.returns-clause-made
returns-clause-made c = keeps.made
