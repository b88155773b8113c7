use Rattle.qh_transcript.proofs.SendingArrivals as arrival
use Rattle.qh_transcript.proofs.SendingFrames as frame
use Rattle.qh_transcript.proofs.SendingSteps as step
use Rattle.qh_transcript.proofs.sending.sends_what_was_written.Goals as goal

-- src/sending.rt:16:1
pub returns-clause-fewer : goal.returns-clause-fewer
returns-clause-fewer c = step.fewer

-- src/sending.rt:16:1
pub returns-clause-others : goal.returns-clause-others
returns-clause-others c = step.others

-- src/sending.rt:16:1
pub returns-clause-wrote : goal.returns-clause-wrote
returns-clause-wrote c = step.wrote

-- src/sending.rt:16:1
pub returns-clause-finished : goal.returns-clause-finished
returns-clause-finished c = step.finish

-- src/sending.rt:16:1
pub returns-clause-reset : goal.returns-clause-reset
returns-clause-reset c = step.reset

-- src/sending.rt:16:1
pub returns-clause-priority : goal.returns-clause-priority
returns-clause-priority c = step.prioritized

-- src/sending.rt:16:1
pub returns-clause-opened : goal.returns-clause-opened
returns-clause-opened c = arrival.opened

-- src/sending.rt:16:1
pub returns-clause-received : goal.returns-clause-received
returns-clause-received c = arrival.received

-- src/sending.rt:16:1
pub returns-clause-written : goal.returns-clause-written
returns-clause-written c = λ room old new out t fs bytes w p. frame.all_written room old new out t fs bytes w p

-- src/sending.rt:16:1
pub returns-clause-taken_back : goal.returns-clause-taken_back
returns-clause-taken_back c = frame.taken_back

-- src/sending.rt:16:1
pub returns-clause-again : goal.returns-clause-again
returns-clause-again c = frame.again

-- src/sending.rt:16:1
pub returns-clause-lost : goal.returns-clause-lost
returns-clause-lost c = frame.lost_all

-- src/sending.rt:16:1
pub returns-clause-acked : goal.returns-clause-acked
returns-clause-acked c = frame.acked_all

-- src/sending.rt:16:1
pub returns-clause-kept : goal.returns-clause-kept
returns-clause-kept c = step.kept
