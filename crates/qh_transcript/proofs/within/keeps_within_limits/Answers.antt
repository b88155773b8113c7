use Rattle.qh_transcript.proofs.WithinArrivals as arrival
use Rattle.qh_transcript.proofs.WithinFrames as frame
use Rattle.qh_transcript.proofs.WithinKept as kept
use Rattle.qh_transcript.proofs.WithinReceived as coming
use Rattle.qh_transcript.proofs.WithinStart as start
use Rattle.qh_transcript.proofs.WithinSteps as step
use Rattle.qh_transcript.proofs.within.keeps_within_limits.Goals as goal

-- src/within.rt:17:1
pub returns-clause-wrote : goal.returns-clause-wrote
returns-clause-wrote c = step.wrote

-- src/within.rt:17:1
pub returns-clause-others : goal.returns-clause-others
returns-clause-others c = kept.others

-- src/within.rt:17:1
pub returns-clause-finished : goal.returns-clause-finished
returns-clause-finished c = step.finish

-- src/within.rt:17:1
pub returns-clause-reset : goal.returns-clause-reset
returns-clause-reset c = step.reset

-- src/within.rt:17:1
pub returns-clause-priority : goal.returns-clause-priority
returns-clause-priority c = step.prioritized

-- src/within.rt:17:1
pub returns-clause-written : goal.returns-clause-written
returns-clause-written c = λ room old new frames t sent bytes w p. frame.all_written room old new frames t sent bytes w p

-- src/within.rt:17:1
pub returns-clause-taken_back : goal.returns-clause-taken_back
returns-clause-taken_back c = frame.taken_back

-- src/within.rt:17:1
pub returns-clause-again : goal.returns-clause-again
returns-clause-again c = frame.again

-- src/within.rt:17:1
pub returns-clause-lost : goal.returns-clause-lost
returns-clause-lost c = frame.lost_all

-- src/within.rt:17:1
pub returns-clause-acked : goal.returns-clause-acked
returns-clause-acked c = frame.acked_all

-- src/within.rt:17:1
pub returns-clause-kept : goal.returns-clause-kept
returns-clause-kept c = λ old new frames t send side peer counts p. kept.kept old new frames t (record { side = side; peer = peer; opened = λ b. (counts b).0; max_opened = λ b. (counts b).1 }) send p

-- src/within.rt:17:1
pub returns-clause-opened : goal.returns-clause-opened
returns-clause-opened c = arrival.opened

-- src/within.rt:17:1
pub returns-clause-received : goal.returns-clause-received
returns-clause-received c = coming.received

-- src/within.rt:17:1
pub returns-clause-fresh : goal.returns-clause-fresh
returns-clause-fresh c = start.fresh

-- src/within.rt:17:1
pub returns-clause-peer : goal.returns-clause-peer
returns-clause-peer c = start.with_first
