use Rattle.qh_handshake.proofs.GoingOn.{both_go, close_goes, close_unsent_goes, discarded_goes, dropped_goes, lost_goes, made_goes, same_goes, taken_goes, timed_out_goes, unsent_goes}
use Rattle.qh_handshake.proofs.going.goes_on.Goals as goal

pub returns-clause-same : goal.returns-clause-same
returns-clause-same c = same_goes

pub returns-clause-both : goal.returns-clause-both
returns-clause-both c = both_go

pub returns-clause-taken : goal.returns-clause-taken
returns-clause-taken c = taken_goes

pub returns-clause-lost : goal.returns-clause-lost
returns-clause-lost c = lost_goes

pub returns-clause-made : goal.returns-clause-made
returns-clause-made c = made_goes

pub returns-clause-closed : goal.returns-clause-closed
returns-clause-closed c = close_goes

pub returns-clause-unsent : goal.returns-clause-unsent
returns-clause-unsent c = unsent_goes

pub returns-clause-close_unsent : goal.returns-clause-close_unsent
returns-clause-close_unsent c = close_unsent_goes

pub returns-clause-timed_out : goal.returns-clause-timed_out
returns-clause-timed_out c = timed_out_goes

pub returns-clause-discarded : goal.returns-clause-discarded
returns-clause-discarded c = discarded_goes

pub returns-clause-dropped : goal.returns-clause-dropped
returns-clause-dropped c = dropped_goes
