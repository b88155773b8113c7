use Rattle.qh_handshake.proofs.FollowsIn.{lost_follows, taken_follows}
use Rattle.qh_handshake.proofs.FollowsOn.{borne_fresh, close_unsent_follows, discarded_follows, dropped_follows, fresh_follows, origin_fresh, timed_out_follows, unsent_follows}
use Rattle.qh_handshake.proofs.FollowsOut.{close_follows, made_follows}
use Rattle.qh_handshake.proofs.following.follows.Goals as goal

pub returns-clause-fresh : goal.returns-clause-fresh
returns-clause-fresh c = fresh_follows

pub returns-clause-origin : goal.returns-clause-origin
returns-clause-origin c = origin_fresh

pub returns-clause-borne : goal.returns-clause-borne
returns-clause-borne c = borne_fresh

pub returns-clause-timed_out : goal.returns-clause-timed_out
returns-clause-timed_out c = timed_out_follows

pub returns-clause-discarded : goal.returns-clause-discarded
returns-clause-discarded c = discarded_follows

pub returns-clause-made : goal.returns-clause-made
returns-clause-made c = made_follows

pub returns-clause-closed : goal.returns-clause-closed
returns-clause-closed c = close_follows

pub returns-clause-taken : goal.returns-clause-taken
returns-clause-taken c = taken_follows

pub returns-clause-lost : goal.returns-clause-lost
returns-clause-lost c = lost_follows

pub returns-clause-unsent : goal.returns-clause-unsent
returns-clause-unsent c = unsent_follows

pub returns-clause-close_unsent : goal.returns-clause-close_unsent
returns-clause-close_unsent c = close_unsent_follows

pub returns-clause-dropped : goal.returns-clause-dropped
returns-clause-dropped c = dropped_follows
