use Rattle.qh_conduct.proofs.ReachConnections.{came_among}
use Rattle.qh_conduct.proofs.ReachSums as law
use Rattle.qh_conduct.proofs.fitting.frames_fit.Goals as goal

pub returns-clause-among : goal.returns-clause-among
returns-clause-among c = came_among

pub returns-clause-sum : goal.returns-clause-sum
returns-clause-sum c = law.sum_within

pub returns-clause-half : goal.returns-clause-half
returns-clause-half c = law.half_came

pub returns-clause-size : goal.returns-clause-size
returns-clause-size c = law.size_came

pub returns-clause-received : goal.returns-clause-received
returns-clause-received c = law.received_within

pub returns-clause-unrefused : goal.returns-clause-unrefused
returns-clause-unrefused c = law.frame_unrefused
