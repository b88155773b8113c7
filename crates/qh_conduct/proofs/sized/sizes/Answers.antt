use Rattle.qh_conduct.proofs.SizedCalls as law
use Rattle.qh_conduct.proofs.sized.sizes.Goals as goal

pub returns-clause-fresh : goal.returns-clause-fresh
returns-clause-fresh g c = law.fresh_sized

pub returns-clause-came : goal.returns-clause-came
returns-clause-came g c = law.came_sized

pub returns-clause-event : goal.returns-clause-event
returns-clause-event g c = law.event_sized

pub returns-clause-failed : goal.returns-clause-failed
returns-clause-failed g c = law.failed_sized

pub returns-clause-transmit : goal.returns-clause-transmit
returns-clause-transmit g c = law.made_sized

pub returns-clause-none : goal.returns-clause-none
returns-clause-none g c = law.none_sized

pub returns-clause-timeout : goal.returns-clause-timeout
returns-clause-timeout g c = law.timed_sized

pub returns-clause-called : goal.returns-clause-called
returns-clause-called g c = law.called_sized

pub returns-clause-polled : goal.returns-clause-polled
returns-clause-polled g c = law.polled_sized

pub returns-clause-drained : goal.returns-clause-drained
returns-clause-drained g c = law.drained_sized

pub returns-clause-means : goal.returns-clause-means
returns-clause-means g c = law.means_sized

pub returns-clause-since : goal.returns-clause-since
returns-clause-since g c = law.since_sized
