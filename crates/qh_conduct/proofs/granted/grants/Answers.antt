use Rattle.qh_conduct.proofs.GrantedCalls as law
use Rattle.qh_conduct.proofs.granted.grants.Goals as goal

pub returns-clause-fresh : goal.returns-clause-fresh
returns-clause-fresh g c = law.fresh_granted

pub returns-clause-event : goal.returns-clause-event
returns-clause-event g c = law.event_granted

pub returns-clause-failed : goal.returns-clause-failed
returns-clause-failed g c = law.failed_granted

pub returns-clause-transmit : goal.returns-clause-transmit
returns-clause-transmit g c = law.made_granted

pub returns-clause-none : goal.returns-clause-none
returns-clause-none g c = law.none_granted

pub returns-clause-timeout : goal.returns-clause-timeout
returns-clause-timeout g c = law.timed_granted

pub returns-clause-called : goal.returns-clause-called
returns-clause-called g c = law.called

pub returns-clause-polled : goal.returns-clause-polled
returns-clause-polled g c = law.polled_granted

pub returns-clause-drained : goal.returns-clause-drained
returns-clause-drained g c = law.drained_granted

pub returns-clause-means : goal.returns-clause-means
returns-clause-means g c = law.means_granted

pub returns-clause-takes : goal.returns-clause-takes
returns-clause-takes g c = law.takes_granted

pub returns-clause-half : goal.returns-clause-half
returns-clause-half g c inner id half p is = law.half_granted inner.config.limits inner.space.streams id half p is

pub returns-clause-first : goal.returns-clause-first
returns-clause-first g c = law.first_of_peer
