use Rattle.qh_conduct.proofs.BehavingCalls as law
use Rattle.qh_conduct.proofs.BehavingEnds as ends
use Rattle.qh_conduct.proofs.behaving.behaves.Goals as goal

pub returns-clause-fresh : goal.returns-clause-fresh
returns-clause-fresh g c = ends.fresh_behaves

pub returns-clause-event : goal.returns-clause-event
returns-clause-event g c = ends.event_behaves

pub returns-clause-failed_event : goal.returns-clause-failed_event
returns-clause-failed_event g c = ends.failed_event

pub returns-clause-transmit : goal.returns-clause-transmit
returns-clause-transmit g c sealed tags now old new before after transmit t made back same follows b =
    ends.made_behaves sealed tags now old new before after transmit t made back follows (c.fills.ensures.made sealed tags now old new before after transmit t made back b.filled) b

pub returns-clause-none : goal.returns-clause-none
returns-clause-none g c = ends.none_behaves

pub returns-clause-failed : goal.returns-clause-failed
returns-clause-failed g c = ends.failed_behaves

pub returns-clause-closed : goal.returns-clause-closed
returns-clause-closed g c = ends.closed_behaves

pub returns-clause-timeout : goal.returns-clause-timeout
returns-clause-timeout g c = ends.timed_behaves

pub returns-clause-polled : goal.returns-clause-polled
returns-clause-polled g c = ends.polled_behaves

pub returns-clause-drained : goal.returns-clause-drained
returns-clause-drained g c = ends.drained_behaves

pub returns-clause-turned : goal.returns-clause-turned
returns-clause-turned g c = ends.turned_behaves

pub returns-clause-called : goal.returns-clause-called
returns-clause-called g c = law.called_behaves

pub returns-clause-opened : goal.returns-clause-opened
returns-clause-opened g c = law.opened_behaves

pub returns-clause-accepted : goal.returns-clause-accepted
returns-clause-accepted g c = law.accepted_behaves

pub returns-clause-wrote : goal.returns-clause-wrote
returns-clause-wrote g c = law.wrote_behaves

pub returns-clause-unwritten : goal.returns-clause-unwritten
returns-clause-unwritten g c = law.unwritten_behaves

pub returns-clause-finished : goal.returns-clause-finished
returns-clause-finished g c = law.finished_behaves

pub returns-clause-reset : goal.returns-clause-reset
returns-clause-reset g c = law.reset_behaves

pub returns-clause-read : goal.returns-clause-read
returns-clause-read g c = law.read_behaves

pub returns-clause-open : goal.returns-clause-open
returns-clause-open g c accepts named x p new tc tp now remote datagram peers linked b bp is up none there taken =
    c.peers.ensures.open accepts named x p new tc tp now remote datagram peers linked bp.follows b.reached bp.reached b.announced bp.announced b.granted bp.sized bp.filled is up none there taken
