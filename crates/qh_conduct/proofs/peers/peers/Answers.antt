use Rattle.qh_conduct.proofs.PeersDatagrams.{linked_on, stays_open}
use Rattle.qh_conduct.proofs.PeersOn.{linked_back, linked_more, same_peers, turned}
use Rattle.qh_conduct.proofs.peers.peers.Goals as goal

pub returns-clause-open : goal.returns-clause-open
returns-clause-open g c = stays_open

pub returns-clause-turned : goal.returns-clause-turned
returns-clause-turned g c = turned

pub returns-clause-same : goal.returns-clause-same
returns-clause-same g c = same_peers

pub returns-clause-back : goal.returns-clause-back
returns-clause-back g c = linked_back

pub returns-clause-given : goal.returns-clause-given
returns-clause-given g c tc tp d linked there = linked_on tc tp d linked there

pub returns-clause-more : goal.returns-clause-more
returns-clause-more g c = linked_more
