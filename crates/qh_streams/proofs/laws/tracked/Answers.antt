use Rattle.qh_streams.proofs.StreamsTracked as lemma
use Rattle.qh_streams.proofs.StreamsTrackedSteps as step
use Rattle.qh_streams.proofs.StreamsTrackedSettled as settled
use Rattle.qh_streams.proofs.StreamsTrackedCalls as call
use Rattle.qh_streams.proofs.StreamsTrackedLists as list
use Rattle.qh_streams.proofs.laws.tracked.Goals as goal

pub returns-clause-written : goal.returns-clause-written
returns-clause-written c = λ old new room f fs handed t. lemma.adds_tracked (step.written_adds old new room f handed) t

pub returns-clause-lost : goal.returns-clause-lost
returns-clause-lost c = λ old new f fs lost t. lemma.drops_tracked (settled.lost_drops old new f lost) t

pub returns-clause-again : goal.returns-clause-again
returns-clause-again c = λ old new f fs lost t. lemma.drops_again (settled.lost_drops old new f lost) t

pub returns-clause-acked : goal.returns-clause-acked
returns-clause-acked c = λ old new f fs acked t. lemma.drops_tracked (settled.acked_drops old new f acked) t

pub returns-clause-any_order : goal.returns-clause-any_order
returns-clause-any_order c = λ s fs others among t. lemma.any_order among t

pub returns-clause-fresh : goal.returns-clause-fresh
returns-clause-fresh c = call.fresh_tracked

pub returns-clause-sending : goal.returns-clause-sending
returns-clause-sending c = λ old new id fs step recv_is counts t. lemma.keeps_tracked (call.sending_keeps old new id step recv_is counts) t

pub returns-clause-receiving : goal.returns-clause-receiving
returns-clause-receiving c = λ old new id fs step send_is counts t. lemma.keeps_tracked (call.receiving_keeps old new id step send_is counts) t

pub returns-clause-closed : goal.returns-clause-closed
returns-clause-closed c = step.closed_counts

pub returns-clause-others : goal.returns-clause-others
returns-clause-others c = λ old new fs send_is recv_is limit_is counts t. lemma.keeps_tracked (call.others_keep old new send_is recv_is limit_is counts) t

pub returns-clause-opened : goal.returns-clause-opened
returns-clause-opened c = λ old new id fs p t. lemma.keeps_tracked (call.opened_keeps old new id p) t

pub returns-clause-arrived : goal.returns-clause-arrived
returns-clause-arrived c = λ old new id fs p t. lemma.keeps_tracked (call.arrived_keeps old new id p) t

pub returns-clause-received : goal.returns-clause-received
returns-clause-received c = λ old new f fs p t. lemma.keeps_tracked (call.received_keeps old new f p) t

pub returns-clause-written_by : goal.returns-clause-written_by
returns-clause-written_by c = list.written_by

pub returns-clause-lost_all : goal.returns-clause-lost_all
returns-clause-lost_all c = list.lost_all

pub returns-clause-acked_all : goal.returns-clause-acked_all
returns-clause-acked_all c = list.acked_all

pub returns-clause-taken_back : goal.returns-clause-taken_back
returns-clause-taken_back c = λ old new fs back t. list.taken_back old new fs back t
