use Rattle.std.proofs.Common.{◌++◌, append_assoc}
use Rattle.qh_accounts.proofs.CarriedOf as of
use Rattle.qh_accounts.proofs.CarriedBack as carried
use Rattle.qh_accounts.proofs.CarriedCalls as call
use Rattle.qh_accounts.proofs.CarriedFrames as frame
use Rattle.qh_accounts.proofs.CarriedTold as told
use Rattle.qh_accounts.proofs.laws.carried.Goals as goal

pub returns-clause-any_order : goal.returns-clause-any_order
returns-clause-any_order c = λ s fs others there back a. carried.from_unqueued (of.same_frames carried.is_unqueued there back (carried.by_unqueued a))

pub returns-clause-handed : goal.returns-clause-handed
returns-clause-handed c = λ old new room f fs handed a. carried.from_unqueued (frame.handed_by carried.is_unqueued carried.unqueued_is_test old new room f fs handed (carried.by_unqueued a))

pub returns-clause-sending : goal.returns-clause-sending
returns-clause-sending c = λ old new id fs step a. carried.from_unqueued (of.no_more carried.is_unqueued (call.sending_no_more carried.is_unqueued old.send new.send id step) (carried.by_unqueued a))

pub returns-clause-handed_all : goal.returns-clause-handed_all
returns-clause-handed_all c = λ old new more fs handed a. carried.from_unqueued (frame.handed_all_by carried.is_unqueued carried.unqueued_is_test old new more fs handed (carried.by_unqueued a))

pub returns-clause-written : goal.returns-clause-written
returns-clause-written c = λ room old new more fs bytes written a. carried.from_unqueued (frame.written_all_by carried.is_unqueued carried.unqueued_is_test room old new more fs bytes written (carried.by_unqueued a))

pub returns-clause-lost : goal.returns-clause-lost
returns-clause-lost c = λ old new f fs lost a. carried.from_unqueued (of.no_more carried.is_unqueued (frame.lost_no_more carried.is_unqueued carried.unqueued_is_test.again old new f lost) (carried.by_unqueued a))

pub returns-clause-lost_all : goal.returns-clause-lost_all
returns-clause-lost_all c = λ old new lost fs p a. carried.from_unqueued (of.no_more carried.is_unqueued (frame.lost_all_no_more carried.is_unqueued carried.unqueued_is_test.again old new lost p) (carried.by_unqueued a))

pub returns-clause-opened : goal.returns-clause-opened
returns-clause-opened c = λ old new id fs p a. carried.from_unqueued (of.no_more carried.is_unqueued (call.opened_no_more carried.is_unqueued carried.unqueued_is_test old new _ p.halves) (carried.by_unqueued a))

pub returns-clause-received : goal.returns-clause-received
returns-clause-received c = λ old new f fs p a. carried.from_unqueued (of.no_more carried.is_unqueued (call.received_no_more carried.is_unqueued carried.unqueued_is_test old new f p) (carried.by_unqueued a))

pub returns-clause-written_by : goal.returns-clause-written_by
returns-clause-written_by c = λ room old new bytes_old bytes_new sent_old sent_new fs p a.
    let all = frame.written_all_by carried.is_unqueued carried.unqueued_is_test room old new p.frames (fs ++ sent_old) p.bytes p.written (carried.by_unqueued a) in
    carried.from_unqueued (rw p.sent_is (rw (append_assoc fs sent_old p.frames) at all))

pub returns-clause-before : goal.returns-clause-before
returns-clause-before c = λ s fs id n a. told.carried_before fs id n a.front

pub returns-clause-sent : goal.returns-clause-sent
returns-clause-sent c = carried.sent_stands

pub returns-clause-taken_back : goal.returns-clause-taken_back
returns-clause-taken_back c = λ old new fs back a. carried.from_unqueued (of.no_more carried.is_unqueued (carried.taken_back_no_more old new back) (carried.by_unqueued a))

pub returns-clause-acked : goal.returns-clause-acked
returns-clause-acked c = λ old new acked fs among p a. carried.from_unqueued (told.acked_among carried.is_unqueued old new acked fs among p (carried.by_unqueued a))
