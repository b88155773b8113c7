use Rattle.qh_accounts.proofs.AccountedArrivals.{opened_accounted}
use Rattle.qh_accounts.proofs.AccountedLike.{all_closed, not_all_closed}
use Rattle.qh_accounts.proofs.AccountedCalls.{accept_accounted, begun_accounted, blocked_accounted, chunk_accounted, concurrent_accounted, peer_accounted, polled_accounted, read_accounted, receive_window_accounted, receiving_accounted, send_window_accounted, sending_accounted}
use Rattle.qh_accounts.proofs.AccountedFrames.{acked_accounted, acked_all_accounted, handed_accounted, handed_all_accounted, lost_accounted, lost_all_accounted, received_accounted, taken_back_accounted, written_accounted}
use Rattle.qh_accounts.proofs.laws.accounted.Goals as goal

pub returns-clause-all_closed : goal.returns-clause-all_closed
returns-clause-all_closed c = all_closed

pub returns-clause-not_all_closed : goal.returns-clause-not_all_closed
returns-clause-not_all_closed c = not_all_closed

pub returns-clause-peer : goal.returns-clause-peer
returns-clause-peer c = peer_accounted

pub returns-clause-max_concurrent : goal.returns-clause-max_concurrent
returns-clause-max_concurrent c = concurrent_accounted

pub returns-clause-send_window : goal.returns-clause-send_window
returns-clause-send_window c = send_window_accounted

pub returns-clause-receive_window : goal.returns-clause-receive_window
returns-clause-receive_window c = receive_window_accounted

pub returns-clause-accepted : goal.returns-clause-accepted
returns-clause-accepted c = accept_accounted

pub returns-clause-opened : goal.returns-clause-opened
returns-clause-opened c = opened_accounted

pub returns-clause-sending : goal.returns-clause-sending
returns-clause-sending c = sending_accounted

pub returns-clause-blocked : goal.returns-clause-blocked
returns-clause-blocked c = blocked_accounted

pub returns-clause-begun : goal.returns-clause-begun
returns-clause-begun c = begun_accounted

pub returns-clause-receiving : goal.returns-clause-receiving
returns-clause-receiving c = receiving_accounted

pub returns-clause-read : goal.returns-clause-read
returns-clause-read c = read_accounted

pub returns-clause-chunk : goal.returns-clause-chunk
returns-clause-chunk c = chunk_accounted

pub returns-clause-polled : goal.returns-clause-polled
returns-clause-polled c = polled_accounted

pub returns-clause-received : goal.returns-clause-received
returns-clause-received c = received_accounted

pub returns-clause-handed : goal.returns-clause-handed
returns-clause-handed c = handed_accounted

pub returns-clause-handed_all : goal.returns-clause-handed_all
returns-clause-handed_all c = handed_all_accounted

pub returns-clause-written : goal.returns-clause-written
returns-clause-written c = written_accounted

pub returns-clause-written_by : goal.returns-clause-written_by
returns-clause-written_by c = λ room old new bytes_old bytes_new sent_old sent_new p a. written_accounted room old new p.frames p.bytes p.written a

pub returns-clause-taken_back : goal.returns-clause-taken_back
returns-clause-taken_back c = taken_back_accounted

pub returns-clause-lost : goal.returns-clause-lost
returns-clause-lost c = lost_accounted

pub returns-clause-lost_all : goal.returns-clause-lost_all
returns-clause-lost_all c = lost_all_accounted

pub returns-clause-acked : goal.returns-clause-acked
returns-clause-acked c = acked_accounted

pub returns-clause-acked_all : goal.returns-clause-acked_all
returns-clause-acked_all c = acked_all_accounted
