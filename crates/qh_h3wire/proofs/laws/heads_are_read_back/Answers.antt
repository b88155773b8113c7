use Rattle.qh_h3wire.proofs.ReadBack.{decoded, lines_taken, not_refused, request, makes_target, same_target_read, no_request_fault, response, trailers}
use Rattle.qh_h3wire.proofs.laws.heads_are_read_back.Goals as goal

pub returns-clause-decoded : goal.returns-clause-decoded
returns-clause-decoded c = decoded

pub returns-clause-taken : goal.returns-clause-taken
returns-clause-taken c = lines_taken

pub returns-clause-not_refused : goal.returns-clause-not_refused
returns-clause-not_refused c = not_refused

pub returns-clause-request : goal.returns-clause-request
returns-clause-request c = request

pub returns-clause-makes_target : goal.returns-clause-makes_target
returns-clause-makes_target c = makes_target

pub returns-clause-same_target : goal.returns-clause-same_target
returns-clause-same_target c = same_target_read

pub returns-clause-no_fault : goal.returns-clause-no_fault
returns-clause-no_fault c = no_request_fault

pub returns-clause-response : goal.returns-clause-response
returns-clause-response c = response

pub returns-clause-trailers : goal.returns-clause-trailers
returns-clause-trailers c = trailers
