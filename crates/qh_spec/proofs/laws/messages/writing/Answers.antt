use Rattle.qh_spec.proofs.WrittenLaws.{valid_written, response_written, map_written}
use Rattle.qh_spec.proofs.laws.messages.writing.Goals as goal

pub returns-clause-request : goal.returns-clause-request
returns-clause-request c = valid_written

pub returns-clause-response : goal.returns-clause-response
returns-clause-response c = response_written

pub returns-clause-trailers : goal.returns-clause-trailers
returns-clause-trailers c = map_written
