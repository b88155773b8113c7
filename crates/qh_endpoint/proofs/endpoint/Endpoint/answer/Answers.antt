use Rattle.std.proofs.Common.{sym}
use Rattle.qh_endpoint.proofs.After.{closing_unanswered, unknown_answered, unknown_unanswered, waiting_unanswered}
use Rattle.qh_endpoint.specs.Handled.{ignored, refused, attempt}
use Rattle.qh_endpoint.proofs.endpoint.Endpoint.answer.Goals as goal

pub returns-in-Ignored-clause-handled : goal.returns-in-Ignored-clause-handled
returns-in-Ignored-clause-handled g c = λ log h is route judged. ignored h is route (rw c.in-Ignored.is at judged) c.requires.written

pub returns-in-Unknown-clause-handled : goal.returns-in-Unknown-clause-handled
returns-in-Unknown-clause-handled g c = unknown_answered g.K.G.ConnectionIdGenerator.cid_len g.K.G.ConnectionIdGenerator.validates _ _ _ _ _ _ c.args.now c.args.addresses.now c.args.datagram
    c.stateless_reset.result c.args.self.now c.stateless_reset.new.self c.args.stranger c.in-Unknown.id c.stateless_reset.new.buf.items c.len.result c.in-Unknown.is (sym c.len.ensures.value) c.stateless_reset.ensures.reset

pub returns-in-Unknown-clause-err : goal.returns-in-Unknown-clause-err
returns-in-Unknown-clause-err g c = let e = c.stateless_reset.ensures in unknown_unanswered g.K.G.ConnectionIdGenerator.cid_len g.K.G.ConnectionIdGenerator.validates _ _ _ _ _ _ c.args.now c.args.addresses.now c.args.datagram
    c.stateless_reset.result c.args.self.now c.stateless_reset.new.self c.args.stranger c.in-Unknown.id c.stateless_reset.new.buf.items c.len.result c.in-Unknown.is (sym c.len.ensures.value) e.late e.long e.drawn e.err e.unwritten

pub returns-in_ok-transmit-in-Refused-clause-handled : goal.returns-in_ok-transmit-in-Refused-clause-handled
returns-in_ok-transmit-in-Refused-clause-handled g c = λ log h is route judged. rw c.in_ok-transmit-in-Refused.ensures.transmit
    (refused h c.args.self.now c.in-Refused.destination c.in-Refused.source c.in-Refused.code is route (rw c.in-Refused.is at judged) (rw c.error_of-error.ensures at c.in_ok-transmit-in-Refused.ensures.closed))

pub returns-in_err-transmit-in-Refused-clause-err : goal.returns-in_err-transmit-in-Refused-clause-err
returns-in_err-transmit-in-Refused-clause-err g c = closing_unanswered g.K.G.ConnectionIdGenerator.cid_len g.K.G.ConnectionIdGenerator.validates _ _ _ _ _ _ c.args.now c.args.addresses.now c.args.datagram _ c.args.self.now c.initial_close.new.self c.args.stranger c.in-Refused.destination c.in-Refused.source c.initial_close.new.buf.items c.in-Refused.code c.in-Refused.is c.in_err-transmit-in-Refused.ensures.err

pub returns-in_ok-incoming-in-Attempt-clause-handled : goal.returns-in_ok-incoming-in-Attempt-clause-handled
returns-in_ok-incoming-in-Attempt-clause-handled g c = λ log h is route judged. attempt h c.args.self.now c.in-Attempt.first c.in-Attempt.server c.in_ok-incoming-in-Attempt.incoming is route
    (rw c.in-Attempt.is at judged) c.in_ok-incoming-in-Attempt.ensures.waiting c.requires.written

pub returns-in_err-incoming-in-Attempt-clause-err : goal.returns-in_err-incoming-in-Attempt-clause-err
returns-in_err-incoming-in-Attempt-clause-err g c = waiting_unanswered g.K.G.ConnectionIdGenerator.cid_len g.K.G.ConnectionIdGenerator.validates _ _ _ _ _ _ c.args.now c.args.addresses.now c.args.datagram _ c.args.self.now c.let_wait.new.self c.args.stranger c.in-Attempt.first c.in-Attempt.server _ c.in-Attempt.is c.in_err-incoming-in-Attempt.ensures.err c.requires.written
